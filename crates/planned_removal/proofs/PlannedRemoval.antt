-- The planned removal, with the header that was read. Assumes nothing.
use mathlib.Core.Path.{◌≡◌, refl, sym, ◌∙◌}
use mathlib.Core.Bool.{true}
use mathlib.Core.List.{List, [], ◌∷◌}
use Prim.Native.Nat.{ℕ, zero, suc, ◌≤◌, ◌<◌}
use native.Mathlib.Omega.{arith}
use lib.ListN.{length, get_or, set, take, replicate, take-append-drop, get_or-replicate}
use Rattle.config.proofs.Limits.{cap_small}
use Rattle.config.proofs.Lists.{All, all_map, all_both}
use Rattle.table.specs.declared.TemplateRecord.{TemplateRecord}
use Rattle.table.specs.Layout.{limits_of, held_count}
use Rattle.table.specs.Table.{table_of, records}
use Rattle.table.specs.Reads.{label_or_none}
use Rattle.table.specs.WellFormed.{well_formed}
use Rattle.table.proofs.Facts.{LegalRecord, words_say}
use Rattle.table_entries.specs.Stays.{stays}
use Rattle.table_entries.proofs.LabelSums.{zeros}
use Rattle.table_entries.proofs.Swept.{swept_alike}
use Rattle.table_view.proofs.AllStay.{unaged_stay}
use Rattle.table_records.specs.Choose.{skip_all, set_each, skipping}
use Rattle.pending_flows.specs.declared.header.Header.{Header}
use Rattle.pending_flows.specs.Header.{HoldsCache}
use Rattle.pending_calls.specs.declared.removal.Removed.{Removed}
use Rattle.pending_calls.specs.Removal.{everything, SkipsWhole, RemovesFrom}
use Rattle.pending_calls.proofs.NoneRemoved.{removes_alike, all_swept_stay}
use Rattle.offer_plan.specs.declared.plan.OfferPlan.{OfferPlan}
use Rattle.offer_plan.specs.Plan.{plan_test, skip_of, KeepsAll, NoneExpired}
use Rattle.offer_plan.proofs.Skips.{skips_long}
use Rattle.offer_plan.proofs.Tables.{short}
use Rattle.planned_removal.specs.Planned.{RemovesPlanned}

module _ (w : List ℕ) (n : ℕ) {h : Header} (holds : HoldsCache h w n) (clock apart : ℕ) (plan : OfferPlan)
    {w' : List ℕ} {r : Removed} where
  -- where nothing goes
  pub none_planned : KeepsAll w clock plan → plan.none ≡ true →
      RemovesFrom everything apart (replicate 1024 0)
      w w' r →
      RemovesPlanned clock plan apart w w' r
  none_planned keeps none done = removes_alike (all_swept_stay w n holds.legal ∙ sym (keeps none)) done

-- ---- only whole templates go

-- of a label nothing is skipped, or all
AllOrNone : List ℕ → ℕ → Type 0
AllOrNone skip k = 0 < get_or skip k 0 → get_or skip k 0 ≡ skip_all

one_more : (skip : List ℕ) (label k : ℕ) → AllOrNone skip k → AllOrNone (set skip label skip_all) k
unfolding AllOrNone
one_more [] label k whole = whole
one_more (x ∷ skip) zero zero whole = λ _. refl
one_more (x ∷ skip) zero (suc k) whole = whole
one_more (x ∷ skip) (suc label) zero whole = whole
one_more (x ∷ skip) (suc label) (suc k) whole = one_more skip label k whole

each_more : (skip : List ℕ) (rs : List TemplateRecord) (k : ℕ) → AllOrNone skip k → AllOrNone (skipping skip rs) k
unfolding set_each
each_more skip [] k whole = whole
each_more skip (r ∷ rs) k whole = each_more (set skip r.label skip_all) rs k (one_more skip r.label k whole)

module _ (w b : List ℕ) (ok : well_formed w (length b) ≡ true) (clock apart : ℕ) (plan : OfferPlan) where
  planned_at : (k : ℕ) → k < 1024 → AllOrNone (skip_of w plan) k
  unfolding skip_of AllOrNone
  planned_at k small =
      let leaving = take plan.evicted (table_of w).held in
      one_more (skipping (skipping zeros leaving) (table_of w).handed) (label_or_none plan.first) k
      (each_more (skipping zeros leaving) (table_of w).handed k
      (each_more zeros leaving k
      (λ some. absurd (omega (arith, get_or-replicate {A = ℕ} 1024 k 0 0 small)))))

  pub planned_whole : {skip : List ℕ} → skip ≡ skip_of w plan → SkipsWhole skip (records w)
  unfolding AllOrNone
  planned_whole is =
      let legal = words_say w (length b) ok in
      let Legal = LegalRecord (limits_of w) (table_of w).entries in
      let all : All Legal (records w) =
      rw (take-append-drop (held_count w) (records w)) at legal.table_legal_lem.records_legal in
      let cap = cap_small (limits_of w) (length b) (length w) legal.limits_legal_lem in
      rw is
      (record {
        long = skips_long w plan;
        whole = all_map Legal (λ r. (0 < get_or (skip_of w plan) r.label 0 → r.count
            ≤ get_or (skip_of w plan) r.label 0))
            (λ r h some. omega (arith, planned_at r.label h.label_small some, h.within_cap)) (records w) all;
      })

  pub whole_planned : {skip w' : List ℕ} {r : Removed} → NoneExpired w clock plan → plan.none_expired ≡ true →
      skip ≡ skip_of w plan →
      RemovesFrom everything apart skip w w' r →
      RemovesPlanned clock plan apart w w' r
  whole_planned stay unaged skips done =
      let q = plan_test (limits_of w) clock plan in
      let es = (table_of w).entries in
      let alike =
      all_both (λ e. stays everything e ≡ true) (λ e. stays q e ≡ true) (λ e. stays everything e ≡ stays q e)
      (λ e x y. x ∙ sym y) es (unaged_stay everything es refl (short w b ok)) (stay unaged) in
      removes_alike (swept_alike everything q (skip_of w plan) es alike) (rw skips at done)

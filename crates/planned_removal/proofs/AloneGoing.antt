-- Which template goes alone: where nothing is handed out, the one that goes for room, or the least recent one where one
-- goes for its bytes and none for room. Assumes nothing.
use Rattle.std.proofs.Common.{Option, Some, None}
use Rattle.std.proofs.lemmas.Option.{none-some, same_Some}
use mathlib.Core.Path.{◌≡◌, refl, sym, ap, subst, ◌∙◌}
use mathlib.Core.Bool.{Bool, true, cond}
use mathlib.Core.List.{List, [], ◌∷◌}
use Prim.Native.Nat.{ℕ, ◌+◌, ◌*◌}
use native.Mathlib.Omega.{arith}
use lib.ListN.{length, set, take, replicate, length-set, length-replicate}
use lib.Seq.{set_out}
use Rattle.config.specs.declared.PendingFlowsConfig.{PendingFlowsConfig}
use Rattle.config.specs.Limits.{record_words}
use Rattle.table.specs.declared.TemplateRecord.{TemplateRecord}
use Rattle.table.specs.Layout.{limits_of, held_count, entry_count, chance_count, records_at}
use Rattle.table.specs.Table.{table_of, records_from}
use Rattle.table.specs.Parts.{templates_of}
use Rattle.table.specs.Passes.{label_of_first}
use Rattle.table.specs.Reads.{label_or_none}
use Rattle.table.specs.WellFormed.{well_formed}
use Rattle.table.proofs.Words.{records_none, first_records, records_behind}
use Rattle.table_entries.specs.declared.StayTest.{StayTest}
use Rattle.table_entries.proofs.LabelSums.{zeros}
use Rattle.table_records.specs.Choose.{skip_all, set_each, skipping}
use Rattle.pending_flows.specs.declared.header.HeaderFigures.{HeaderFigures}
use Rattle.pending_flows.specs.declared.header.Header.{Header}
use Rattle.pending_flows.specs.Header.{HoldsCache}
use Rattle.pending_calls.specs.declared.removal.Removed.{Removed}
use Rattle.pending_calls.specs.Removal.{everything, unexpired, Removes, RemovesFrom}
use Rattle.offer_plan.specs.declared.plan.OfferPlan.{OfferPlan}
use Rattle.offer_plan.specs.Plan.{plan_test, skip_of, NoneExpired}
use Rattle.planned_removal.specs.Planned.{RemovesPlanned}
use Rattle.planned_removal.specs.Alone.{GoesAlone, OnlyExpired}
use Rattle.planned_removal.proofs.PlannedRemoval.{whole_planned}

zeros_long : length zeros ≡ 1024
zeros_long = length-replicate {A = ℕ} 1024 0

-- all bodies of the first record are skipped
first_skipped : (rs : List TemplateRecord) (label : ℕ) → label_of_first rs ≡ Some label →
    skipping zeros (take 1 rs) ≡ set zeros label skip_all
unfolding set_each
first_skipped [] label e = absurd (none-some label e)
first_skipped (r ∷ rs) label e = rw (same_Some r.label label e) refl

module _ (w : List ℕ) (n : ℕ) {h : Header} (holds : HoldsCache h w n) (plan : OfferPlan) where
  -- where no label is told
  pub none_alone : (label : ℕ) → None ≡ Some label → GoesAlone w plan label
  none_alone label e = absurd (none-some label e)

  module _ (none : h.figures.chance ≡ 0) where
    none_handed : (table_of w).handed ≡ []
    none_handed =
        let chance : chance_count w ≡ 0 = ap (λ (g : HeaderFigures). g.chance) (sym holds.figures) ∙ none in
        let p = records_at (limits_of w) in
        records_behind w p (held_count w) (chance_count w)
        ∙ records_none w (p + record_words * held_count w) (chance_count w) (omega arith)

    -- no template goes, and none is skipped
    none_skipped : plan.evicted ≡ 0 → plan.first ≡ None → skip_of w plan ≡ zeros
    unfolding skip_of set_each
    none_skipped evicts unroomed =
        rw (none_handed, evicts, unroomed) (set_out zeros 1024 skip_all (omega (arith, zeros_long)))

  module _ (unaged : plan.none_expired ≡ true) (none : h.figures.chance ≡ 0) where
    pub room_alone : plan.evicted ≡ 0 → (label : ℕ) → plan.first ≡ Some label → GoesAlone w plan label
    unfolding skip_of set_each
    room_alone evicts label e = record { none_expired = unaged; skips = rw (none_handed none, evicts, e) }

    pub least_alone : plan.evicted ≡ 1 → plan.first ≡ None → (r : Option ℕ) (p : ℕ) (parts : List (List ℕ)) →
        p ≡ records_at h.limits → templates_of parts ≡ records_from w p h.figures.templates →
        r ≡ label_of_first (templates_of parts) → (label : ℕ) → r ≡ Some label → GoesAlone w plan label
    unfolding skip_of set_each
    least_alone evicts unroomed r p parts from rows is label e =
        let held : (table_of w).held ≡ records_from w (records_at (limits_of w)) (held_count w) =
        first_records w (records_at (limits_of w)) (held_count w) (chance_count w) in
        let held_rows : templates_of parts ≡ (table_of w).held =
        rows ∙ rw (from, holds.limits, holds.figures) (sym held) in
        let one : skipping zeros (take 1 (table_of w).held) ≡ set zeros label skip_all =
        first_skipped (table_of w).held label (ap label_of_first (sym held_rows) ∙ sym is ∙ e) in
        let long = length-set zeros label skip_all in
        record {
          none_expired = unaged;
          skips = rw (none_handed none, evicts, one, unroomed)
              (set_out (set zeros label skip_all) 1024 skip_all (omega (arith, zeros_long, long)));
        }

-- the removal of the one template is the planned one
pub alone_removed : (w b : List ℕ) (ok : well_formed w (length b) ≡ true) (clock apart label : ℕ) (plan : OfferPlan)
    {x : Option ℕ} {w' : List ℕ} {r : Removed} → NoneExpired w clock plan →
    ((k : ℕ) → x ≡ Some k → GoesAlone w plan k) → x ≡ Some label →
    RemovesFrom everything apart
    (set (replicate 1024 0) label skip_all) w w' r →
    RemovesPlanned clock plan apart w w' r
alone_removed w b ok clock apart label plan stay alone told done =
    let goes = alone label told in
    whole_planned w b ok clock apart plan stay goes.none_expired (sym goes.skips) done

-- the removal of the expired bodies of the id is the planned one
pub expired_alone : (w : List ℕ) (n : ℕ) {h : Header} (holds : HoldsCache h w n) (clock : ℕ) (apart : Option ℕ)
    (plan : OfferPlan) {w' : List ℕ} {r : Removed} (t : Bool) →
    (t ≡ true → OnlyExpired h.figures plan apart) → t ≡ true → {a : ℕ} → a ≡ label_or_none apart →
    RemovesFrom (unexpired h.limits.ttl clock a) a (replicate 1024 0) w w' r →
    RemovesPlanned clock plan (label_or_none apart) w w' r
expired_alone w n {h} holds clock apart plan {w'} {r} t certainly sure is removed =
    let done = rw is at removed in
    let only = certainly sure in
    let p = records_at (limits_of w) in
    let k = held_count w + chance_count w in
    let a = label_or_none apart in
    let skips = none_skipped w n holds plan only.hands_none only.evicts_none only.none_for_room in
    let tests : plan_test (limits_of w) clock plan ≡ unexpired h.limits.ttl clock a =
    ap (λ (t : Bool). test_of (limits_of w).ttl t (label_or_none plan.label)) only.one_id
    ∙ ap (λ (x : Option ℕ). unexpired (limits_of w).ttl clock (label_or_none x)) only.own
    ∙ ap (λ (c : PendingFlowsConfig). unexpired c.ttl clock a) (sym holds.limits) in
    subst (λ (q : StayTest). Removes q p k (entry_count w) a (skip_of w plan) w w' r) (sym tests)
    (subst (λ (skip : List ℕ). Removes (unexpired h.limits.ttl clock a) p k (entry_count w) a skip w w' r)
    (sym skips) done)
  where
    test_of : Option ℕ → Bool → ℕ → StayTest
    test_of ttl all label = record {
      ttl = ttl;
      clock = clock;
      only = cond all None (Some label);
      max_size = 18446744073709551615;
    }

-- How many of each label's bodies an offer skips: all of the templates that go, and of what is handed out.
-- Assumes nothing.
use mathlib.Core.Path.{◌≡◌, refl, sym, ap, ◌∙◌}
use mathlib.Core.Logic.{◌≢◌}
use mathlib.Core.Bool.{Bool, true, false, cond}
use mathlib.Core.List.{List}
use Prim.Native.Nat.{ℕ, ◌<◌}
use native.Mathlib.Omega.{arith}
use lib.Dec.{eqb}
use lib.ListN.{length, get_or, set, take, length-set, length-replicate, get_or-replicate}
use lib.Seq.{get_or-set_same, get_or-set_other}
use borrow.Author.Tests.{eqb-true, eqb-false}
use Rattle.config.proofs.Lists.{All, all_both}
use Rattle.table.specs.declared.TemplateRecord.{TemplateRecord}
use Rattle.table.specs.Table.{table_of, has_label}
use Rattle.table.specs.Reads.{label_or_none}
use Rattle.table.proofs.Labels.{absent_holds, own_labels}
use Rattle.table_entries.proofs.LabelSums.{zeros}
use Rattle.table_records.specs.Choose.{skip_all, skipping}
use Rattle.table_records.proofs.Skips.{length_skipping, skipping_at}
use Rattle.offer_plan.specs.declared.plan.OfferPlan.{OfferPlan}
use Rattle.offer_plan.specs.Plan.{skip_of}

one_at : (label k : ℕ) (skip : List ℕ) → k < length skip →
    get_or (set skip label skip_all) k 0 ≡ cond (eqb k label) skip_all (get_or skip k 0)
one_at label k skip h = by_label (eqb k label) refl
  where
    by_label : (t : Bool) → eqb k label ≡ t → get_or (set skip label skip_all) k 0 ≡ cond t skip_all (get_or skip k 0)
    by_label true e =
        let z : label ≡ k = sym (eqb-true k label e) in
        rw z (get_or-set_same skip k skip_all 0 h)
    by_label false e = get_or-set_other skip label k skip_all 0 (eqb-false k label e)

-- past the last label nothing is set
pub none_set : set zeros 1024 skip_all ≡ zeros
none_set = refl

same_either_way : (t : Bool) → cond t skip_all skip_all ≡ skip_all
same_either_way true = refl
same_either_way false = refl

-- of these records, and of what is handed out, all bodies are skipped, and those of one label more
module _ (leaving handed : List TemplateRecord) (label : ℕ) where
  abbrev skipped : List ℕ
  skipped = set (skipping (skipping zeros leaving) handed) label skip_all

  first_long : length (skipping zeros leaving) ≡ 1024
  first_long = length_skipping zeros leaving ∙ length-replicate {A = ℕ} 1024 0

  pub both_long : length (skipping (skipping zeros leaving) handed) ≡ 1024
  both_long = length_skipping (skipping zeros leaving) handed ∙ first_long

  skipped_long : length skipped ≡ 1024
  skipped_long = length-set (skipping (skipping zeros leaving) handed) label skip_all ∙ both_long

  module _ (k : ℕ) (small : k < 1024) where
    skipped_at : get_or skipped k 0
        ≡ cond (eqb k label) skip_all (cond (has_label k handed) skip_all (cond (has_label k leaving) skip_all 0))
    skipped_at =
        one_at label k (skipping (skipping zeros leaving) handed) (omega (arith, both_long))
        ∙ ap (λ (n : ℕ). cond (eqb k label) skip_all n)
        (skipping_at k (skipping zeros leaving) handed (omega (arith, first_long))
        ∙ ap (λ (n : ℕ). cond (has_label k handed) skip_all n)
        (skipping_at k zeros leaving (omega (arith, length-replicate {A = ℕ} 1024 0))
        ∙ ap (λ (n : ℕ). cond (has_label k leaving) skip_all n) (get_or-replicate 1024 k 0 0 small)))

    -- a held template
    pub held_skipped : All (λ u. k ≢ u.label) handed →
        get_or skipped k 0 ≡ cond (eqb k label) skip_all (cond (has_label k leaving) skip_all 0)
    held_skipped apart = rw (absent_holds k handed apart) at skipped_at

    -- what is handed out
    handed_skipped : has_label k handed ≡ true → get_or skipped k 0 ≡ skip_all
    handed_skipped h = (rw h at skipped_at) ∙ same_either_way (eqb k label)

  pub all_handed_skipped : All (λ u. u.label < 1024) handed → All (λ u. get_or skipped u.label 0 ≡ skip_all) handed
  all_handed_skipped small =
      all_both (λ u. u.label < 1024) (λ u. has_label u.label handed ≡ true)
      (λ u. get_or skipped u.label 0 ≡ skip_all) (λ u s h. handed_skipped u.label s h)
      handed small (own_labels handed)

-- a number for each label
pub skips_long : (w : List ℕ) (r : OfferPlan) → length (skip_of w r) ≡ 1024
unfolding skip_of
skips_long w r = skipped_long (take r.evicted (table_of w).held) (table_of w).handed (label_or_none r.first)

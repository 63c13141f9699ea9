-- What is known of the header as it was read off well-formed words. Assumes nothing.
use Rattle.std.proofs.Common.{Option}
use mathlib.Core.Path.{◌≡◌, sym, ap, subst, ◌∙◌}
use mathlib.Core.List.{List}
use Prim.Native.Nat.{ℕ}
use Rattle.table.specs.Layout.{limits_of, held_count, chance_count, records_at}
use Rattle.table.specs.Table.{table_of, records_from}
use Rattle.table.specs.Reads.{label_of, label_or_none}
use Rattle.table.proofs.FoundLabels.{label_for}
use Rattle.pending_flows.specs.declared.header.Header.{Header}
use Rattle.pending_flows.specs.Header.{HoldsCache, header_at}
use Rattle.pending_flows.proofs.Questions.{header_is, first_records}

-- the header that was read is the words'
module _ (w : List ℕ) (n : ℕ) {h : Header} (holds : HoldsCache h w n) where
  pub as_read : (T : Header → Type 0) → T (header_at w) → T h
  as_read T t = subst T (sym (header_is w n holds)) t

  -- and the label of an id
  module _ (i : ℕ) {x : Option ℕ}
      (labelled : x ≡ label_of i (records_from w (records_at h.limits) h.figures.templates)) where
    held_labelled : label_or_none x ≡ label_for i (table_of w).held
    held_labelled =
        ap label_or_none labelled
        ∙ as_read
        (λ h. label_for i (records_from w (records_at h.limits) h.figures.templates) ≡ label_for i (table_of w).held)
        (ap (label_for i) (sym (first_records w (records_at (limits_of w)) (held_count w) (chance_count w))))

    pub as_labelled : (T : Header → ℕ → Type 0) → T (header_at w) (label_for i (table_of w).held) →
        T h (label_or_none x)
    as_labelled T t = as_read (λ h. T h (label_or_none x)) (subst (T (header_at w)) (sym held_labelled) t)

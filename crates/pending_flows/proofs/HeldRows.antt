-- The records and the entries that a header tells of. Assumes nothing.
use mathlib.Core.Path.{◌≡◌, refl, sym, ap, ◌∙◌}
use mathlib.Core.List.{List}
use Prim.Native.Nat.{ℕ, ◌+◌, ◌*◌}
use native.Mathlib.Omega.{arith}
use lib.ListN.{length, take, drop}
use Rattle.std.specs.List.{drop-map, take-map}
use Rattle.config.specs.Limits.{record_words}
use Rattle.table.specs.Layout.{limits_of, records_at}
use Rattle.table.specs.Table.{records_from}
use Rattle.table.specs.Parts.{template_of, templates_of}
use Rattle.table.proofs.Words.{records_behind, first_records}
use Rattle.table.proofs.Facts.{words_say}
use Rattle.pending_flows.specs.declared.header.Header.{Header}
use Rattle.pending_flows.specs.Header.{HoldsCache, HoldsRows}
use Rattle.pending_flows.proofs.Questions.{header_is, entries_within, bodies_few}

-- what a cache's header tells of lies within the words
pub rows_held : (w : List ℕ) (n : ℕ) {h : Header} → HoldsCache h w n → HoldsRows h w
rows_held w n {h} holds = rw (header_is w n holds) record {
  bodies_few = bodies_few w n holds.legal (limits_of w) refl;
  entries_within = entries_within w n holds.legal;
  records_within =
      let legal = words_say w n holds.legal in
      omega (arith, legal.templates_fit, legal.limits_legal_lem.words_enough);
}

-- of all records that were read the first are held, and the last is handed out
module _ (w : List ℕ) (h : Header) (parts : List (List ℕ))
    (read : templates_of parts ≡ records_from w (records_at h.limits) (h.figures.templates + h.figures.chance)) where
  pub held_read : {held : List (List ℕ)} → held ≡ take h.figures.templates parts →
      templates_of held ≡ records_from w (records_at h.limits) h.figures.templates
  held_read front =
      rw front
      (sym (take-map template_of h.figures.templates parts)
      ∙ ap (take h.figures.templates) read
      ∙ first_records w (records_at h.limits) h.figures.templates h.figures.chance)

  pub handed_read : {handed : List (List ℕ)} → handed ≡ drop h.figures.templates parts →
      templates_of handed ≡ records_from w (records_at h.limits + record_words * h.figures.templates) h.figures.chance
  handed_read back =
      rw back
      (sym (drop-map template_of h.figures.templates parts)
      ∙ ap (drop h.figures.templates) read
      ∙ records_behind w (records_at h.limits) h.figures.templates h.figures.chance)

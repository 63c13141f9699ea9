-- Whether there is the chance of a put-back, read off the record behind the held ones. Assumes nothing.
use Rattle.std.proofs.Common.{Option, Some, None}
use mathlib.Core.Path.{◌≡◌, refl, sym, subst, ◌∙◌}
use mathlib.Core.Bool.{Bool, true, false, cond, and-false}
use mathlib.Core.List.{List, [], ◌∷◌, ◌++◌}
use Prim.Native.Nat.{ℕ, ◌+◌, ◌*◌, ◌<◌}
use native.Mathlib.Omega.{arith}
use lib.Dec.{eqb}
use lib.ListN.{length}
use borrow.Author.Tests.{eqb-true, leb-true, lt-leb}
use Rattle.std.specs.List.{find}
use Rattle.config.specs.Limits.{record_words}
use Rattle.config.proofs.Lists.{All, all_back}
use Rattle.config.proofs.Tests.{and_left, and_right}
use Rattle.table.specs.declared.TemplateRecord.{TemplateRecord}
use Rattle.table.specs.Layout.{limits_of, held_count, chance_count, records_at}
use Rattle.table.specs.Table.{table_of, records_from, tally}
use Rattle.table.proofs.Facts.{LegalWords, words_say}
use Rattle.table.proofs.Words.{records_behind}
use Rattle.cache_model.specs.Calls.{may_put_back}
use Rattle.pending_flows.specs.declared.header.Header.{Header}
use Rattle.pending_flows.specs.Header.{HoldsCache}
use Rattle.pending_flows.specs.View.{bodies_at, cache_of}
use Rattle.pending_flows.proofs.Templates.{length_bodies}
use Rattle.table_view.proofs.Tied.{words_tied}
use Rattle.pending_drain.proofs.AsRead.{as_read}
use Rattle.pending_drain.proofs.LegalRows.{handed_single}
use Rattle.pending_restore.specs.Restoring.{may_give, HasChance, FindsChance}

module _ (w b : List ℕ) (id n : ℕ) {h : Header} (holds : HoldsCache h w (length b)) (some : 0 < n) where
  legal : LegalWords w (length b)
  legal = words_say w (length b) holds.legal

  -- nothing is found where there is no chance
  nothing : may_put_back id n (cache_of (table_of w) b) ≡ false → FindsChance id n w b None
  nothing e = record {
    absent = λ _. e;
    found = λ t f. let z : ◌≡◌ {A = ℕ} 0 1 = cc in absurd (omega arith);
  }

  -- where one template is handed out
  module _ (t : TemplateRecord) (one : (table_of w).handed ≡ t ∷ []) where
    counted : length (bodies_at b t.label (table_of w).entries) ≡ t.count
    counted =
        let es = (table_of w).entries in
        let right = subst (λ (rs : List TemplateRecord). All (λ r. r.count ≡ tally r.label es)
        ((table_of w).held ++ rs)) one (words_tied w (length b) legal).counts_right in
        length_bodies b t.label es
        ∙ sym (all_back (λ r. r.count ≡ tally r.label es) (table_of w).held (t ∷ []) right).0

    by_test : (v : Bool) → may_give id n t ≡ v → FindsChance id n w b (cond v (Some t) None)
    by_test true e = record {
      absent = λ e. let z : ◌≡◌ {A = ℕ} 0 1 = cc in absurd (omega arith);
      found = λ u f. let is : t ≡ u = cc in
          subst (λ (x : TemplateRecord). (id ≡ x.key) × HasChance n x w) is
          (eqb-true id t.key (and_left _ _ e), record { handed = one; enough = leb-true n t.count (and_right _ _ e) });
    }
    by_test false e = nothing (rw (one, counted) e)

  by_rows : (rs : List TemplateRecord) → (table_of w).handed ≡ rs → FindsChance id n w b (find (may_give id n) rs)
  by_rows [] e = nothing (rw (e, lt-leb n 0 some) (and-false (eqb id 0)))
  by_rows (t ∷ []) e = by_test t e (may_give id n t) refl
  by_rows (t ∷ u ∷ us) e = absurd (omega (arith, rw e at (handed_single w b legal)))

  -- the record that is found behind the held ones
  pub chance_found : {rs : List TemplateRecord} →
      rs ≡ records_from w (records_at h.limits + record_words * h.figures.templates) h.figures.chance →
      {x : Option TemplateRecord} → x ≡ find (may_give id n) rs → FindsChance id n w b x
  chance_found {rs} read sought =
      rw sought
      (by_rows rs
      (sym (read
      ∙ as_read w (length b) holds
      (λ h. records_from w (records_at h.limits + record_words * h.figures.templates) h.figures.chance
      ≡ (table_of w).handed)
      (sym (records_behind w (records_at (limits_of w)) (held_count w) (chance_count w))))))

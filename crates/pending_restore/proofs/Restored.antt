-- A well-formed cache and its words through the steps of a put-back. Assumes nothing.
use mathlib.Core.Path.{◌≡◌, refl, sym, ap, subst, ◌∙◌}
use mathlib.Core.Bool.{true}
use mathlib.Core.List.{List, [], ◌∷◌, ◌++◌}
use Prim.Native.Nat.{ℕ, ◌+◌, ◌*◌, ◌-◌, ◌<◌}
use native.Mathlib.Nat.{add-zero}
use native.Mathlib.Omega.{arith}
use lib.ListN.{length, take, drop, take-append-drop}
use borrow.Author.Tests.{eq-eqb, ne_eqb, le-leb}
use Rattle.config.specs.Limits.{record_words, words_needed}
use Rattle.config.proofs.Lists.{all_back}
use Rattle.areas.proofs.Puts.{drop_more}
use Rattle.table.specs.declared.Entry.{Entry}
use Rattle.table.specs.declared.TemplateRecord.{TemplateRecord}
use Rattle.table.specs.Layout.{limits_of, cached_word, dropped_word, held_count, chance_count, entries_at}
use Rattle.table.specs.Layout.{records_at}
use Rattle.table.specs.Table.{table_of, entries_from, records_from, records, index, tally}
use Rattle.table.specs.WellFormed.{well_formed}
use Rattle.table.proofs.Facts.{Placed, LegalWords, words_say}
use Rattle.table.proofs.Words.{records_behind}
use Rattle.table_records.specs.Close.{closed}
use Rattle.cache_model.specs.Bodies.{Template}
use Rattle.cache_model.specs.Cache.{Cache, Outcome, done, no_chance}
use Rattle.cache_model.specs.Calls.{may_put_back, restored, put_back}
use Rattle.cache_model.proofs.Calls.{put_back_keeps}
use Rattle.pending_flows.specs.declared.header.HeaderFigures.{HeaderFigures}
use Rattle.pending_flows.specs.Header.{header_at}
use Rattle.pending_flows.specs.View.{bodies_at, templates_at, chance_at, areas_of, cache_of}
use Rattle.pending_flows.proofs.Questions.{first_records}
use Rattle.pending_flows.proofs.Templates.{length_bodies}
use Rattle.table_view.proofs.Tied.{Tied, words_tied, no_label_tied}
use Rattle.table_view.proofs.Totals.{lens_owned}
use Rattle.table_view.proofs.Stored.{table_with, legal_limited}
use Rattle.pending_calls.specs.declared.removal.Removed.{Removed}
use Rattle.pending_calls.specs.Promises.{Does}
use Rattle.pending_calls.proofs.Headers.{headed}
use Rattle.pending_calls.proofs.RemovedLemmas.{TiedRows}
use Rattle.pending_restore.specs.Restoring.{HasChance, TakesBack}
use Rattle.pending_drain.proofs.LegalRows.{bodies_within, bodies_short, entries_few, held_limited, removed_tied}
use Rattle.pending_drain.proofs.LegalRows.{removed_placed, removed_bytes}
use Rattle.pending_restore.proofs.RestoredRows as Rows
use Rattle.pending_drain.proofs.Written.{written_frame, written_view}

module _ (w b : List ℕ) (n : ℕ) (t : TemplateRecord) where
  abbrev p : ℕ
  p = records_at (limits_of w)

  abbrev cache : Cache
  cache = cache_of (table_of w) b

  -- the template that is put back
  abbrev back : Template
  back = record { id = t.key; bodies = Rows.back b n (table_of w).held t (table_of w).entries }

  module _ (ok : well_formed w (length b) ≡ true) (some : 0 < n) (chance : HasChance n t w) where
    legal : LegalWords w (length b)
    legal = words_say w (length b) ok

    tied : Tied ((table_of w).held ++ (t ∷ [])) (table_of w).entries (index w)
    tied =
        subst (λ (rs : List TemplateRecord). Tied ((table_of w).held ++ rs) (table_of w).entries (index w))
        chance.handed (words_tied w (length b) legal)

    -- ---- there is the chance

    may_put_back_lem : may_put_back t.key n cache ≡ true
    may_put_back_lem =
        let es = (table_of w).entries in
        let counted = all_back (λ r. r.count ≡ tally r.label es) (table_of w).held (t ∷ []) tied.counts_right in
        rw (chance.handed, eq-eqb t.key t.key refl)
        (le-leb n (length (bodies_at b t.label es))
        (omega (arith, chance.enough, counted.0, length_bodies b t.label es)))

    -- so the template that is put back stands behind the others
    abbrev after : Cache
    after = record {
      limits = cache.limits;
      cached = cache.cached;
      dropped = cache.dropped;
      held = cache.held ++ (back ∷ []);
      chance = no_chance;
    }

    put_back_is : put_back t.key n cache ≡ record { answer = done; cache = after }
    unfolding put_back restored
    put_back_is = rw (ne_eqb n 0 (λ e. omega arith), may_put_back_lem, chance.handed)

    module _ {w' : List ℕ} {r : Removed} (taken : TakesBack (header_at w) t.label (t.count - n) w w' r) where
      abbrev es : List Entry
      es = entries_from w' entries_at r.entries

      abbrev rs : List TemplateRecord
      rs = records_from w' p r.records

      placed : Placed 0 (limits_of w).max_total_bytes es
      placed = removed_placed w b legal taken

      templates_are : templates_at b es rs ≡ cache.held ++ (back ∷ [])
      templates_are =
          let kept = Rows.kept b n (table_of w).held t (table_of w).entries in
          let records_are : rs ≡ closed kept ((table_of w).held ++ (t ∷ [])) =
          taken.records
          ∙ ap (closed kept)
          (sym (take-append-drop (held_count w) (records w))
          ∙ ap (λ (us : List TemplateRecord). (table_of w).held ++ us) chance.handed) in
          rw (taken.entries, records_are)
          (Rows.restored_templates b n (table_of w).held t (table_of w).entries tied (bodies_within w b legal)
          (bodies_short w b legal) (omega (arith, entries_few w b legal)) some chance.enough
          (held_limited w b legal).filled)

      -- the figures of the header that is written
      abbrev figures : HeaderFigures
      figures = record {
        cached = cached_word w;
        dropped = dropped_word w;
        total = r.bytes;
        templates = r.records;
        entries = r.entries;
        chance = 0;
      }

      cache_is : cache_of (table_with (limits_of w) (cached_word w) (dropped_word w) r.bytes r.records
          (records_from w' p (r.records + 0)) es) b ≡ after
      unfolding records_from
      cache_is =
          let all = records_from w' p (r.records + 0) in
          let held : templates_at b es (take r.records all) ≡ cache.held ++ (back ∷ []) =
          ap (templates_at b es) (first_records w' p r.records 0) ∙ templates_are in
          let none : chance_at b es (drop r.records all) ≡ no_chance =
          ap (chance_at b es) (records_behind w' p r.records 0) in
          λ j. record {
            limits = limits_of w;
            cached = cached_word w;
            dropped = dropped_word w;
            held = held j;
            chance = none j;
          }

      pub put_back_does : length w' ≡ length w → Does (put_back t.key n) cache (areas_of w b) done
          (areas_of (headed (limits_of w) figures w') b)
      put_back_does long =
          let tail : drop (words_needed (limits_of w)) w' ≡ drop (words_needed (limits_of w)) w =
          drop_more (words_needed (limits_of w)) (p + record_words * (held_count w + chance_count w)) w' w
          (omega (arith, legal.templates_fit)) taken.tail in
          let left : TiedRows p r.records r.entries w' = no_label_tied (removed_tied w b legal taken) in
          let rows : TiedRows p (r.records + 0) r.entries w' =
          subst (λ (k : ℕ). TiedRows p k r.entries w') (sym (add-zero r.records)) left in
          record {
            answer = ap (λ (o : Outcome). o.answer) (sym put_back_is);
            holds = written_view w b w' legal figures long rows (omega arith) placed
                (removed_bytes w b legal taken ∙ lens_owned rs es left.labels_known)
                (cache_is ∙ ap (λ (o : Outcome). o.cache) (sym put_back_is))
                (put_back_keeps cache (legal_limited w b legal) t.key n);
            frame = written_frame w b w' legal figures long tail;
          }

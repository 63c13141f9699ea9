-- A drain where bodies go: what was handed out goes whole, and of the label the live bodies stay. Assumes nothing.
use Rattle.std.proofs.Common.{Option, Some}
use mathlib.Core.Path.{◌≡◌, refl, sym, ap, subst, ◌∙◌}
use mathlib.Core.List.{List, ◌++◌}
use Prim.Native.Nat.{ℕ, ◌+◌, ◌*◌}
use lib.ListN.{length, take-append-drop}
use Rattle.config.specs.Limits.{record_words}
use Rattle.table.specs.declared.Entry.{Entry}
use Rattle.table.specs.declared.TemplateRecord.{TemplateRecord}
use Rattle.table.specs.Layout.{limits_of, held_count, chance_count, entries_at, records_at}
use Rattle.table.specs.Table.{table_of, entries_from, records_from, records, index, tally}
use Rattle.table.specs.Reads.{label_of, label_or_none, live_count}
use Rattle.table.proofs.Words.{records_behind}
use Rattle.table.proofs.Facts.{LegalWords, words_say}
use Rattle.table_entries.specs.declared.StayTest.{StayTest}
use Rattle.table_entries.specs.Sweep.{swept}
use Rattle.table_records.specs.Choose.{skipping}
use Rattle.pending_flows.specs.declared.header.Header.{Header}
use Rattle.pending_flows.specs.Header.{HoldsCache}
use Rattle.table_view.proofs.Tied.{Tied, words_tied}
use Rattle.pending_calls.specs.declared.removal.Removed.{Removed}
use Rattle.pending_calls.specs.Removal.{unexpired, SkipsWhole, LiveTold, Removes, RemovesFrom}
use Rattle.pending_drain.specs.Handing.{zeros, TakesOut}
use Rattle.pending_drain.proofs.AsRead.{as_read, as_labelled}
use Rattle.pending_drain.proofs.Handing.{nothing_skipped, taken_out}
use Rattle.pending_drain.proofs.LegalRows.{bodies_within, bodies_short, entries_few, handed_single}
use Rattle.pending_drain.proofs.DrainedRows as Rows

module _ (w b : List ℕ) (i : ℕ) {h : Header} (holds : HoldsCache h w (length b)) {x : Option ℕ}
    (labelled : x ≡ label_of i (records_from w (records_at h.limits) h.figures.templates)) (clock : ℕ) {skip : List ℕ}
    (skips : skip ≡ skipping zeros (records_from w (records_at h.limits + record_words * h.figures.templates)
    h.figures.chance)) where
  abbrev a : ℕ
  a = label_or_none x

  abbrev held : List TemplateRecord
  held = (table_of w).held

  abbrev handed : List TemplateRecord
  handed = (table_of w).handed

  abbrev es : List Entry
  es = (table_of w).entries

  legal : LegalWords w (length b)
  legal = words_say w (length b) holds.legal

  tied : Tied (held ++ handed) es (index w)
  tied = words_tied w (length b) legal

  skips_handed : skip ≡ skipping zeros handed
  skips_handed =
      skips
      ∙ as_read w (length b) holds
      (λ h. skipping zeros (records_from w (records_at h.limits + record_words * h.figures.templates) h.figures.chance)
      ≡ skipping zeros handed)
      (ap (skipping zeros) (sym (records_behind w (records_at (limits_of w)) (held_count w) (chance_count w))))

  pub skips_whole : SkipsWhole skip (records w)
  skips_whole =
      subst (SkipsWhole skip) (take-append-drop (held_count w) (records w))
      (rw skips_handed
      (Rows.drained_whole b (limits_of w).ttl i clock held handed es tied (bodies_within w b legal)
      (bodies_short w b legal) (entries_few w b legal) (handed_single w b legal)))

  live_stay : (live : ℕ) → live ≡ live_count h.limits.ttl clock a (entries_from w entries_at h.figures.entries) →
      live ≡ tally a (swept (unexpired h.limits.ttl clock a) skip (entries_from w entries_at h.figures.entries))
  live_stay live read =
      read
      ∙ as_labelled w (length b) holds i labelled
      (λ h a. live_count h.limits.ttl clock a (entries_from w entries_at h.figures.entries)
      ≡ tally a (swept (unexpired h.limits.ttl clock a) skip (entries_from w entries_at h.figures.entries)))
      (rw skips_handed
      (Rows.drained_live_count b (limits_of w).ttl i clock held handed es tied (bodies_within w b legal)
      (bodies_short w b legal) (entries_few w b legal) (handed_single w b legal)))

  pub live_told : {q : StayTest} → q ≡ unexpired h.limits.ttl clock a → (live : ℕ) →
      live ≡ live_count h.limits.ttl clock a (entries_from w entries_at h.figures.entries) →
      LiveTold (Some live) q a (swept q skip (entries_from w entries_at h.figures.entries))
  live_told test live read = rw test (refl, live_stay live read)

  pub some_taken : {q : StayTest} → q ≡ unexpired h.limits.ttl clock a → {w' : List ℕ} {r : Removed} →
      RemovesFrom q a skip w w' r → TakesOut h clock a w w' r
  some_taken {q} test {w'} {r} done =
      taken_out h clock a w w' r skips
      (rw test at (as_read w (length b) holds
      (λ h. Removes q (records_at h.limits) (h.figures.templates + h.figures.chance) h.figures.entries a skip w w' r)
      done))

-- where nothing is handed out, only expired bodies of the label go
module _ (w : List ℕ) (n : ℕ) {h : Header} (holds : HoldsCache h w n) (none : h.figures.chance ≡ 0) where
  pub expired_taken : (clock a : ℕ) {w' : List ℕ} {r : Removed} →
      RemovesFrom (unexpired h.limits.ttl clock a) a zeros w w' r → TakesOut h clock a w w' r
  expired_taken clock a {w'} {r} done =
      taken_out h clock a w w' r (nothing_skipped h w none)
      (as_read w n holds
      (λ g. Removes (unexpired h.limits.ttl clock a) (records_at g.limits) (g.figures.templates + g.figures.chance)
      g.figures.entries a zeros w w' r) done)

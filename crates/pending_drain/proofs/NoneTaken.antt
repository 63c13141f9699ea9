-- A drain where no body goes: it takes out the record of the label alone. Assumes nothing.
use Rattle.std.proofs.Common.{Option, Some}
use mathlib.Core.Path.{◌≡◌, sym, ◌∙◌}
use mathlib.Core.Bool.{Bool, true, false, cond}
use mathlib.Core.List.{List, [], ◌∷◌, ◌++◌}
use Prim.Native.Nat.{ℕ, ◌+◌, ◌≤◌, ◌<◌}
use native.Mathlib.Omega.{arith}
use lib.Dec.{eqb}
use lib.ListN.{length}
use borrow.Author.Tests.{eqb-true}
use Rattle.config.proofs.Lists.{All, all_front}
use Rattle.table.specs.declared.Entry.{Entry}
use Rattle.table.specs.declared.TemplateRecord.{TemplateRecord}
use Rattle.table.specs.Layout.{limits_of, held_count, chance_count, entries_at, records_at}
use Rattle.table.specs.Table.{table_of, entries_from, records_from, tally}
use Rattle.table.specs.Reads.{label_of, label_or_none, count_of, live_count}
use Rattle.table.proofs.Facts.{LegalWords, words_say}
use Rattle.table.proofs.FoundLabels.{label_for}
use Rattle.table_entries.specs.declared.StayTest.{StayTest}
use Rattle.table_entries.specs.Sweep.{swept}
use Rattle.pending_flows.specs.declared.header.Header.{Header}
use Rattle.pending_flows.specs.Header.{HoldsCache}
use Rattle.pending_flows.proofs.Questions.{first_records}
use Rattle.table_view.proofs.Tied.{words_tied, entries_small, none_above}
use Rattle.table_view.proofs.AllStay.{none_expired, all_stay, none_skipped}
use Rattle.pending_calls.specs.declared.removal.Removed.{Removed}
use Rattle.pending_calls.specs.Removal.{everything, unexpired, Removes, RemovesFrom}
use Rattle.pending_calls.proofs.NoneRemoved.{removes_alike, entries_short, all_swept_stay}
use Rattle.pending_drain.specs.Handing.{zeros, NothingGoes, TakesOut}
use Rattle.pending_drain.proofs.AsRead.{as_read}
use Rattle.pending_drain.proofs.Handing.{nothing_skipped, taken_out}

-- ---- whether nothing goes

module _ (chance count live : ℕ) where
  pub as_counted : (n : ℕ) → chance ≤ 0 → n ≡ count → (eqb n live ≡ true → NothingGoes chance count live)
  as_counted n c counted e = record { hands_none = omega arith; all_live = sym counted ∙ eqb-true n live e }

-- an id's record counts the entries with its label
counts_label : (i : ℕ) (es : List Entry) (rs : List TemplateRecord) → All (λ r. r.count ≡ tally r.label es) rs →
    tally 1024 es ≡ 0 → count_of i rs ≡ tally (label_for i rs) es
unfolding label_of count_of
counts_label i es [] right none = sym none
counts_label i es (r ∷ rs) right none = by_key (eqb i r.key) (counts_label i es rs right.1 none)
  where
    by_key : (t : Bool) → count_of i rs ≡ tally (label_for i rs) es →
        cond t r.count (count_of i rs) ≡ tally (label_or_none (cond t (Some r.label) (label_of i rs))) es
    by_key true ih = right.0
    by_key false ih = ih

module _ (w b : List ℕ) (i : ℕ) {h : Header} (holds : HoldsCache h w (length b)) {x : Option ℕ}
    (labelled : x ≡ label_of i (records_from w (records_at h.limits) h.figures.templates)) where
  abbrev a : ℕ
  a = label_or_none x

  legal : LegalWords w (length b)
  legal = words_say w (length b) holds.legal

  abbrev es : List Entry
  es = (table_of w).entries

  abbrev held : List TemplateRecord
  held = (table_of w).held

  labels_small : All (λ e. e.label < 1024) es
  labels_small =
      let tied = words_tied w (length b) legal in
      entries_small (held ++ (table_of w).handed) es tied.labels_small tied.labels_known

  id_counted : count_of i (records_from w (records_at h.limits) h.figures.templates)
      ≡ tally a (entries_from w entries_at h.figures.entries)
  id_counted =
      rw labelled
      (as_read w (length b) holds
      (λ h. count_of i (records_from w (records_at h.limits) h.figures.templates)
      ≡ tally (label_for i (records_from w (records_at h.limits) h.figures.templates))
      (entries_from w entries_at h.figures.entries))
      (rw (← first_records w (records_at (limits_of w)) (held_count w) (chance_count w))
      (counts_label i es held
      (all_front _ held (table_of w).handed (words_tied w (length b) legal).counts_right)
      (none_above es labels_small))))

  module _ (clock : ℕ) {live : ℕ} (read : live ≡ live_count h.limits.ttl clock a (entries_from w entries_at h.figures.entries))
      (none : NothingGoes h.figures.chance (count_of i (records_from w (records_at h.limits) h.figures.templates)) live) where
    all_live : live_count h.limits.ttl clock a (entries_from w entries_at h.figures.entries)
        ≡ tally a (entries_from w entries_at h.figures.entries)
    all_live = sym read ∙ sym none.all_live ∙ id_counted

    kept_whole : swept (unexpired h.limits.ttl clock a) zeros (entries_from w entries_at h.figures.entries)
        ≡ entries_from w entries_at h.figures.entries
    kept_whole =
        let q : StayTest = unexpired h.limits.ttl clock a in
        let rows : entries_from w entries_at h.figures.entries ≡ es = rw holds.figures in
        rw rows
        (none_skipped q es labels_small (all_stay q es
        (none_expired h.limits.ttl clock a es (rw rows at all_live)) (entries_short w (length b) holds.legal)))

    pub none_taken : {w' : List ℕ} {r : Removed} →
        RemovesFrom everything a zeros w w' r →
        TakesOut h clock a w w' r
    none_taken {w'} {r} done =
        let whole : swept everything zeros (entries_from w entries_at h.figures.entries)
        ≡ entries_from w entries_at h.figures.entries =
        rw holds.figures (all_swept_stay w (length b) holds.legal) in
        taken_out h clock a w w' r (nothing_skipped h w none.hands_none)
        (removes_alike (whole ∙ sym kept_whole)
        (as_read w (length b) holds
        (λ h. Removes everything (records_at h.limits) (h.figures.templates + h.figures.chance) h.figures.entries a
        zeros w w' r) done))

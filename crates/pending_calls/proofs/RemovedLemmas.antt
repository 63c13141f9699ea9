-- The rows that a removal leaves: records, entries and index are tied again, but for the bodies set apart.
-- Assumes nothing.
use mathlib.Core.Path.{◌≡◌, sym, ap, subst, ◌∙◌}
use mathlib.Core.List.{List}
use Prim.Native.Nat.{ℕ, ◌+◌, ◌*◌, ◌≤◌, ◌<◌}
use native.Mathlib.Nat.{mod-eq_of_lt}
use native.Mathlib.Omega.{arith}
use lib.ListN.{length, take-append-drop}
use Rattle.table.specs.declared.Entry.{Entry}
use Rattle.table.specs.declared.TemplateRecord.{TemplateRecord}
use Rattle.config.specs.Limits.{entry_words, record_words}
use Rattle.table.specs.Layout.{limits_of, held_count, entry_count, chance_count, entries_at, records_at}
use Rattle.table.specs.Table.{entries_from, records_from, index_from, records, tally}
use Rattle.table.proofs.Words.{length_entries, length_records}
use Rattle.table.proofs.Facts.{Placed, LegalWords}
use Rattle.table_entries.specs.declared.StayTest.{StayTest}
use Rattle.table_entries.specs.Sums.{sum_most, lens_sum, lens_word}
use Rattle.table_entries.specs.Sweep.{swept}
use Rattle.table_entries.proofs.Lengths.{lens_within}
use Rattle.table_entries.proofs.Swept.{length_swept, all_swept, placed_swept}
use Rattle.table_records.specs.Close.{closed, positions, remapped}
use Rattle.table_records.proofs.ClosedIndex.{closed_index_long, index_after_closing}
use Rattle.table_view.proofs.Tied.{Tied, TiedApart, words_tied}
use Rattle.table_view.proofs.Removed.{label_counts_but, label_counts_lem, placed_short, removed_apart}
use Rattle.table_view.proofs.Summed.{len_most}
use Rattle.pending_calls.specs.declared.removal.Removed.{Removed}
use Rattle.pending_calls.specs.Removal.{Removes}

-- k records from word p on, and m entries
abbrev pub TiedRows : ℕ → ℕ → ℕ → List ℕ → Type 0
TiedRows p k m w = Tied (records_from w p k) (entries_from w entries_at m) (index_from w p k)

abbrev pub TiedRowsApart : ℕ → ℕ → ℕ → ℕ → List ℕ → Type 0
TiedRowsApart a p k m w = TiedApart a (records_from w p k) (entries_from w entries_at m) (index_from w p k)

module _ {q : StayTest} {p k m a : ℕ} {skip w w' : List ℕ} {r : Removed} (tied : TiedRows p k m w)
    (most : ℕ) (placed : Placed 0 most (entries_from w entries_at m)) (few_records : k ≤ 1024)
    (few_entries : m ≤ sum_most)
    (short : most ≤ len_most) (done : Removes q p k m a skip w w' r) where
  abbrev es : List Entry
  es = entries_from w entries_at m

  abbrev rs : List TemplateRecord
  rs = records_from w p k

  abbrev is : List ℕ
  is = index_from w p k

  pub placed_left : Placed 0 most (entries_from w' entries_at r.entries)
  placed_left = rw done.entries (placed_swept q skip 0 most es placed)

  -- the lengths together, which are too short to wrap
  pub bytes_left : r.bytes ≡ lens_sum (entries_from w' entries_at r.entries)
  bytes_left =
      let left = entries_from w' entries_at r.entries in
      done.bytes ∙ ap lens_word (sym done.entries)
      ∙ mod-eq_of_lt (omega (arith, lens_within 0 most left (omega arith) placed_left))

  -- the bodies set apart
  pub apart_left : a < 1024 → r.apart ≡ tally a (entries_from w' entries_at r.entries)
  apart_left h =
      done.bodies_apart
      ∙ label_counts_lem (swept q skip es) (omega (arith, length_swept q skip es, length_entries w entries_at m))
      (all_swept (λ e. e.len ≤ len_most) q skip es (placed_short 0 most len_most es short placed)) a h
      ∙ ap (tally a) (sym done.entries)

  -- how many bodies of each label the removal leaves
  abbrev kept : List ℕ
  kept = label_counts_but a (swept q skip es)

  remaining_long : length (remapped (positions kept 0 rs) is) ≡ length (closed kept rs)
  remaining_long =
      closed_index_long kept rs is tied.index_right tied.index_long (omega (arith, length_records w p k))

  -- as many index words as records
  pub index_left : index_from w' p r.records ≡ remapped (positions kept 0 rs) is
  index_left =
      let n : length (remapped (positions kept 0 rs) is) ≡ r.records =
      remaining_long ∙ sym (ap length done.records) ∙ length_records w' p r.records in
      ap (index_from w' p) (sym n) ∙ done.index

  pub rows_left : TiedRowsApart a p r.records r.entries w'
  rows_left =
      let few : length rs ≤ 1024 = omega (arith, length_records w p k) in
      let facts = index_after_closing kept rs is tied.index_right tied.index_long few in
      rw (done.records, done.entries, index_left)
      (removed_apart q skip tied (omega (arith, length_entries w entries_at m))
      (placed_short 0 most len_most es short placed) a facts.0 facts.1)

-- the rows of well-formed words, and their bounds
module _ (w : List ℕ) (n : ℕ) (legal : LegalWords w n) where
  abbrev from : ℕ
  from = records_at (limits_of w)

  abbrev count : ℕ
  count = held_count w + chance_count w

  pub rows_tied : TiedRows from count (entry_count w) w
  rows_tied =
      subst (λ (rs : List TemplateRecord). Tied rs (entries_from w entries_at (entry_count w))
      (index_from w from count))
      (take-append-drop (held_count w) (records w)) (words_tied w n legal)

  pub rows_placed : Placed 0 (limits_of w).max_total_bytes (entries_from w entries_at (entry_count w))
  rows_placed = legal.table_legal_lem.entries_placed

  pub few_templates : count ≤ 1024
  few_templates = omega (arith, legal.templates_fit, legal.limits_legal_lem.templates_few)

  pub few_bodies : entry_count w ≤ sum_most
  few_bodies = omega (arith, legal.entries_fit, legal.limits_legal_lem.bodies_few)

  pub total_short : (limits_of w).max_total_bytes ≤ len_most
  total_short = omega (arith, legal.limits_legal_lem.total_small)

  pub entries_below_records : entries_at + entry_words * entry_count w ≤ from
  entries_below_records = omega (arith, legal.entries_fit)

  pub records_within : from + record_words * count ≤ length w
  records_within = omega (arith, legal.templates_fit, legal.limits_legal_lem.words_enough)

-- A removal: entries are swept, records closed. It is decided before, by a test and by how many bodies are skipped.
use Rattle.std.specs.Prelude.{Option, Some, None, ◌≡◌, false, List, ℕ, ◌+◌, ◌*◌, ◌≤◌, ◌<◌, length, get_or, set, replicate, take, drop}
use Rattle.config.specs.Limits.{record_words, entry_words}
use Rattle.config.proofs.Lists.{All}
use Rattle.table.specs.declared.Entry.{Entry}
use Rattle.table.specs.declared.TemplateRecord.{TemplateRecord}
use Rattle.table.specs.Layout.{limits_of, held_count, entry_count, chance_count, entries_at, records_at}
use Rattle.table.specs.Table.{entries_from, records_from, index_from, tally}
use Rattle.table_entries.specs.declared.StayTest.{StayTest}
use Rattle.table_entries.specs.declared.sweeps.Kept.{Kept}
use Rattle.table_entries.specs.Sums.{lens_word, summed}
use Rattle.table_entries.specs.Sweep.{swept}
use Rattle.table_records.specs.Close.{closed, positions, remapped, Closes}
use Rattle.pending_calls.specs.declared.removal.Removed.{Removed}

-- the expired bodies of a label go
abbrev pub unexpired : Option ℕ → ℕ → ℕ → StayTest
unexpired ttl clock label = record {
  ttl = ttl;
  clock = clock;
  only = Some label;
  max_size = 18446744073709551615;
}

-- every entry stays by this test
abbrev pub everything : StayTest
everything = unexpired None 0 1024

-- how many bodies each label has; and the same with none for one label
abbrev pub counted : List Entry → List ℕ
counted es = summed everything false (replicate 1024 0) es

abbrev pub counted_but : ℕ → List Entry → List ℕ
counted_but apart es = set (counted es) apart 0

-- m entries lie before word p, and from it on k records, no more than there are labels; there are so many words
pub record RowsWithin (p k m words : ℕ) : Type 0 where
  pub entries_below : entries_at + entry_words * m ≤ p
  pub records_within : p + record_words * k ≤ words
  pub records_few : k ≤ 1024

-- k records from word p on are closed by how many bodies each label has kept; the record of the label `apart` goes
pub record ClosesApart (p k apart : ℕ) (left : Kept) (kept w w' : List ℕ) (r : Removed) : Type 0 where
  pub entries : r.entries ≡ left.entries
  pub bytes : r.bytes ≡ left.bytes
  pub bodies_apart : r.apart ≡ get_or kept apart 0
  pub closes : Closes p k (set kept apart 0) w w' r.records

-- of each record all bodies are skipped, or none
pub record SkipsWhole (skip : List ℕ) (rs : List TemplateRecord) : Type 0 where
  pub long : length skip ≡ 1024
  pub whole : All (λ r. (0 < get_or skip r.label 0 → r.count ≤ get_or skip r.label 0)) rs

-- None: by the test every body stays. Some: by the test the expired bodies of the label `apart` go, and so many of its
-- bodies stay. `stay`: the entries that stay.
abbrev pub LiveTold : Option ℕ → StayTest → ℕ → List Entry → Type 0
LiveTold None q apart stay = q ≡ everything
LiveTold (Some live) q apart stay = (q ≡ unexpired q.ttl q.clock apart) × (live ≡ tally apart stay)

-- m entries are swept, and k records from word p on closed; the entries that stay are then `after`. The record of the
-- label `apart` goes, its bodies stay.
pub record RemovesTo (after : List Entry) (q : StayTest) (p k m apart : ℕ) (skip w w' : List ℕ) (r : Removed)
    : Type 0 where
  pub few_entries : r.entries ≤ m
  pub few_records : r.records ≤ k
  pub entries : entries_from w' entries_at r.entries ≡ after
  pub bytes : r.bytes ≡ lens_word (swept q skip (entries_from w entries_at m))
  pub bodies_apart : r.apart ≡ get_or (counted (swept q skip (entries_from w entries_at m))) apart 0
  pub records : records_from w' p r.records
      ≡ closed (counted_but apart (swept q skip (entries_from w entries_at m))) (records_from w p k)
  pub index : let ps = positions (counted_but apart (swept q skip (entries_from w entries_at m))) 0 (records_from w p k) in
      index_from w' p (length (remapped ps (index_from w p k))) ≡ remapped ps (index_from w p k)
  pub head : take entries_at w' ≡ take entries_at w
  pub tail : drop (p + record_words * k) w' ≡ drop (p + record_words * k) w
  pub long : length w' ≡ length w

-- the same, with the entries that stay as they were
abbrev pub Removes : StayTest → ℕ → ℕ → ℕ → ℕ → List ℕ → List ℕ → List ℕ → Removed → Type 0
Removes q p k m apart skip w w' r =
    RemovesTo (swept q skip (entries_from w entries_at m)) q p k m apart skip w w' r

-- this of a whole table: all its entries, and its records, the handed-out one too
abbrev pub RemovesFrom : StayTest → ℕ → List ℕ → List ℕ → List ℕ → Removed → Type 0
RemovesFrom q apart skip w w' r =
    Removes q (records_at (limits_of w)) (held_count w + chance_count w) (entry_count w) apart skip w w' r

-- What the passes of `close`, `take_off` and `add_record` do, each as its loop goes. They stand here because the
-- contracts of the passes cite them. A reader need not believe them: together they are `Closes`, `TakesOff` and `Adds`.
use Rattle.std.specs.Prelude.{Option}
use Rattle.std.specs.Prelude.{◌≡◌, List, ◌∷◌, ◌++◌, ℕ, ◌+◌, ◌*◌, ◌-◌, ◌^◌, ◌≤◌, ◌<◌, length, get_or, take, drop}
use Rattle.config.specs.Limits.{record_words}
use Rattle.table.specs.Layout.{word}
use Rattle.table.specs.Table.{records_from, index_from}
use Rattle.table_records.specs.Close.{closed, nowhere, position_told, positions, remapped}
use Rattle.table_records.specs.Add.{inserted}

-- k records from word p on are closed, r of them remain, and the first k of `ps` are the new positions; index words
-- do not change
pub record ClosesRecords (p k : ℕ) (kept w w' ps : List ℕ) (r : ℕ) : Type 0 where
  pub few : r ≤ k
  pub records : records_from w' p r ≡ closed kept (records_from w p k)
  pub noted : take k ps ≡ positions kept 0 (records_from w p k)
  pub same : (i : ℕ) → word w' (p + record_words * i + 3) ≡ word w (p + record_words * i + 3)
  pub head : take p w' ≡ take p w
  pub tail : drop (p + record_words * k) w' ≡ drop (p + record_words * k) w

-- at each position of 64 bits, what is answered is its new position, if it has one
abbrev pub TellsPositions : (ℕ → Option ℕ → Type 0) → List ℕ → Type 0
TellsPositions answers ps = (i : ℕ) (moved : Option ℕ) → i < 2 ^ 64 → answers i moved →
    moved ≡ position_told (get_or ps i nowhere)

-- the index of k records from word p on follows the new positions; records do not change
pub record ClosesIndex (p k : ℕ) (ps w w' : List ℕ) : Type 0 where
  pub index : index_from w' p (length (remapped ps (index_from w p k))) ≡ remapped ps (index_from w p k)
  pub same : (j : ℕ) → records_from w' p j ≡ records_from w p j
  pub head : take p w' ≡ take p w
  pub tail : drop (p + record_words * k) w' ≡ drop (p + record_words * k) w

-- of k records from word p on, those behind a place move up by one; index words do not change
pub record MovesUp (p k at : ℕ) (w w' : List ℕ) : Type 0 where
  pub records : records_from w' p (k - 1)
      ≡ records_from w p at ++ records_from w (p + record_words * (at + 1)) (k - 1 - at)
  pub same : (i : ℕ) → word w' (p + record_words * i + 3) ≡ word w (p + record_words * i + 3)
  pub head : take p w' ≡ take p w
  pub tail : drop (p + record_words * k) w' ≡ drop (p + record_words * k) w

-- in the index of k records from word p on, place `free` is free for k, by its key; records do not change
pub record OpensIndex (p k key : ℕ) (w w' : List ℕ) (free : ℕ) : Type 0 where
  pub few : free ≤ k
  pub index : index_from w' p free ++ (k ∷ index_from w' (p + record_words * (free + 1)) (k - free))
      ≡ inserted (records_from w p k) key k (index_from w p k)
  pub same : records_from w' p k ≡ records_from w p k
  pub head : take p w' ≡ take p w
  pub tail : drop (p + record_words * (k + 1)) w' ≡ drop (p + record_words * (k + 1)) w

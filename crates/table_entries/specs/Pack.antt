-- Bodies moved together towards the front of the byte area, in table order.
use Rattle.std.specs.Prelude.{◌≡◌, ℕ, ◌+◌, ◌*◌, ◌≤◌, true, List, [], ◌∷◌, length, take, drop}
use Rattle.areas.specs.Overwrite.{moved}
use Rattle.config.specs.Limits.{entry_words}
use Rattle.table.specs.declared.Entry.{Entry}
use Rattle.table.specs.Layout.{entries_at}
use Rattle.table.specs.Table.{entries_from}
use Rattle.table.specs.WellFormed.{places_legal}
use Rattle.table_entries.specs.declared.pack.Run.{Run}

-- the words hold m entries, whose bodies lie one behind the other within n bytes
pub record HoldsEntries (m : ℕ) (w : List ℕ) (n : ℕ) : Type 0 where
  pub in_words : entries_at + entry_words * m ≤ length w
  pub in_bytes : places_legal 0 n (entries_from w entries_at m) ≡ true

-- the end of the last entry's body; 0 where there is none
unfoldable pub last_end : List Entry → ℕ
last_end [] = 0
last_end (e ∷ []) = e.place + e.len
last_end (e ∷ x ∷ es) = last_end (x ∷ es)

-- the entries with places that follow one another, from `at` on
unfoldable pub packed_entries : ℕ → List Entry → List Entry
packed_entries at [] = []
packed_entries at (e ∷ es) =
    record { label = e.label; place = at; len = e.len; clock = e.clock } ∷ packed_entries (at + e.len) es

-- where the last of them ends
unfoldable pub packed_end : ℕ → List Entry → ℕ
packed_end at [] = at
packed_end at (e ∷ es) = packed_end (at + e.len) es

-- the bytes, each body moved to its new place
unfoldable pub packed_bytes : ℕ → List Entry → List ℕ → List ℕ
packed_bytes at [] bs = bs
packed_bytes at (e ∷ es) bs = packed_bytes (at + e.len) es (moved e.place at e.len bs)

-- a run is moved, and ends at r
pub record MovesRun (run : Run) (b b' : List ℕ) (r : ℕ) : Type 0 where
  pub bytes : b' ≡ moved run.from run.to run.len b
  pub end : r ≡ run.to + run.len

-- a run that reaches `place`: what is still to be moved by it gives the bytes that the run before was to give
pub record ReachesTo (place : ℕ) (run : Run) (b b' : List ℕ) (r : Run) : Type 0 where
  pub reaches : r.from + r.len ≡ place
  pub behind : r.to + r.len ≡ run.to + run.len
  pub down : r.to ≤ r.from
  pub bytes : moved r.from r.to r.len b' ≡ moved run.from run.to run.len b
  pub length_same : length b' ≡ length b

-- of the first m entries n are kept, these (`kept`), in this order, and packed with their bodies, up to r; no word
-- before or behind the m entries changes
pub record KeepsPacked (kept : List Entry) (m : ℕ) (w b w' b' : List ℕ) (n r : ℕ) : Type 0 where
  pub few : n ≤ m
  pub entries : entries_from w' entries_at n ≡ packed_entries 0 kept
  pub bytes : b' ≡ packed_bytes 0 kept b
  pub end : r ≡ packed_end 0 kept
  pub head : take entries_at w' ≡ take entries_at w
  pub tail : drop (entries_at + entry_words * m) w' ≡ drop (entries_at + entry_words * m) w

-- all of the first m entries are kept
abbrev pub Packs : ℕ → List ℕ → List ℕ → List ℕ → List ℕ → ℕ → Type 0
Packs m w b w' b' r = KeepsPacked (entries_from w entries_at m) m w b w' b' m r

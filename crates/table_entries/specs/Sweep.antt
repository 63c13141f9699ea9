-- The sweep: entries go, the others close up in their order.
use Rattle.std.specs.Prelude.{◌≡◌, ℕ, ◌+◌, ◌*◌, ◌≤◌, Bool, cond, List, [], ◌∷◌, take, drop, nat_lt, slice_index, slice_set}
use Rattle.config.specs.Limits.{entry_words}
use Rattle.table.specs.declared.Entry.{Entry}
use Rattle.table.specs.Layout.{entries_at}
use Rattle.table.specs.Table.{entries_from}
use Rattle.table.specs.Passes.{less_at}
use Rattle.table_entries.specs.declared.StayTest.{StayTest}
use Rattle.table_entries.specs.declared.sweeps.Kept.{Kept}
use Rattle.table_entries.specs.Stays.{stays}
use Rattle.table_entries.specs.Sums.{lens_word}

-- of the entries that stay by themselves, the oldest go, as many of each label as `skip` says
unfoldable pub swept : StayTest → List ℕ → List Entry → List Entry
swept q skip [] = []
swept q skip (e ∷ es) =
    cond (stays q e)
    (cond (nat_lt 0 (slice_index skip e.label)) (swept q (less_at skip e.label) es) (e ∷ swept q skip es))
    (swept q skip es)

-- r: whether there is one of a label to skip; if so, it is taken off
pub record Spends (label : ℕ) (skip skip' : List ℕ) (r : Bool) : Type 0 where
  pub test : r ≡ nat_lt 0 (slice_index skip label)
  pub after : skip' ≡ less_at skip label

-- the words with an entry's four words from p on
unfoldable pub put_entry : List ℕ → ℕ → Entry → List ℕ
put_entry w p e = slice_set (slice_set (slice_set (slice_set w p e.label) (p + 1) e.place) (p + 2) e.len) (p + 3) e.clock

-- of the first m entries these are kept, in this order; no word before or behind the m entries changes
pub record KeepsOnly (kept : List Entry) (m : ℕ) (w w' : List ℕ) (r : Kept) : Type 0 where
  pub few : r.entries ≤ m
  pub entries : entries_from w' entries_at r.entries ≡ kept
  pub bytes : r.bytes ≡ lens_word kept
  pub head : take entries_at w' ≡ take entries_at w
  pub tail : drop (entries_at + entry_words * m) w' ≡ drop (entries_at + entry_words * m) w

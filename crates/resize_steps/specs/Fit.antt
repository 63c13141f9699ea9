-- Fitting what is left into the new total: its bytes, and their places.
use Rattle.std.specs.Prelude.{◌≡◌, true, cond, List, ℕ, ◌+◌, ◌*◌, leb, take, drop}
use Rattle.config.specs.Limits.{entry_words}
use Rattle.table.specs.declared.Entry.{Entry}
use Rattle.table.specs.declared.TemplateRecord.{TemplateRecord}
use Rattle.table.specs.Layout.{entries_at}
use Rattle.table.specs.Table.{entries_from, records_from}
use Rattle.table_entries.specs.Sums.{lens_sum, summed}
use Rattle.table_entries.specs.Pack.{last_end, packed_entries, packed_bytes}
use Rattle.table_records.specs.Choose.{skipping, evictions_of}
use Rattle.pending_calls.specs.declared.removal.Removed.{Removed}
use Rattle.pending_calls.specs.Removal.{everything}
use Rattle.resize_steps.specs.Removing.{zeros, RemovesSkipped}

-- how many least recent templates go until the bytes of the others are at most `room`
abbrev pub over_total : ℕ → List TemplateRecord → List Entry → ℕ
over_total room rs es = evictions_of room (summed everything true zeros es) (lens_sum es) rs

-- all bodies of those
unfoldable pub total_skips : ℕ → List TemplateRecord → List Entry → List ℕ → List ℕ
total_skips room rs es skip = skipping skip (take (over_total room rs es) rs)

abbrev pub FitsTotal : ℕ → (p k m : ℕ) → (w w' : List ℕ) → Removed → Type 0
FitsTotal room p k m w w' r =
    RemovesSkipped everything p k m (total_skips room (records_from w p k) (entries_from w entries_at m) zeros) w w' r

-- entries and bytes once the bodies end at `room` or before: packed where they ended behind it
unfoldable pub fitted_entries : ℕ → List Entry → List Entry
fitted_entries room es = cond (leb (last_end es) room) es (packed_entries 0 es)

unfoldable pub fitted_bytes : ℕ → List Entry → List ℕ → List ℕ
fitted_bytes room es b = cond (leb (last_end es) room) b (packed_bytes 0 es b)

-- of m entries; no other word changes
pub record FitsPlaces (room m : ℕ) (w b w' b' : List ℕ) : Type 0 where
  pub entries : entries_from w' entries_at m ≡ fitted_entries room (entries_from w entries_at m)
  pub bytes : b' ≡ fitted_bytes room (entries_from w entries_at m) b
  pub head : take entries_at w' ≡ take entries_at w
  pub tail : drop (entries_at + entry_words * m) w' ≡ drop (entries_at + entry_words * m) w

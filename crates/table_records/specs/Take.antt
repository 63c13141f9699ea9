-- Taking one record off: the records behind it move up, and the index follows.
use Rattle.std.specs.Prelude.{Option}
use Rattle.std.specs.Prelude.{◌≡◌, List, [], ◌∷◌, cond, ℕ, zero, suc, ◌+◌, ◌*◌, ◌-◌, min, eqb, length, take, drop}
use Rattle.std.specs.List.{position}
use Rattle.config.specs.Limits.{record_words}
use Rattle.table.specs.declared.TemplateRecord.{TemplateRecord}
use Rattle.table.specs.Table.{record_at, records_from, index_from}
use Rattle.table_records.specs.Close.{nowhere, remapped}

-- the place of the first record with this label; where none has it, the number of records
unfoldable pub place_of : ℕ → List TemplateRecord → ℕ
place_of label [] = 0
place_of label (r ∷ rs) = cond (eqb label r.label) 0 (suc (place_of label rs))

-- the same, but where none has it, none
abbrev pub found_place : ℕ → List TemplateRecord → Option ℕ
found_place label rs = position (λ r. eqb label r.label) rs

-- the records without the one at a place
unfoldable pub without_at : ℕ → List TemplateRecord → List TemplateRecord
without_at at [] = []
without_at zero (r ∷ rs) = rs
without_at (suc at) (r ∷ rs) = r ∷ without_at at rs

-- k numbers from n on
unfoldable pub count_up : ℕ → ℕ → List ℕ
count_up n zero = []
count_up n (suc k) = n ∷ count_up (n + 1) k

-- the new position of each of k records, counted from n on, where the one at a place goes
unfoldable pub positions_but : ℕ → ℕ → ℕ → List ℕ
positions_but n at zero = []
positions_but n zero (suc k) = nowhere ∷ count_up n k
positions_but n (suc at) (suc k) = n ∷ positions_but (n + 1) at k

-- a count, up to the largest 32-bit number
abbrev pub capped_count : ℕ → ℕ
capped_count n = min n 4294967295

-- Of k records from word p on, the one at a place is taken off; it counted `bodies`. No word outside them changes.
pub record TakesOff (p k at : ℕ) (w w' : List ℕ) (bodies : ℕ) : Type 0 where
  pub counted : bodies ≡ capped_count (record_at w (p + record_words * at)).count
  pub records : records_from w' p (k - 1) ≡ without_at at (records_from w p k)
  pub index : index_from w' p (length (remapped (positions_but 0 at k) (index_from w p k)))
      ≡ remapped (positions_but 0 at k) (index_from w p k)
  pub head : take p w' ≡ take p w
  pub tail : drop (p + record_words * k) w' ≡ drop (p + record_words * k) w

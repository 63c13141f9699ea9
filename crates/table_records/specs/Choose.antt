-- What is chosen by looking at the records alone, with sums by label beside them. Nothing is written.
use Rattle.std.specs.Prelude.{Option}
use Rattle.std.specs.Prelude.{◌≡◌, List, [], ◌∷◌, false, cond, ℕ, zero, suc, ◌+◌, ◌-◌, ◌≤◌, ◌<◌, eqb, ltb, max, map, length, get_or, set, replicate}
use Rattle.std.specs.List.{find, fold}
use Rattle.table.specs.declared.TemplateRecord.{TemplateRecord}
use Rattle.table.specs.Table.{has_label}
use Rattle.table.specs.Reads.{label_or_none}

-- as many bodies as any template can have
abbrev pub skip_all : ℕ
skip_all = 262144

-- at the label of each of these records, what f says of the record
unfoldable pub set_each : (TemplateRecord → ℕ) → List ℕ → List TemplateRecord → List ℕ
set_each f sums [] = sums
set_each f sums (r ∷ rs) = set_each f (set sums r.label (f r)) rs

-- all bodies of these records are to be skipped
abbrev pub skipping : List ℕ → List TemplateRecord → List ℕ
skipping skip rs = set_each (λ r. skip_all) skip rs

-- of each of these records, the bodies beyond a cap, where `counts` says how many there are
abbrev pub skipping_over : ℕ → List ℕ → List ℕ → List TemplateRecord → List ℕ
skipping_over cap counts skip rs = set_each (λ r. get_or counts r.label 0 - cap) skip rs

-- how many least recent templates go until the total is at most `room`, where `sizes` has the bytes of each label
unfoldable pub evictions_of : ℕ → List ℕ → ℕ → List TemplateRecord → ℕ
evictions_of room sizes total [] = 0
evictions_of room sizes total (r ∷ rs) =
    cond (ltb room total) (suc (evictions_of room sizes (total - get_or sizes r.label 0) rs)) 0

-- how many of these records have live bodies, and the label of the first one
unfoldable pub live_records : List ℕ → List TemplateRecord → ℕ
live_records live [] = 0
live_records live (r ∷ rs) = cond (ltb 0 (get_or live r.label 0)) 1 0 + live_records live rs

abbrev pub label_of_first_live : List ℕ → List TemplateRecord → Option ℕ
label_of_first_live live rs = find (λ label. ltb 0 (get_or live label 0)) (map (λ r. r.label) rs)

-- the same with what is no label where there is none
abbrev pub first_live : List ℕ → List TemplateRecord → ℕ
first_live live rs = label_or_none (label_of_first_live live rs)

-- the greatest label of these records; 0 where there is none
abbrev pub greatest_label : List TemplateRecord → ℕ
greatest_label rs = fold (λ most r. max most r.label) 0 rs

-- the last label that is taken as the one behind the greatest, where there are n records
unfoldable pub last_label : ℕ → ℕ
last_label n = cond (ltb n 32) 31 1023

-- a number for each of more labels than there are records, none of them in use yet; few labels for few records
pub record RoomForLabels (records : ℕ) (used : List ℕ) : Type 0 where
  pub cleared : used ≡ replicate (length used) 0
  pub within : length used ≤ 1024
  pub more : records < length used
  pub few : records < 32 → length used ≤ 32

-- a label that none of these records has: one of few where they are few
pub record FreeLabel (rs : List TemplateRecord) (k : ℕ) : Type 0 where
  pub below : k < 1024
  pub few : length rs < 32 → k < 32
  pub absent : has_label k rs ≡ false

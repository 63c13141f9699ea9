-- Sums over entries: by label, in arrays of one 32-bit number for each label, and of lengths.
use Rattle.std.specs.Prelude.{Option, Some, None, ◌≡◌, ℕ, ◌+◌, ◌%◌, ◌^◌, ◌<◌, min, Bool, cond, ◌&&◌, List, [], ◌∷◌, ◌==◌, slice_index, slice_set}
use Rattle.table.specs.declared.Entry.{Entry}
use Rattle.table_entries.specs.declared.StayTest.{StayTest}
use Rattle.table_entries.specs.Stays.{stays}

-- an array's sums stop at the largest 32-bit number
abbrev pub sum_most : ℕ
sum_most = 4294967295

-- n more at i
abbrev pub more_at : List ℕ → ℕ → ℕ → List ℕ
more_at sums i n = slice_set sums i (min (slice_index sums i + n) sum_most)

-- what an entry adds: its length, or one
abbrev pub share : Bool → Entry → ℕ
share bytes e = cond bytes e.len 1

-- of each entry, what is answered is what it adds, if it stays by itself
abbrev pub TellsShares : (Entry → Option ℕ → Type 0) → StayTest → Bool → Type 0
TellsShares answers q bytes =
    (e : Entry) (n : Option ℕ) → e.len < 2 ^ 64 → answers e n → n ≡ cond (stays q e) (Some (share bytes e)) None

-- the sums by label, over the entries that stay by themselves
unfoldable pub summed : StayTest → Bool → List ℕ → List Entry → List ℕ
summed q bytes sums [] = sums
summed q bytes sums (e ∷ es) =
    summed q bytes (cond (stays q e) (more_at sums e.label (share bytes e)) sums) es

-- the sum of one label
unfoldable pub label_sum : StayTest → Bool → ℕ → List Entry → ℕ
label_sum q bytes k [] = 0
label_sum q bytes k (e ∷ es) = cond (stays q e && k == e.label) (share bytes e) 0 + label_sum q bytes k es

-- the lengths of all entries; and in a word, which wraps
unfoldable pub lens_sum : List Entry → ℕ
lens_sum [] = 0
lens_sum (e ∷ es) = e.len + lens_sum es

abbrev pub lens_word : List Entry → ℕ
lens_word es = lens_sum es % 2 ^ 64

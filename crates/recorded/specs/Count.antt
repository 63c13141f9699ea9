-- Counting rows.
use Rattle.std.specs.Prelude.{Bool, cond, ℕ, ◌+◌, min}
use Rattle.recorded.specs.declared.tally.Tally.{Tally}

abbrev pub opened : Tally
opened = record { rows = 0; differ = 0 }

-- one more, up to 2^64 - 1
abbrev pub one_more : ℕ → ℕ
one_more n = min (n + 1) 18446744073709551615

-- a row more, counted as one that differs where it is not the same
abbrev pub with_row : Tally → Bool → Tally
with_row t same = record { rows = one_more t.rows; differ = cond same t.differ (one_more t.differ) }

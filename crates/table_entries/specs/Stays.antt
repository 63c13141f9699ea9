-- Which entries stay, each by itself.
use Rattle.std.specs.Prelude.{Option, Some, None, ℕ, Bool, true, not, ◌&&◌, ◌==◌, nat_le}
use Rattle.config.specs.Age.{expired_at}
use Rattle.table.specs.declared.Entry.{Entry}
use Rattle.table_entries.specs.declared.StayTest.{StayTest}

-- the test by age alone, of one label or of every one
abbrev pub by_age : Option ℕ → ℕ → Option ℕ → StayTest
by_age ttl clock only = record { ttl = ttl; clock = clock; only = only; max_size = 18446744073709551615 }

-- whether the bodies of a label are aged: it is the only one, or every label's are
abbrev pub is_aged : Option ℕ → ℕ → Bool
is_aged (Some only) label = only == label
is_aged None label = true

-- whether an entry is of an aged label, and is expired
abbrev pub aged : StayTest → Entry → Bool
aged q e = is_aged q.only e.label && expired_at q.ttl q.clock e.clock

-- it is not, and it is not too large
unfoldable pub stays : StayTest → Entry → Bool
stays q e = not (aged q e) && nat_le e.len q.max_size

-- Age and expiry (document 01, its first paragraph).
use Rattle.std.specs.Prelude.{Option, Some, None}
use Rattle.std.specs.Prelude.{Bool, false, ℕ, ◌-◌, leb}

-- document 01's "age": now minus the stored reading, or 0 if now is earlier
abbrev pub age_at : ℕ → ℕ → ℕ
age_at now clock = now - clock

-- document 01's "expired": a TTL is set, and age is at least the TTL
abbrev pub expired_at : Option ℕ → ℕ → ℕ → Bool
expired_at None now clock = false
expired_at (Some ttl) now clock = leb ttl (age_at now clock)

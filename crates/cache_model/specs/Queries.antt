-- The queries: no cache changes.
use Rattle.std.specs.Prelude.{[], Bool, not, ◌&&◌, cond, ℕ, leb, ltb, length, get_or}
use Rattle.cache_model.specs.Bodies.{Body, keep, all_bodies, bodies_of, byte_total, expired, size}
use Rattle.cache_model.specs.Cache.{Cache, Figures, Answer, number, shows, spans}

-- "no if the length passes the entry or total limit, or if the id's unexpired bodies reach the cap; else yes"
unfoldable pub would_accept : ℕ → ℕ → ℕ → Cache → Bool
would_accept i n now c =
    leb n c.limits.max_entry_size_bytes && (leb n c.limits.max_total_bytes &&
    ltb (length (keep (λ b. not (expired c.limits.ttl now b)) (bodies_of i c.held)))
    c.limits.max_entries_per_template)

abbrev pub no_body : Body
no_body = record { number = 0; bytes = []; clock = 0 }

-- handed-out body number k, from 0
abbrev pub handed_out : ℕ → Cache → Body
handed_out k c = get_or c.chance.bodies k no_body

-- its bytes; "a refused reading shows an empty part", where k is not below the count handed out
unfoldable pub read_handed_out : ℕ → Cache → Answer
read_handed_out k c = shows (cond (ltb k (length c.chance.bodies)) (handed_out k c).bytes [])

-- "and a call beside it answers the number", 27; else the length, beside a place that is free
unfoldable pub place_handed_out : ℕ → Cache → Answer
place_handed_out k c = cond (ltb k (length c.chance.bodies)) (spans (size (handed_out k c))) (number 27)

unfoldable pub figures : Cache → Figures
figures c = record {
  templates = length c.held;
  bodies = length (all_bodies c.held);
  bytes = byte_total c.held;
  cached = c.cached;
  dropped = c.dropped;
  handed = length c.chance.bodies;
}

-- The other calls that change a cache: opening, drain, put-back, resize, clear.
use Rattle.std.specs.Prelude.{List, [], ◌∷◌, ◌++◌, Bool, not, ◌&&◌, cond, ℕ, ◌-◌, eqb, leb, length, drop}
use Rattle.config.specs.declared.PendingFlowsConfig.{PendingFlowsConfig}
use Rattle.config.specs.Limits.{config_number}
use Rattle.cache_model.specs.Bodies.{Body, Template, size, keep, bodies_of, without, expired}
use Rattle.cache_model.specs.Removal.{Split, untouched, evicted, evictions, pruned, capped}
use Rattle.cache_model.specs.Cache.{Cache, Outcome, done, number, count, raised, no_chance, chance_of}

-- "opening leaves an empty cache with both counters 0"
abbrev pub opened : PendingFlowsConfig → Cache
opened l = record { limits = l; cached = 0; dropped = 0; held = []; chance = no_chance }

-- drain: "removes the id, drops its expired bodies, hands out the rest oldest first"
unfoldable pub drained : ℕ → ℕ → Cache → Outcome
drained i now c =
    let live : List Body = keep (λ b. not (expired c.limits.ttl now b)) (bodies_of i c.held) in
    let old : List Body = keep (λ b. expired c.limits.ttl now b) (bodies_of i c.held) in
    record {
      answer = count (length live);
      cache = record {
        limits = c.limits;
        cached = c.cached;
        dropped = raised c.dropped (length old);
        held = without i c.held;
        chance = chance_of i live;
      };
    }

-- the last n handed-out bodies as the newest template, counters unchanged; the chance ends
unfoldable pub restored : ℕ → ℕ → Cache → Cache
restored i n c = record {
  limits = c.limits;
  cached = c.cached;
  dropped = c.dropped;
  held = c.held ++ (record { id = i; bodies = drop (length c.chance.bodies - n) c.chance.bodies } ∷ []);
  chance = no_chance;
}

-- whether a put-back of n bodies for this id has its chance
abbrev pub may_put_back : ℕ → ℕ → Cache → Bool
may_put_back i n c = eqb i c.chance.id && leb n (length c.chance.bodies)

-- put-back: n = 0 succeeds and does nothing; 25 without the chance
unfoldable pub put_back : ℕ → ℕ → Cache → Outcome
put_back i n c =
    cond (eqb n 0) (record { answer = done; cache = c })
    (cond (may_put_back i n c) (record { answer = done; cache = restored i n c })
    (record { answer = number 25; cache = c }))

-- resize: "evicts least recent templates down to the new count, drops bodies over the new entry size, then oldest
-- bodies beyond the new cap"
abbrev pub cut : PendingFlowsConfig → List Template → Split
cut l ts =
    capped l.max_entries_per_template
    (pruned (λ j x. leb (size x) l.max_entry_size_bytes)
    (evicted (length ts - l.max_pending_flows) (untouched ts)))

-- "then least recent templates until the total fits"
unfoldable pub shrunk : PendingFlowsConfig → List Template → Split
shrunk l ts = let s = cut l ts in evicted (evictions l.max_total_bytes 0 s.held) s

-- "it answers the number dropped and adds it to pending_dropped"
unfoldable pub resized_to : PendingFlowsConfig → Cache → Split → Outcome
resized_to l c s = record {
  answer = count (length s.removed);
  cache = record {
    limits = l;
    cached = c.cached;
    dropped = raised c.dropped (length s.removed);
    held = s.held;
    chance = no_chance;
  };
}

-- areas of so many bytes and words; 1 to 5 where the new limits are refused
unfoldable pub resized : PendingFlowsConfig → ℕ → ℕ → Cache → Outcome
resized l bytes words c =
    cond (eqb (config_number l bytes words) 0) (resized_to l c (shrunk l c.held))
    (record { answer = number (config_number l bytes words); cache = c })

-- "clear empties and leaves the counters"
unfoldable pub cleared : Cache → Outcome
cleared c = record {
  answer = done;
  cache = record { limits = c.limits; cached = c.cached; dropped = c.dropped; held = []; chance = no_chance };
}

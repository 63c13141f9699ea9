-- The offer (`cache`), step by step as document 01 numbers them.
use Rattle.std.specs.Prelude.{List, [], ◌∷◌, ◌++◌, Bool, not, ◌&&◌, cond, ℕ, ◌+◌, eqb, leb, ltb, length}
use Rattle.config.specs.declared.PendingFlowsConfig.{PendingFlowsConfig}
use Rattle.cache_model.specs.Bodies.{Body, Template, size, sum_templates, bodies_of, without, expired}
use Rattle.cache_model.specs.Removal.{Split, untouched, evicted, evictions, pruned}
use Rattle.cache_model.specs.Cache.{Cache, Answer, done, number, Outcome, raised, no_chance}

pub data Verdict : Type 0 where
  accepted : Verdict
  refused : ℕ → Verdict

-- a verdict, and what is then held and removed
pub record Offered : Type 0 where
  pub verdict : Verdict
  pub left : Split

-- the body at the back of its template, and the template newest
unfoldable pub appended : ℕ → Body → Split → Split
appended i b s = record {
  held = without i s.held ++ (record { id = i; bodies = bodies_of i s.held ++ (b ∷ []) } ∷ []);
  removed = s.removed;
}

abbrev pub accept : ℕ → Body → Split → Offered
accept i b s = record { verdict = accepted; left = appended i b s }

abbrev pub refuse : ℕ → Split → Offered
refuse n s = record { verdict = refused n; left = s }

-- `old` tells which bodies are expired at the offer's clock reading
module _ (l : PendingFlowsConfig) (old : Body → Bool) (i : ℕ) (b : Body) where
  -- step 2: "while total plus length exceeds max_total_bytes, evict the least recent template whole"
  unfoldable pub step2 : List Template → Split
  step2 ts = evicted (evictions l.max_total_bytes (size b) ts) (untouched ts)

  -- step 3: "drop the expired bodies of this id; an emptied template goes"
  unfoldable pub step3 : Split → Split
  step3 s = pruned (λ j x. not (eqb i j && old x)) s

  -- step 4: the id is held: "20 when full, without promotion; else append and promote"
  unfoldable pub step4 : Split → Offered
  step4 s = cond (leb l.max_entries_per_template (length (bodies_of i s.held))) (refuse 20 s) (accept i b s)

  -- step 5, its end: "if still full evict the least recent. Add the id as newest"
  unfoldable pub add_newest : Split → Offered
  add_newest s = cond (leb l.max_pending_flows (length s.held)) (accept i b (evicted 1 s)) (accept i b s)

  -- step 5: the id is not held: at max_pending_flows, "drop all expired bodies everywhere, emptied templates too"
  unfoldable pub step5 : Split → Offered
  step5 s =
      cond (leb l.max_pending_flows (length s.held)) (add_newest (pruned (λ j x. not (old x)) s))
      (accept i b s)

  -- 4 or 5, by whether the id is held
  unfoldable pub step4or5 : List Body → Split → Offered
  step4or5 [] s = step5 s
  step4or5 (x ∷ xs) s = step4 s

  unfoldable pub after_step3 : Split → Offered
  after_step3 s = step4or5 (bodies_of i s.held) s

  -- 21: "no template left to evict, and the body is still over the total"
  unfoldable pub after_step2 : Split → Offered
  after_step2 s =
      cond (ltb l.max_total_bytes (sum_templates size s.held + size b)) (refuse 21 s) (after_step3 (step3 s))

  unfoldable pub steps2to5 : List Template → Offered
  steps2to5 ts = after_step2 (step2 ts)

abbrev pub verdict_answer : Verdict → Answer
verdict_answer accepted = done
verdict_answer (refused n) = number n

-- the accepted body, and the drop that a refusal counts
abbrev pub accepted_bodies : Verdict → Body → List Body
accepted_bodies accepted b = b ∷ []
accepted_bodies (refused n) b = []

abbrev pub refusal_drops : Verdict → ℕ
refusal_drops accepted = 0
refusal_drops (refused n) = 1

-- step 1: "number 6 adds one to pending_dropped, nothing else"
unfoldable pub refused_size : Cache → Outcome
refused_size c = record {
  answer = number 6;
  cache = record {
    limits = c.limits;
    cached = c.cached;
    dropped = raised c.dropped 1;
    held = c.held;
    chance = c.chance;
  };
}

-- step 6, and the drops. The chance ends, on 20 and 21 too
unfoldable pub settled : Cache → Body → Offered → Outcome
settled c b o = record {
  answer = verdict_answer o.verdict;
  cache = record {
    limits = c.limits;
    cached = raised c.cached (length (accepted_bodies o.verdict b));
    dropped = raised c.dropped (length o.left.removed + refusal_drops o.verdict);
    held = o.left.held;
    chance = no_chance;
  };
}

-- the offer of a body, at the clock reading that it carries
unfoldable pub offered : ℕ → Body → Cache → Outcome
offered i b c =
    cond (ltb c.limits.max_entry_size_bytes (size b)) (refused_size c)
    (settled c b (steps2to5 c.limits (expired c.limits.ttl b.clock) i b c.held))

-- How many bodies a call removes, told by how many are held before and after it: conservation, each body weighing 1.
-- Assumes nothing.
use mathlib.Core.Path.{◌≡◌, sym, ◌∙◌}
use mathlib.Core.List.{List}
use mathlib.Core.Bool.{Bool, not}
use Prim.Native.Nat.{ℕ, ◌+◌}
use native.Mathlib.Omega.{arith}
use lib.ListN.{length}
use Rattle.config.specs.declared.PendingFlowsConfig.{PendingFlowsConfig}
use Rattle.cache_model.specs.Bodies.{Body, Template, sum_templates, keep, all_bodies, bodies_of}
use Rattle.cache_model.specs.Bodies.{without}
use Rattle.cache_model.specs.Offer.{accepted_bodies, steps2to5}
use Rattle.cache_model.specs.Calls.{shrunk}
use Rattle.cache_model.proofs.Weights.{sum_all, sum_keep, sum_without, offer_conserves, shrunk_conserves}
use Rattle.cache_model.proofs.Weights.{count_bodies}

abbrev one : Body → ℕ
one b = 1

count_held : (ts : List Template) → sum_templates one ts ≡ length (all_bodies ts)
count_held ts = sym (sum_all one ts) ∙ count_bodies (all_bodies ts)

pub offer_drops : (l : PendingFlowsConfig) (old : Body → Bool) (i : ℕ) (b : Body) (ts : List Template)
    → let o = steps2to5 l old i b ts in
    length o.left.removed + length (all_bodies o.left.held)
    ≡ length (all_bodies ts) + length (accepted_bodies o.verdict b)
offer_drops l old i b ts =
    let o = steps2to5 l old i b ts in
    omega (
      arith,
      offer_conserves one l old i b ts,
      count_held ts,
      count_held o.left.held,
      count_bodies o.left.removed,
      count_bodies (accepted_bodies o.verdict b),
    )

pub drain_drops : (old : Body → Bool) (i : ℕ) (ts : List Template)
    → length (keep old (bodies_of i ts)) + length (keep (λ b. not (old b)) (bodies_of i ts))
    + length (all_bodies (without i ts)) ≡ length (all_bodies ts)
drain_drops old i ts =
    let bs = bodies_of i ts in
    let live : Body → Bool = λ b. not (old b) in
    omega (
      arith,
      sum_keep one old bs,
      sum_without one i ts,
      count_held ts,
      count_held (without i ts),
      count_bodies (keep old bs),
      count_bodies (keep live bs),
    )

pub resize_drops : (l : PendingFlowsConfig) (ts : List Template)
    → length (shrunk l ts).removed + length (all_bodies (shrunk l ts).held) ≡ length (all_bodies ts)
resize_drops l ts =
    let s = shrunk l ts in
    omega (
      arith,
      shrunk_conserves one l ts,
      count_held ts,
      count_held s.held,
      count_bodies s.removed,
    )

-- A move to a lower place part by part, from the front: what each part leaves. Assumes nothing.
use Rattle.std.proofs.Common.{◌≡◌, ℕ, ◌+◌, ◌-◌, ◌<◌, ◌≤◌, List, length, ap, ◌∙◌, arith}
use Rattle.areas.specs.Overwrite.{moved}
use Rattle.areas.proofs.Moves.{length_moved, moved_on}

-- the first `done` elements are moved
pub record MovedDown (area₀ : List ℕ) (from to len : ℕ) (area : List ℕ) (done : ℕ) : Type 0 where
  pub passed : done ≤ len
  pub downwards : to ≤ from
  pub source : from + len ≤ length area₀
  pub same_length : length area ≡ length area₀
  pub now_is : area ≡ moved from to done area₀

-- so many at once
pub more_moved_down : {area₀ area : List ℕ} {from to len done : ℕ} → MovedDown area₀ from to len area done →
    (k : ℕ) (area' : List ℕ) → k < len - done → area' ≡ moved (from + done) (to + done) k area →
    MovedDown area₀ from to len area' (done + k)
more_moved_down {area₀} {area} {from} {to} {len} {done} inv k area' h e = record {
  passed = omega (arith, h, inv.passed);
  downwards = inv.downwards;
  source = inv.source;
  same_length =
      ap length e ∙ length_moved (from + done) (to + done) k area (omega (arith, h, inv)) (omega (arith, h, inv))
      ∙ inv.same_length;
  now_is =
      e ∙ ap (moved (from + done) (to + done) k) inv.now_is
      ∙ moved_on from to done k area₀ inv.downwards (omega (arith, h, inv));
}

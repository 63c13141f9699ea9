-- A move within a list, whole and by blocks, and what it leaves. Assumes nothing.
use mathlib.Core.Path.{◌≡◌, sym, ◌∙◌}
use mathlib.Core.List.{List, ◌++◌, append_assoc}
use Prim.Native.Nat.{ℕ, ◌+◌, ◌-◌, ◌≤◌}
use native.Mathlib.Nat.{zero-add}
use native.Mathlib.Omega.{arith}
use lib.ListN.{length, take, drop, length-drop, take-append-drop}
use lib.Seq.{paste, paste-zero, take-paste, take-add, take-take, drop-drop}
use borrow.Rule.Slice.PartMut.{mid_of, put_mid}
use Rattle.std.proofs.lemmas.List.{drop-append-le, drop-take, take_rest}
use Rattle.std.proofs.Common.{take_all}
use Rattle.areas.specs.Overwrite.{overwritten, put_at, moved}
use Rattle.areas.proofs.Puts.{drop_more, length_part, length_put, put_there, take_put, drop_put}
use Rattle.areas.proofs.Puts.{overwritten_whole}

module _ {X : Type 0} where
  module _ (from to n : ℕ) (xs : List X) (source : from + n ≤ length xs) where
    length_source : length (take n (drop from xs)) ≡ n
    length_source = length_part from n xs source

    -- a move puts the source's elements into the target's place
    moved_puts : moved from to n xs ≡ put_at to (take n (drop from xs)) xs
    unfolding moved put_at
    moved_puts = rw length_source

    module _ (target : to + n ≤ length xs) where
      within : to + length (take n (drop from xs)) ≤ length xs
      within = rw length_source target

      pub length_moved : length (moved from to n xs) ≡ length xs
      length_moved = rw moved_puts (length_put to (take n (drop from xs)) xs within)

      -- the target holds what the source held
      pub moved_there : take n (drop to (moved from to n xs)) ≡ take n (drop from xs)
      moved_there =
          rw moved_puts (rw length_source at (put_there to (take n (drop from xs)) xs within))

      -- what stands before the target and behind it is unchanged
      pub take_moved : take to (moved from to n xs) ≡ take to xs
      take_moved = rw moved_puts (take_put to (take n (drop from xs)) xs within)

      pub drop_moved : drop (to + n) (moved from to n xs) ≡ drop (to + n) xs
      drop_moved = rw moved_puts (rw length_source at (drop_put to (take n (drop from xs)) xs within))

      pub drop_moved_from : (m : ℕ) → to + n ≤ m → drop m (moved from to n xs) ≡ drop m xs
      drop_moved_from m h = drop_more m (to + n) (moved from to n xs) xs h drop_moved

  -- a move as the library's copy of a list's first elements
  moved_pastes : (from to n : ℕ) (xs : List X) → moved from to n xs ≡ paste xs to (drop from xs) n
  unfolding moved
  moved_pastes from to n xs = rw append_assoc

  -- as a clause of the library has it
  pub copied_within : (from to n : ℕ) (xs xs' : List X) → xs' ≡ paste xs to (drop from xs) (from + n - from) →
      xs' ≡ moved from to n xs
  copied_within from to n xs xs' e =
      let all : from + n - from ≡ n = omega arith in
      e ∙ rw (all, moved_pastes from to n xs)

  -- nothing is moved yet
  pub moved_none : (from to : ℕ) (xs : List X) → xs ≡ moved from to 0 xs
  moved_none from to xs = paste-zero xs to (drop from xs) ∙ sym (moved_pastes from to 0 xs)

  -- nothing changes where source and target are the same place
  pub moved_to_itself : (from to n : ℕ) (xs : List X) → to ≡ from → xs ≡ moved from to n xs
  unfolding moved
  moved_to_itself from to n xs same =
      rw (same, ← drop-drop n from xs, take-append-drop n (drop from xs), take-append-drop from xs)

  -- a move to a lower place in two parts, the front one first
  module _ (from to k n : ℕ) (xs : List X) (down : to ≤ from) (source : from + (k + n) ≤ length xs) where
    front_moved : take (to + k) (moved from to k xs) ≡ take to xs ++ take k (drop from xs)
    front_moved =
        rw (moved_pastes from to k xs)
        (take-paste xs to (drop from xs) k (omega arith) (omega (arith, length-drop from xs)))

    unmoved : (m : ℕ) → to + k ≤ m → drop m (moved from to k xs) ≡ drop m xs
    unmoved m h = drop_moved_from from to k xs (omega arith) (omega arith) m h

    parts_moved : (ys : List X) → take (to + k) ys ≡ take to xs ++ take k (drop from xs) →
        drop (from + k) ys ≡ drop (from + k) xs → drop (to + k + n) ys ≡ drop (to + k + n) xs →
        moved (from + k) (to + k) n ys ≡ moved from to (k + n) xs
    unfolding moved
    parts_moved ys front behind rest =
        let whole : to + (k + n) ≡ to + k + n = omega arith in
        rw (front, behind, rest, whole, take-add k n (drop from xs), drop-drop k from xs, append_assoc, append_assoc)

    pub moved_on : moved (from + k) (to + k) n (moved from to k xs) ≡ moved from to (k + n) xs
    moved_on =
        parts_moved (moved from to k xs) front_moved (unmoved (from + k) (omega arith))
        (unmoved (to + k + n) (omega arith))

  -- a block that is read whole, and then written to the front
  pub block_moved : (by : ℕ) (part part' block block' : List X) → by + length block ≡ length part →
      block' ≡ overwritten block (take (length part - by) (drop by part)) → part' ≡ overwritten part block' →
      part' ≡ moved by 0 (length block) part
  unfolding overwritten moved
  block_moved by part part' block block' e read written =
      let n = length-drop by part in
      let k : length block ≡ length (drop by part) = omega arith in
      let whole : block' ≡ drop by part = read ∙ rw (take_rest part by) (overwritten_whole block (drop by part) k) in
      written ∙ rw (whole, k, take_all (length (drop by part)) (drop by part) (omega arith), zero-add)

  -- a part of a list whose end moves to its front
  pub part_moved : (to by n k : ℕ) (xs part : List X) → k ≡ by + n → to + k ≤ length xs →
      part ≡ moved by 0 n (mid_of to k xs) → put_mid to k xs part ≡ moved (to + by) to n xs
  unfolding moved
  part_moved to by n k xs part e h is =
      let l = drop to xs in
      let len = length_part to k xs h in
      let behind : drop n (take k l) ++ drop k l ≡ drop (to + n) xs =
      sym (drop-append-le n (take k l) (drop k l) (omega arith)) ∙ rw (take-append-drop k l) (drop-drop n to xs)
      in
      let front : take n (drop by (take k l)) ≡ take n (drop (to + by) xs) =
      rw (e, drop-take by n l, drop-drop by to xs) (take-take n n (drop (to + by) xs) (omega arith))
      in
      rw (is, zero-add, append_assoc, behind, front)

  -- a part that moves behind the one that moved
  pub moved_further : (from to k n m all : ℕ) (xs xs' part : List X) →
      part ≡ moved (from - to) 0 (length (mid_of (to + k) m xs') - (from - to)) (mid_of (to + k) m xs') →
      m ≡ from + k + n - (to + k) → xs' ≡ moved from to k xs → to ≤ from → from + all ≤ length xs → k + n ≤ all →
      all ≤ k + n → put_mid (to + k) m xs' part ≡ moved from to all xs
  moved_further from to k n m all xs xs' part is e e' down source le ge =
      let whole : k + n ≡ all = omega arith in
      let there : to + k + (from - to) ≡ from + k = omega arith in
      let size : m ≡ from - to + n = omega arith in
      let kept : length xs' ≡ length xs = rw e' (length_moved from to k xs (omega arith) (omega arith)) in
      let rest : length (mid_of (to + k) m xs') - (from - to) ≡ n =
      omega (arith, length_part (to + k) m xs' (omega arith))
      in
      part_moved (to + k) (from - to) n m xs' part size (omega arith) (rw rest at is)
      ∙ rw (there, e', moved_on from to k n xs down (omega arith), whole)

-- what moves to a lower place by blocks stand on
pub ruleset down = (moved_to_itself, moved_none, moved_further)

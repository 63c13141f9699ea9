-- What copies and moves leave.
use Rattle.std.specs.Prelude.{List, ◌++◌, ℕ, ◌+◌, length, take, drop}

-- ys at the front, and behind it what was there
unfoldable pub overwritten : {X : Type 0} → List X → List X → List X
overwritten xs ys = ys ++ drop (length ys) xs

-- ys from `at` on; no other element changes
unfoldable pub put_at : {X : Type 0} → ℕ → List X → List X → List X
put_at at ys xs = take at xs ++ (ys ++ drop (at + length ys) xs)

-- the n elements that stood from `from` on stand from `to` on; no element outside the target changes
unfoldable pub moved : {X : Type 0} → ℕ → ℕ → ℕ → List X → List X
moved from to n xs = take to xs ++ (take n (drop from xs) ++ drop (to + n) xs)

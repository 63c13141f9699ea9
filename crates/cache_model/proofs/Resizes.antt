-- A resize keeps to the new limits.
-- Assumes nothing.
use mathlib.Core.List.{List, [], ◌∷◌}
use mathlib.Core.Bool.{Bool}
use Prim.Native.Nat.{ℕ, ◌-◌, ◌≤◌, ◌<◌}
use native.Mathlib.Omega.{arith}
use lib.Dec.{leb}
use lib.ListN.{length, drop, length-drop}
use borrow.Author.Tests.{leb-true}
use Rattle.config.specs.declared.PendingFlowsConfig.{PendingFlowsConfig}
use Rattle.config.proofs.Tests.{by_case}
use Rattle.config.proofs.Lists.{All}
use Rattle.cache_model.specs.Bodies.{Body, Template, size, keep}
use Rattle.cache_model.specs.Removal.{evicted, evictions, kept_of, pruned, newest_of, capped}
use Rattle.cache_model.specs.Calls.{shrunk}
use Rattle.cache_model.proofs.Lists.{Part, all_sub, part_map, part_trans, length_part, sub_drop}
use Rattle.cache_model.proofs.Parts.{Fewer, fewer_equal, fewer_trans, kept_part, newest_part, differ_part}
use Rattle.cache_model.proofs.Parts.{Filled, kept_filled, kept_have}
use Rattle.cache_model.proofs.Limits.{LegalLimits, Within, each_inherits, small_inherited, evictions_make_room}
use Rattle.cache_model.proofs.Limits.{Followed}

newest_filled : (n : ℕ) (ts : List Template) → 0 < n → Filled ts → Filled (newest_of n ts)
newest_filled n [] some f = tt
newest_filled n (t ∷ ts) some f =
    (omega (arith, f.0, length-drop (length t.bodies - n) t.bodies), newest_filled n ts some f.1)

newest_capped : (n : ℕ) (ts : List Template) → All (λ t. length t.bodies ≤ n) (newest_of n ts)
newest_capped n [] = tt
newest_capped n (t ∷ ts) = (omega (arith, length-drop (length t.bodies - n) t.bodies), newest_capped n ts)

-- the bodies that pass the size test
kept_small : (n : ℕ) (bs : List Body) → All (λ b. size b ≤ n) (keep (λ x. leb (size x) n) bs)
kept_small n [] = tt
kept_small n (b ∷ bs) =
    by_case (All (λ x. size x ≤ n)) (leb (size b) n)
    (λ e. (leb-true (size b) n e, kept_small n bs))
    (λ _. kept_small n bs)

-- what is followed holds of what is left
pub shrunk_within : {l : PendingFlowsConfig} {F : Followed} (l' : PendingFlowsConfig) (ts : List Template)
    → LegalLimits l' → Within l F [] ts → Within l' F [] (shrunk l' ts).held
unfolding shrunk evicted pruned capped
shrunk_within {F} l' ts legal h =
    let cap = l'.max_entries_per_template in
    let largest = l'.max_entry_size_bytes in
    let n = length ts - l'.max_pending_flows in
    let test : ℕ → Body → Bool = λ j x. leb (size x) largest in
    let few = drop n ts in
    let sized = kept_of test few in
    let newest = newest_of cap sized in
    let k = evictions l'.max_total_bytes 0 newest in
    let last = part_map fewer_equal (sub_drop k newest) in
    let ofSized : Part Fewer (drop k newest) sized = part_trans fewer_trans last (newest_part cap sized) in
    let ofFew : Part Fewer (drop k newest) few = part_trans fewer_trans ofSized (kept_part test few) in
    let first = part_map fewer_equal (sub_drop n ts) in
    let of_all : Part Fewer (drop k newest) ts = part_trans fewer_trans ofFew first in
    let Small : List Body → Type 0 = All (λ b. size b ≤ largest) in
    let small = kept_have Small test (λ t _. kept_small largest t.bodies) few in
    let filled = newest_filled cap sized legal.entries (kept_filled test few) in
    record {
      few = omega (arith, length_part ofFew, length-drop n ts);
      caps = all_sub (λ t. length t.bodies ≤ cap) (sub_drop k newest) (newest_capped cap sized);
      small = each_inherits Small (small_inherited largest) ofSized small;
      followed = each_inherits (F.Holds []) (F.inherited []) of_all h.followed;
      differ = differ_part of_all h.differ;
      filled = all_sub (λ t. 0 < length t.bodies) (sub_drop k newest) filled;
      room = omega (arith, evictions_make_room l'.max_total_bytes 0 newest (omega arith));
    }

-- Each accepted body has exactly one fate, and what is held is in order.
-- Assumes nothing.
use mathlib.Core.Path.{◌≡◌, refl, sym, subst}
use mathlib.Core.List.{List, [], ◌∷◌, ◌++◌, append-nil, Memᴰ as Member}
use mathlib.Core.List.{Sublistᴰ as InOrderOf}
use mathlib.Core.Bool.{cond}
use Prim.Native.Nat.{ℕ, zero, suc, ◌+◌}
use native.Mathlib.Omega.{arith}
use lib.Dec.{eqb}
use Rattle.config.proofs.Lists.{All}
use Rattle.cache_model.specs.Bodies.{Body, Template, sum_bodies, unless_empty}
use Rattle.cache_model.specs.Cache.{Answer}
use Rattle.cache_model.proofs.Lists.{SubList, none, both, skip, all_sub, part_append, sub_all, sub_none}
use Rattle.cache_model.proofs.Weights.{sum_append, sum_all, count_bodies}
use Rattle.cache_model.proofs.Calls.{held_within}
use Rattle.history.specs.Account.{Event, Account, refusals_in, held_bodies, handed_out_bodies, dropped_bodies}
use Rattle.history.specs.Claim.{offers_answered, ordinals, is_done, is_refusal, times_in, Times, OneFate, Held}
use Rattle.history.specs.Claim.{HandedOut, Dropped, Cleared, Fates}
use Rattle.history.proofs.Drops.{length_drops}
use Rattle.history.proofs.Balance.{Balanced}
use Rattle.history.proofs.Order.{InOrder}
use Rattle.history.proofs.Answers.{offered_once}
use Rattle.history.proofs.Rearranged.{rearranged}

-- ---- one fate

one_fate_lem : (n : ℕ) (a : Account) (x y z v : ℕ) → Times n a x y z v → x + y + z + v ≡ 1 → OneFate n a
one_fate_lem n a (suc x) y z v t e = Held (omega arith)
one_fate_lem n a zero (suc y) z v t e = HandedOut (omega arith)
one_fate_lem n a zero zero (suc z) v t e = Dropped (omega arith)
one_fate_lem n a zero zero zero v t e = Cleared (omega arith)

-- ---- in order

sub_list : {xs ys : List Body} → SubList xs ys → InOrderOf xs ys
sub_list none = InOrderOf.slnil
sub_list (both e s) = InOrderOf.cons-cons e (sub_list s)
sub_list (skip s) = InOrderOf.cons (sub_list s)

member_has : (P : Template → Type 0) {t : Template} {ts : List Template} → All P ts → Member t ts → P t
member_has P a (Member.head e) = subst P (sym e) a.0
member_has P a (Member.tail m) = member_has P a.1 m

-- what holds of no bodies, and of each of the templates, holds of a last one's bodies
last_has : (P : List Body → Type 0) → P [] → (i : ℕ) (bs : List Body) (ts : List Template)
    → All (λ t. P t.bodies) (ts ++ unless_empty i bs []) → P bs
last_has P p i [] ts a = p
last_has P p i (b ∷ bs) ts a =
    let last : List Template = record { id = i; bodies = b ∷ bs } ∷ [] in
    (all_sub (λ t. P t.bodies) (part_append (sub_none ts) (sub_all last)) a).0

module _ (a : Account) (h : InOrder a) where
  abbrev Ordered : List Body → Type 0
  Ordered bs = SubList bs (a.accepted ++ [])

  in_order : {bs : List Body} → Ordered bs → InOrderOf bs a.accepted
  in_order s = sub_list (rw append-nil at s)

  held_ordered : (t : Template) → Member t a.cache.held → InOrderOf t.bodies a.accepted
  held_ordered t m = in_order (member_has (λ u. Ordered u.bodies) (held_within a.cache h).followed m)

  chance_ordered : InOrderOf a.cache.chance.bodies a.accepted
  chance_ordered =
      let c = a.cache in
      in_order (last_has Ordered (sub_none (a.accepted ++ [])) c.chance.id c.chance.bodies c.held
      h.within.followed)

-- ---- together

module _ (a : Account) (b : Balanced a) (w : Body → ℕ) where
  sum_fates : sum_bodies w (held_bodies a) + sum_bodies w (handed_out_bodies a) + sum_bodies w (dropped_bodies a)
      + sum_bodies w a.cleared ≡ sum_bodies w a.accepted
  sum_fates =
      omega (
        arith,
        b.weights w,
        sum_all w a.cache.held,
        sum_append w a.handed_out_for_good a.cache.chance.bodies,
      )

  sum_together : sum_bodies w (held_bodies a ++ (handed_out_bodies a ++ (dropped_bodies a ++ a.cleared)))
      ≡ sum_bodies w a.accepted
  sum_together =
      omega (
        arith,
        sum_fates,
        sum_append w (held_bodies a) (handed_out_bodies a ++ (dropped_bodies a ++ a.cleared)),
        sum_append w (handed_out_bodies a) (dropped_bodies a ++ a.cleared),
        sum_append w (dropped_bodies a) a.cleared,
      )

pub all_fates : (es : List Event) (answers : List Answer) (a : Account) → Balanced a → InOrder a
    → a.accepted ≡ offers_answered is_done 0 es answers
    → refusals_in a.drops ≡ ordinals (offers_answered is_refusal 0 es answers) → Fates es answers a
all_fates es answers a b h accepted refusals =
    let held = held_bodies a in
    let handed = handed_out_bodies a in
    let dropped = dropped_bodies a in
    record {
      accepted = accepted;
      once = λ n. rw accepted (offered_once is_done n 0 es answers).0;
      together = rearranged (held ++ (handed ++ (dropped ++ a.cleared))) a.accepted (sum_together a b);
      one_fate = λ n e. one_fate_lem n a (times_in n held) (times_in n handed) (times_in n dropped)
          (times_in n a.cleared)
          (refl, refl, refl, refl) (omega (arith, sum_fates a b (λ x. cond (eqb n x.number) 1 0)));
      in_order = held_ordered a h;
      chance_in_order = chance_ordered a h;
      counted = omega (
        arith,
        sum_fates a b (λ _. 1),
        count_bodies held,
        count_bodies handed,
        count_bodies dropped,
        count_bodies a.cleared,
        count_bodies a.accepted,
      );
      units = length_drops a.drops;
      refusals = refusals;
    }

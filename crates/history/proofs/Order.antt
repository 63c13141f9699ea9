-- The limits hold throughout, and the bodies of each template stand in the order of their offers.
-- Assumes nothing.
use mathlib.Core.Path.{◌∙◌}
use mathlib.Core.List.{List, [], ◌∷◌, ◌++◌, append-nil}
use Prim.Native.Nat.{ℕ}
use lib.Dec.{eqb, ltb}
use borrow.Author.Tests.{eqb-true, eqb-false, ltb-false}
use Rattle.config.specs.declared.PendingFlowsConfig.{PendingFlowsConfig}
use Rattle.config.specs.Limits.{config_number}
use Rattle.cache_model.specs.Bodies.{Body, size}
use Rattle.cache_model.specs.Cache.{Cache, Outcome}
use Rattle.cache_model.specs.Offer.{offered}
use Rattle.cache_model.specs.Calls.{may_put_back, put_back, resized}
use Rattle.cache_model.specs.History.{Call, Offer, Drain, PutBack, Resize, Clear}
use Rattle.cache_model.specs.History.{does}
use Rattle.cache_model.proofs.Lists.{SubList, part_trans, part_append, sub_all, sub_none, sub_front}
use Rattle.cache_model.proofs.Limits.{LegalLimits, config_legal, Followed, followed_within, nothing_within}
use Rattle.cache_model.proofs.Calls.{CacheWithin, refused_size_within, settled_within, drained_within}
use Rattle.cache_model.proofs.Calls.{restored_within, resized_to_within, cleared_within}
use Rattle.history.specs.Account.{Event, call, refused_opening, Account, Change, begun, change, next}
use Rattle.history.specs.Account.{account_after}
use Rattle.history.proofs.Cases.{by_test}

-- bodies that stand in the order of these, none altered
abbrev pub order_of : List Body → Followed
order_of bs = record {
  Holds = λ new xs. SubList xs (bs ++ new);
  empty = sub_none (bs ++ []);
  inherited = λ new xs ys s h. part_trans (λ x y z d e. d ∙ e) s h;
  later = λ b xs h. part_trans (λ x y z d e. d ∙ e) (rw append-nil at h) (sub_front bs (b ∷ []));
  joins = λ b xs h. part_append (rw append-nil at h) (sub_all (b ∷ []));
}

abbrev pub InOrder : Account → Type 0
InOrder a = CacheWithin (order_of a.accepted) [] a.cache

call_within : {F : Followed} (k : ℕ) (x : Call) (c : Cache) → CacheWithin F [] c
    → CacheWithin F (change k x c).accepted (does k x c).cache
unfolding does change offered put_back resized
call_within {F} k (Offer i bytes now) c h =
    let b : Body = record { number = k; bytes = bytes; clock = now } in
    let most = c.limits.max_entry_size_bytes in
    by_test (λ o d. CacheWithin F d.accepted o.cache) (ltb most (size b))
    (λ _. refused_size_within c h)
    (λ e. settled_within c h i b (ltb-false most (size b) e))
call_within k (Drain i now) c h = drained_within c h i now
call_within {F} k (PutBack i n) c h =
    let Kept : Outcome → Change → Type 0 = λ o d. CacheWithin F d.accepted o.cache in
    by_test Kept (eqb n 0)
    (λ _. h)
    (λ e. by_test Kept (may_put_back i n c) (restored_within c h i n (eqb-false n 0 e)) (λ _. h))
call_within {F} k (Resize l bytes words) c h =
    let n = config_number l bytes words in
    by_test (λ o d. CacheWithin F d.accepted o.cache) (eqb n 0)
    (λ e. resized_to_within c h l (config_legal l bytes words (eqb-true n 0 e)))
    (λ _. h)
call_within k Clear c h = cleared_within c h
call_within k query c h = h

pub begun_in_order : (l : PendingFlowsConfig) → LegalLimits l → InOrder (begun l)
begun_in_order l legal = record { legal = legal; within = nothing_within l (order_of []) [] }

pub next_in_order : (e : Event) (a : Account) → InOrder a → InOrder (next e a)
unfolding next
next_in_order (call x) a h =
    let after = call_within a.offers x a.cache h in
    record { legal = after.legal; within = followed_within (λ bs s. rw append-nil s) after.within }
next_in_order (refused_opening o) a h = h

pub all_in_order : (es : List Event) (a : Account) → InOrder a → InOrder (account_after es a)
unfolding account_after
all_in_order [] a h = h
all_in_order (e ∷ es) a h = all_in_order es (next e a) (next_in_order e a h)

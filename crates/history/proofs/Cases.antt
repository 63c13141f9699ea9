-- Outcomes and changes that one test chooses between, and whether an event is an offer.
-- Assumes nothing.
use mathlib.Core.Path.{◌≡◌, refl}
use mathlib.Core.Logic.{◌⊎◌, inl, inr}
use mathlib.Core.List.{[], ◌∷◌}
use mathlib.Core.Bool.{Bool, true, false, cond}
use Prim.Native.Nat.{ℕ}
use lib.ListN.{length}
use Rattle.cache_model.specs.Bodies.{Body}
use Rattle.cache_model.specs.Cache.{Outcome}
use Rattle.cache_model.specs.History.{Offer}
use Rattle.history.specs.Account.{Event, call, offered_by, Change}

pub by_test : (P : Outcome → Change → Type 0) (q : Bool) {o o' : Outcome} {d d' : Change} → (q ≡ true → P o d)
    → (q ≡ false → P o' d') → P (cond q o o') (cond q d d')
by_test P true f g = f refl
by_test P false f g = g refl

pub cond_same : {A : Type 0} (q : Bool) (x : A) → cond q x x ≡ x
cond_same true x = refl
cond_same false x = refl

-- an event offers nothing, or one body with the offer's ordinal
pub one_offer : (k : ℕ) (e : Event)
    → (offered_by k e ≡ []) ⊎ ((b : Body) × (b.number ≡ k) × (offered_by k e ≡ b ∷ []))
one_offer k (call (Offer i bytes now)) = inr (record { number = k; bytes = bytes; clock = now }, refl, refl)
one_offer k e = inl refl

pub length_offered : (k : ℕ) (e : Event) → length (offered_by k e) ≡ length (offered_by 0 e)
length_offered k (call (Offer i bytes now)) = refl
length_offered k e = refl

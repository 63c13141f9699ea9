-- Lists of drops: the dropped bodies and the refused offers in them.
-- Assumes nothing.
use mathlib.Core.Path.{◌≡◌, refl, ap}
use mathlib.Core.List.{List, [], ◌∷◌, map}
use Prim.Native.Nat.{◌+◌}
use native.Mathlib.Omega.{arith}
use lib.ListN.{length}
use Rattle.cache_model.specs.Bodies.{Body}
use Rattle.history.specs.Account.{Drop, body, refused_offer, bodies_in, refusals_in}

pub bodies_of_bodies : (bs : List Body) → bodies_in (map body bs) ≡ bs
bodies_of_bodies [] = refl
bodies_of_bodies (b ∷ bs) = ap (λ (xs : List Body). b ∷ xs) (bodies_of_bodies bs)

pub no_refusals : (bs : List Body) → refusals_in (map body bs) ≡ []
no_refusals [] = refl
no_refusals (b ∷ bs) = no_refusals bs

-- each drop is a dropped body or a refused offer
pub length_drops : (ds : List Drop) → length ds ≡ length (bodies_in ds) + length (refusals_in ds)
length_drops [] = refl
length_drops (body b ∷ ds) = omega (arith, length_drops ds)
length_drops (refused_offer k ∷ ds) = omega (arith, length_drops ds)

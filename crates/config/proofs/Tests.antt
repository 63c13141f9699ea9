-- Tests joined by `&&` and `||`, and choices by a test. Assumes nothing.
use mathlib.Core.Path.{◌≡◌, refl, sym}
use mathlib.Core.Bool.{Bool, true, false, ◌&&◌, ◌||◌, cond, false≢true}

-- a choice has what both its sides have
pub by_case : {A : Type 0} (P : A → Type 0) (t : Bool) {x y : A} → (t ≡ true → P x) → (t ≡ false → P y) →
    P (cond t x y)
by_case P true f g = f refl
by_case P false f g = g refl

pub cond_of : {A B : Type 0} (g : A → B) (t : Bool) (x y : A) → g (cond t x y) ≡ cond t (g x) (g y)
cond_of g true x y = refl
cond_of g false x y = refl

pub and_left : (s t : Bool) → s && t ≡ true → s ≡ true
and_left true t e = refl
and_left false t e = e

pub and_right : (s t : Bool) → s && t ≡ true → t ≡ true
and_right true t e = e
and_right false t e = absurd (false≢true e)

pub and_both : (s t : Bool) → s ≡ true → t ≡ true → s && t ≡ true
and_both true t e f = f
and_both false t e f = e

-- a test that fails decides; one that holds leaves it to the others
pub and_fails : (s t : Bool) → s ≡ false → false ≡ s && t
and_fails true t e = absurd (false≢true (sym e))
and_fails false t e = refl

pub and_holds : (r s t : Bool) → s ≡ true → r ≡ t → r ≡ s && t
and_holds r true t e f = f
and_holds r false t e f = absurd (false≢true e)

pub or_first : (s t : Bool) → s ≡ true → s || t ≡ true
or_first true t e = refl
or_first false t e = absurd (false≢true e)

pub or_second : (s t : Bool) → t ≡ true → s || t ≡ true
or_second true t e = refl
or_second false t e = e

pub or_other : (s t : Bool) → s || t ≡ true → (t ≡ true → ⊥) → s ≡ true
or_other true t e d = refl
or_other false t e d = absurd (d e)

-- two tests that hold in the same cases
pub same_test : (s t : Bool) → (s ≡ true → t ≡ true) → (t ≡ true → s ≡ true) → s ≡ t
same_test true true f g = refl
same_test true false f g = sym (f refl)
same_test false true f g = g refl
same_test false false f g = refl

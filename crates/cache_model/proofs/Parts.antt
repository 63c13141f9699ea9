-- What removals leave is a part of what was held: templates and bodies are missing, and nothing is altered or moved.
-- Then templates whose ids differ, and the bodies of an id. Assumes nothing.
use mathlib.Core.Path.{◌≡◌, refl, sym, ap, ◌∙◌, subst}
use mathlib.Core.Logic.{◌≢◌}
use mathlib.Core.List.{List, [], ◌∷◌, ◌++◌}
use mathlib.Core.Bool.{Bool, true, false, cond}
use Prim.Native.Nat.{ℕ, suc, ◌-◌, ◌≤◌, ◌<◌}
use native.Mathlib.Omega.{arith}
use lib.Dec.{eqb}
use lib.ListN.{length}
use borrow.Author.Tests.{eqb-true, eqb-false}
use Rattle.config.proofs.Tests.{by_case}
use Rattle.config.proofs.Lists.{All, all_last}
use Rattle.cache_model.specs.Bodies.{Body, Template, sum_bodies, sum_templates, keep, bodies_of, without}
use Rattle.cache_model.specs.Bodies.{unless_empty}
use Rattle.cache_model.specs.Removal.{kept_of, newest_of}
use Rattle.cache_model.proofs.Lists.{Part, none, both, skip, SubList, all_part, part_trans}
use Rattle.cache_model.proofs.Lists.{sub_all, sub_drop}

-- the same template with bodies missing
abbrev pub Fewer : Template → Template → Type 0
Fewer t u = (t.id ≡ u.id) × SubList t.bodies u.bodies

pub fewer_equal : (t u : Template) → t ≡ u → Fewer t u
fewer_equal t u e = subst (Fewer t) e (refl, sub_all t.bodies)

pub fewer_trans : (t u v : Template) → Fewer t u → Fewer u v → Fewer t v
fewer_trans t u v f g = (f.0 ∙ g.0, part_trans (λ x y z d e. d ∙ e) f.1 g.1)

pub sub_keep : (p : Body → Bool) (bs : List Body) → SubList (keep p bs) bs
sub_keep p [] = none
sub_keep p (b ∷ bs) =
    by_case (λ (xs : List Body). SubList xs (b ∷ bs)) (p b)
    (λ _. both refl (sub_keep p bs))
    (λ _. skip (sub_keep p bs))

pub sub_without : (i : ℕ) (ts : List Template) → SubList (without i ts) ts
sub_without i [] = none
sub_without i (t ∷ ts) =
    by_case (λ (us : List Template). SubList us (t ∷ ts)) (eqb i t.id)
    (λ _. skip (sub_all ts))
    (λ _. both refl (sub_without i ts))

pub kept_part : (p : ℕ → Body → Bool) (ts : List Template) → Part Fewer (kept_of p ts) ts
kept_part p [] = none
kept_part p (t ∷ ts) = unless_empty_lem (keep (p t.id) t.bodies) (sub_keep (p t.id) t.bodies) (kept_part p ts)
  where
    unless_empty_lem : (bs : List Body) → SubList bs t.bodies → Part Fewer (kept_of p ts) ts
        → Part Fewer (unless_empty t.id bs (kept_of p ts)) (t ∷ ts)
    unless_empty_lem [] s r = skip r
    unless_empty_lem (b ∷ bs) s r = both (refl, s) r

pub newest_part : (n : ℕ) (ts : List Template) → Part Fewer (newest_of n ts) ts
newest_part n [] = none
newest_part n (t ∷ ts) = both (refl, sub_drop (length t.bodies - n) t.bodies) (newest_part n ts)

-- a part weighs no more
pub sum_sub : (w : Body → ℕ) {xs ys : List Body} → SubList xs ys → sum_bodies w xs ≤ sum_bodies w ys
sum_sub w none = omega arith
sum_sub w (both e s) = omega (arith, ap w e, sum_sub w s)
sum_sub w (skip s) = omega (arith, sum_sub w s)

pub sum_part : (w : Body → ℕ) {ts us : List Template} → Part Fewer ts us → sum_templates w ts ≤ sum_templates w us
sum_part w none = omega arith
sum_part w (both f s) = omega (arith, sum_sub w f.1, sum_part w s)
sum_part w (skip s) = omega (arith, sum_part w s)

-- no template has this id; no two have the same
abbrev pub Absent : ℕ → List Template → Type 0
Absent i ts = All (λ t. i ≢ t.id) ts

abbrev pub Differ : List Template → Type 0
Differ [] = Unit {0}
Differ (t ∷ ts) = Absent t.id ts × Differ ts

pub absent_part : (i : ℕ) {ts us : List Template} → Part Fewer ts us → Absent i us → Absent i ts
absent_part i s a = all_part (λ t. i ≢ t.id) (λ t u f n e. n (e ∙ f.0)) s a

pub differ_part : {ts us : List Template} → Part Fewer ts us → Differ us → Differ ts
differ_part none d = tt
differ_part (both {y = u} {ys = us} f s) d =
    (absent_part _ s (subst (λ (i : ℕ). Absent i us) (sym f.0) d.0), differ_part s d.1)
differ_part (skip s) d = differ_part s d.1

pub differ_last : (ts : List Template) (t : Template) → Absent t.id ts → Differ ts → Differ (ts ++ (t ∷ []))
differ_last [] t a d = (tt, tt)
differ_last (u ∷ us) t a d =
    (all_last (λ v. u.id ≢ v.id) us t d.0 (λ e. a.0 (sym e)), differ_last us t a.1 d.1)

pub absent_behind : (i : ℕ) (t : Template) (ts : List Template) → eqb i t.id ≡ true → Differ (t ∷ ts) → Absent i ts
absent_behind i t ts e d = subst (λ (j : ℕ). Absent j ts) (sym (eqb-true i t.id e)) d.0

pub absent_without : (i : ℕ) (ts : List Template) → Differ ts → Absent i (without i ts)
absent_without i [] d = tt
absent_without i (t ∷ ts) d =
    by_case (Absent i) (eqb i t.id)
    (λ e. absent_behind i t ts e d)
    (λ e. (eqb-false i t.id e, absent_without i ts d.1))

-- what holds of no bodies, and of each template's, holds of an id's
pub bodies_of_have : (P : List Body → Type 0) → P [] → (i : ℕ) (ts : List Template) → All (λ t. P t.bodies) ts
    → P (bodies_of i ts)
bodies_of_have P p i [] a = p
bodies_of_have P p i (t ∷ ts) a =
    by_case P (eqb i t.id) (λ _. a.0) (λ _. bodies_of_have P p i ts a.1)

pub absent_has_none : (i : ℕ) (ts : List Template) → Absent i ts → bodies_of i ts ≡ []
absent_has_none i [] a = refl
absent_has_none i (t ∷ ts) a =
    by_case (λ (bs : List Body). bs ≡ []) (eqb i t.id)
    (λ e. absurd (a.0 (eqb-true i t.id e)))
    (λ _. absent_has_none i ts a.1)

-- no template is empty
abbrev pub Filled : List Template → Type 0
Filled ts = All (λ t. 0 < length t.bodies) ts

pub none_so_absent : (i : ℕ) (ts : List Template) → Filled ts → bodies_of i ts ≡ [] → Absent i ts
none_so_absent i [] f = λ _. tt
none_so_absent i (t ∷ ts) f =
    by_case (λ (bs : List Body). bs ≡ [] → Absent i (t ∷ ts)) (eqb i t.id)
    (λ _ e. absurd (filled_not_empty t.bodies f.0 e))
    (λ q e. (eqb-false i t.id q, none_so_absent i ts f.1 e))
  where
    filled_not_empty : (bs : List Body) → 0 < length bs → bs ≡ [] → ⊥
    filled_not_empty bs h e = omega (arith, ap length e)

pub unless_empty_filled : (i : ℕ) (bs : List Body) (ts : List Template) → 0 < length bs
    → unless_empty i bs ts ≡ record { id = i; bodies = bs } ∷ ts
unless_empty_filled i [] ts h = let no : ⊥ = omega arith in absurd no
unless_empty_filled i (b ∷ bs) ts h = refl

-- what holds of the bodies that a test keeps, where it keeps any, holds of each template that is left
pub kept_have : (P : List Body → Type 0) (p : ℕ → Body → Bool)
    → ((t : Template) → 0 < length (keep (p t.id) t.bodies) → P (keep (p t.id) t.bodies))
    → (ts : List Template) → All (λ t. P t.bodies) (kept_of p ts)
kept_have P p f [] = tt
kept_have P p f (t ∷ ts) = unless_empty_lem (keep (p t.id) t.bodies) (f t) (kept_have P p f ts)
  where
    unless_empty_lem : (bs : List Body) → (0 < length bs → P bs) → All (λ u. P u.bodies) (kept_of p ts)
        → All (λ u. P u.bodies) (unless_empty t.id bs (kept_of p ts))
    unless_empty_lem [] g a = a
    unless_empty_lem (b ∷ bs) g a = (g (omega arith), a)

pub kept_filled : (p : ℕ → Body → Bool) (ts : List Template) → Filled (kept_of p ts)
kept_filled p ts = kept_have (λ bs. 0 < length bs) p (λ t h. h) ts

-- one template less where the id is held
pub length_without : (i : ℕ) (ts : List Template) → 0 < length (bodies_of i ts)
    → suc (length (without i ts)) ≡ length ts
length_without i [] h = let no : ⊥ = omega arith in absurd no
length_without i (t ∷ ts) h = by_test (eqb i t.id) (length_without i ts) h
  where
    by_test : (q : Bool) → (0 < length (bodies_of i ts) → suc (length (without i ts)) ≡ length ts)
        → 0 < length (cond q t.bodies (bodies_of i ts))
        → suc (length (cond q ts (t ∷ without i ts))) ≡ suc (length ts)
    by_test true r h = refl
    by_test false r h = ap suc (r h)

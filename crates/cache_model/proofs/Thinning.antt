-- Every removal is a thinning: each template's bodies become some of them by its id, and emptied templates go.
-- Thinnings in a row are one thinning. Assumes nothing.
use mathlib.Core.Path.{◌≡◌, refl, sym, ◌∙◌}
use mathlib.Core.Logic.{◌≢◌}
use mathlib.Core.List.{List, [], ◌∷◌}
use mathlib.Core.Bool.{Bool, true, false, ◌||◌, cond}
use Prim.Native.Nat.{ℕ, zero, suc, ◌-◌, ◌<◌}
use native.Mathlib.Omega.{arith}
use lib.Dec.{eqb}
use lib.ListN.{length, take, drop, length-drop}
use borrow.Author.Tests.{eqb-true, eq-eqb, ne_eqb}
use Rattle.config.proofs.Lists.{All, all_of, all_map}
use Rattle.cache_model.specs.Bodies.{Body, Template, keep, bodies_of, without, unless_empty}
use Rattle.cache_model.specs.Removal.{kept_of, newest_of}
use Rattle.cache_model.proofs.Lists.{all_sub}
use Rattle.cache_model.proofs.Lists.{sub_drop}
use Rattle.cache_model.proofs.Parts.{Absent, Differ, Filled, absent_behind, absent_has_none}
use Rattle.cache_model.proofs.Parts.{unless_empty_filled}

-- each template's bodies become f of its id and them; emptied templates go
unfoldable pub thinned : (ℕ → List Body → List Body) → List Template → List Template
thinned f [] = []
thinned f (t ∷ ts) = unless_empty t.id (f t.id t.bodies) (thinned f ts)

abbrev pub has_id : ℕ → List Template → Bool
has_id j [] = false
has_id j (t ∷ ts) = eqb j t.id || has_id j ts

-- the least recent template's id; 0 where there is none
abbrev pub first_id : List Template → ℕ
first_id [] = 0
first_id (t ∷ ts) = t.id

pub none_either_way : (q : Bool) → ◌≡◌ {A = List Body} (cond q [] []) []
none_either_way true = refl
none_either_way false = refl

-- ---- which bodies a thinning leaves

module _ (f g : ℕ → List Body → List Body) where
  pub thinned_same : (ts : List Template) → All (λ t. f t.id t.bodies ≡ g t.id t.bodies) ts
      → thinned f ts ≡ thinned g ts
  unfolding thinned
  thinned_same [] a = refl
  thinned_same (t ∷ ts) a = rw (a.0, thinned_same ts a.1)

  -- where the two agree everywhere
  pub thinned_alike : ((j : ℕ) (bs : List Body) → f j bs ≡ g j bs) → (ts : List Template)
      → thinned f ts ≡ thinned g ts
  thinned_alike e ts =
      thinned_same ts (all_of (λ t. f t.id t.bodies ≡ g t.id t.bodies) ts (λ t. e t.id t.bodies))

  pub thinned_twice : ((j : ℕ) → g j [] ≡ []) → (ts : List Template)
      → thinned g (thinned f ts) ≡ thinned (λ j bs. g j (f j bs)) ts
  unfolding thinned
  thinned_twice e [] = refl
  thinned_twice e (t ∷ ts) = by_list (f t.id t.bodies) (thinned_twice e ts)
    where
      by_list : (bs : List Body) → thinned g (thinned f ts) ≡ thinned (λ j bs. g j (f j bs)) ts
          → thinned g (unless_empty t.id bs (thinned f ts))
          ≡ unless_empty t.id (g t.id bs) (thinned (λ j bs. g j (f j bs)) ts)
      by_list [] r = rw (e t.id) r
      by_list (b ∷ bs) r = rw r

module _ (f : ℕ → List Body → List Body) where
  pub thinned_all : (ts : List Template) → Filled ts → All (λ t. f t.id t.bodies ≡ t.bodies) ts
      → thinned f ts ≡ ts
  unfolding thinned
  thinned_all [] h a = refl
  thinned_all (t ∷ ts) h a =
      rw (a.0, thinned_all ts h.1 a.1) (unless_empty_filled t.id t.bodies ts h.0)

  pub thinned_filled : (ts : List Template) → Filled (thinned f ts)
  unfolding thinned
  thinned_filled [] = tt
  thinned_filled (t ∷ ts) = in_front (f t.id t.bodies) (thinned_filled ts)
    where
      in_front : (bs : List Body) → Filled (thinned f ts) → Filled (unless_empty t.id bs (thinned f ts))
      in_front [] h = h
      in_front (b ∷ bs) h = (omega arith, h)

  pub thinned_absent : (i : ℕ) (ts : List Template) → Absent i ts → Absent i (thinned f ts)
  unfolding thinned
  thinned_absent i [] a = tt
  thinned_absent i (t ∷ ts) a = in_front (f t.id t.bodies) (thinned_absent i ts a.1)
    where
      in_front : (bs : List Body) → Absent i (thinned f ts) → Absent i (unless_empty t.id bs (thinned f ts))
      in_front [] r = r
      in_front (b ∷ bs) r = (a.0, r)

  pub thinned_differ : (ts : List Template) → Differ ts → Differ (thinned f ts)
  unfolding thinned
  thinned_differ [] d = tt
  thinned_differ (t ∷ ts) d = in_front (f t.id t.bodies) (thinned_differ ts d.1)
    where
      in_front : (bs : List Body) → Differ (thinned f ts) → Differ (unless_empty t.id bs (thinned f ts))
      in_front [] r = r
      in_front (b ∷ bs) r = (thinned_absent t.id ts d.0, r)

  pub bodies_thinned : (i : ℕ) (ts : List Template) → Differ ts → f i [] ≡ []
      → bodies_of i (thinned f ts) ≡ f i (bodies_of i ts)
  unfolding thinned
  bodies_thinned i [] d e = sym e
  bodies_thinned i (t ∷ ts) d e =
      by_test (eqb i t.id) (f t.id t.bodies) refl refl (bodies_thinned i ts d.1 e)
    where
      by_test : (q : Bool) (bs : List Body) → eqb i t.id ≡ q → f t.id t.bodies ≡ bs
          → bodies_of i (thinned f ts) ≡ f i (bodies_of i ts)
          → bodies_of i (unless_empty t.id bs (thinned f ts)) ≡ f i (cond q t.bodies (bodies_of i ts))
      by_test true [] same left r =
          absent_has_none i (thinned f ts) (thinned_absent i ts (absent_behind i t ts same d))
          ∙ sym (rw (eqb-true i t.id same) left)
      by_test true (b ∷ bs) same left r = rw (same, eqb-true i t.id same) (sym left)
      by_test false [] other left r = r
      by_test false (b ∷ bs) other left r = rw other r

-- ---- the removals

pub kept_thinned : (p : ℕ → Body → Bool) (ts : List Template) → kept_of p ts ≡ thinned (λ j bs. keep (p j) bs) ts
unfolding thinned
kept_thinned p [] = refl
kept_thinned p (t ∷ ts) = rw (kept_thinned p ts)

pub newest_thinned : (n : ℕ) → 0 < n → (ts : List Template) → Filled ts
    → newest_of n ts ≡ thinned (λ j bs. drop (length bs - n) bs) ts
unfolding thinned
newest_thinned n some [] h = refl
newest_thinned n some (t ∷ ts) h =
    let newest = drop (length t.bodies - n) t.bodies in
    rw (newest_thinned n some ts h.1)
    (sym (unless_empty_filled t.id newest (thinned (λ j bs. drop (length bs - n) bs) ts)
    (omega (arith, h.0, length-drop (length t.bodies - n) t.bodies))))

-- a test for an absent id fails at every template
absent_false : (i : ℕ) (f : Bool → ℕ → List Body → List Body) (ts : List Template) → Absent i ts
    → thinned (λ j bs. f (eqb j i) j bs) ts ≡ thinned (f false) ts
absent_false i f ts a =
    thinned_same (λ j bs. f (eqb j i) j bs) (f false) ts
    (all_map (λ (t : Template). i ≢ t.id) (λ t. f (eqb t.id i) t.id t.bodies ≡ f false t.id t.bodies)
    (λ t n. rw (ne_eqb t.id i (λ e. n (sym e)))) ts a)

-- a thinning of what evictions leave
pub thinned_evicted : (f : ℕ → List Body → List Body) (n : ℕ) (ts : List Template) → Differ ts
    → thinned f (drop n ts) ≡ thinned (λ j bs. cond (has_id j (take n ts)) [] (f j bs)) ts
unfolding thinned
thinned_evicted f zero ts d = refl
thinned_evicted f (suc n) [] d = refl
thinned_evicted f (suc n) (t ∷ ts) d =
    let left : Bool → ℕ → List Body → List Body = λ q j bs. cond (q || has_id j (take n ts)) [] (f j bs) in
    rw (eq-eqb t.id t.id refl) (thinned_evicted f n ts d.1 ∙ sym (absent_false t.id left ts d.0))

pub evicted_thinned : (n : ℕ) (ts : List Template) → Differ ts → Filled ts
    → drop n ts ≡ thinned (λ j bs. cond (has_id j (take n ts)) [] bs) ts
evicted_thinned n ts d h =
    let left = drop n ts in
    sym (thinned_all (λ j bs. bs) left (all_sub (λ t. 0 < length t.bodies) (sub_drop n ts) h)
    (all_of (λ t. t.bodies ≡ t.bodies) left (λ t. refl)))
    ∙ thinned_evicted (λ j bs. bs) n ts d

pub without_thinned : (i : ℕ) (ts : List Template) → Differ ts → Filled ts
    → without i ts ≡ thinned (λ j bs. cond (eqb i j) [] bs) ts
unfolding thinned
without_thinned i [] d h = refl
without_thinned i (t ∷ ts) d h = by_test (eqb i t.id) refl (without_thinned i ts d.1 h.1)
  where
    other : ℕ → List Body → List Body
    other j bs = cond (eqb i j) [] bs

    by_test : (q : Bool) → eqb i t.id ≡ q → without i ts ≡ thinned other ts
        → cond q ts (t ∷ without i ts) ≡ unless_empty t.id (cond q [] t.bodies) (thinned other ts)
    by_test true e r =
        sym (thinned_all other ts h.1
        (all_map (λ (u : Template). i ≢ u.id) (λ u. other u.id u.bodies ≡ u.bodies)
        (λ u n. rw (ne_eqb i u.id n)) ts (absent_behind i t ts e d)))
    by_test false e r = rw r (sym (unless_empty_filled t.id t.bodies (thinned other ts) h.0))

-- what a thinning leaves of the other ids
pub without_of_thinned : (i : ℕ) (f : ℕ → List Body → List Body) (ts : List Template) → Differ ts
    → without i (thinned f ts) ≡ thinned (λ j bs. cond (eqb i j) [] (f j bs)) ts
without_of_thinned i f ts d =
    without_thinned i (thinned f ts) (thinned_differ f ts d) (thinned_filled f ts)
    ∙ thinned_twice f (λ j bs. cond (eqb i j) [] bs) (λ j. none_either_way (eqb i j)) ts

-- the least recent of the templates that a thinning leaves goes too
pub first_thinned : (f : ℕ → List Body → List Body) (ts : List Template) → Differ ts
    → drop 1 (thinned f ts) ≡ thinned (λ j bs. cond (eqb j (first_id (thinned f ts))) [] (f j bs)) ts
unfolding thinned
first_thinned f [] d = refl
first_thinned f (t ∷ ts) d = by_list (f t.id t.bodies) refl (first_thinned f ts d.1)
  where
    later : ℕ → ℕ → List Body → List Body
    later k j bs = cond (eqb j k) [] (f j bs)

    by_list : (bs : List Body) → f t.id t.bodies ≡ bs
        → drop 1 (thinned f ts) ≡ thinned (later (first_id (thinned f ts))) ts
        → let us = unless_empty t.id bs (thinned f ts) in
        drop 1 us ≡ unless_empty t.id (later (first_id us) t.id t.bodies) (thinned (later (first_id us)) ts)
    by_list [] e r = rw (e, none_either_way (eqb t.id (first_id (thinned f ts)))) r
    by_list (b ∷ bs) e r =
        rw (eq-eqb t.id t.id refl) (sym (absent_false t.id (λ q j bs. cond q [] (f j bs)) ts d.0))

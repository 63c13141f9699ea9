-- What step 3's pruning, and evictions before it, leave of an id's bodies; and where pruning removes nothing.
-- Assumes nothing.
use mathlib.Core.Path.{◌≡◌, refl, ap, ◌∙◌}
use mathlib.Core.List.{List, [], ◌∷◌}
use mathlib.Core.Bool.{Bool, true, false, not, ◌&&◌, cond}
use Prim.Native.Nat.{ℕ, zero, suc, ◌≤◌}
use native.Mathlib.Omega.{arith}
use lib.Dec.{eqb}
use lib.ListN.{length, drop}
use Rattle.config.proofs.Lists.{All, all_of}
use Rattle.cache_model.specs.Bodies.{Body, Template, keep, bodies_of, unless_empty}
use Rattle.cache_model.specs.Removal.{kept_of, failed_of}
use Rattle.cache_model.proofs.Lists.{part_map, length_part, sub_drop}
use Rattle.cache_model.proofs.Parts.{fewer_equal, sub_keep, kept_part, Differ, absent_part, absent_behind}
use Rattle.cache_model.proofs.Parts.{absent_has_none, Filled, unless_empty_filled}

of_kept : (i j : ℕ) (bs : List Body) (ts : List Template) → eqb i j ≡ true → bodies_of i ts ≡ []
    → bodies_of i (unless_empty j bs ts) ≡ bs
of_kept i j [] ts e none = none
of_kept i j (b ∷ bs) ts e none = rw e

of_other : (i j : ℕ) (bs : List Body) (ts : List Template) → eqb i j ≡ false
    → bodies_of i (unless_empty j bs ts) ≡ bodies_of i ts
of_other i j [] ts e = refl
of_other i j (b ∷ bs) ts e = rw e

-- where all bodies pass, all stay
module _ (p : Body → Bool) where
  pub keep_all : (bs : List Body) → All (λ b. p b ≡ true) bs → keep p bs ≡ bs
  keep_all [] a = refl
  keep_all (b ∷ bs) a = rw (a.0, keep_all bs a.1)

  keep_none : (bs : List Body) → All (λ b. p b ≡ true) bs → keep (λ b. not (p b)) bs ≡ []
  keep_none [] a = refl
  keep_none (b ∷ bs) a = rw (a.0, keep_none bs a.1)

  -- as many as there are
  pub all_kept : (bs : List Body) → length bs ≤ length (keep p bs) → All (λ b. p b ≡ true) bs
  all_kept [] h = tt
  all_kept (b ∷ bs) h = by_test (p b) refl (all_kept bs) h
    where
      by_test : (q : Bool) → p b ≡ q → (length bs ≤ length (keep p bs) → All (λ x. p x ≡ true) bs)
          → suc (length bs) ≤ length (cond q (b ∷ keep p bs) (keep p bs)) → All (λ x. p x ≡ true) (b ∷ bs)
      by_test true e r h = (e, r (omega arith))
      by_test false e r h = let no : ⊥ = omega (arith, length_part (sub_keep p bs)) in absurd no

keep_templates : (p : ℕ → Body → Bool) (ts : List Template) → Filled ts
    → All (λ t. All (λ b. p t.id b ≡ true) t.bodies) ts → (kept_of p ts ≡ ts) × (failed_of p ts ≡ [])
keep_templates p [] f a = (refl, refl)
keep_templates p (t ∷ ts) f a =
    let rest = keep_templates p ts f.1 a.1 in
    let bs = keep_all (p t.id) t.bodies a.0 in (
      rw (bs, rest.0) (unless_empty_filled t.id t.bodies ts f.0),
      rw (keep_none (p t.id) t.bodies a.0, rest.1),
    )

module _ (i : ℕ) (old : Body → Bool) where
  -- step 3 prunes by this test
  abbrev pub stays : ℕ → Body → Bool
  stays j x = not (eqb i j && old x)

  abbrev pub live : Body → Bool
  live x = not (old x)

  pub of_pruned : (ts : List Template) → Differ ts → bodies_of i (kept_of stays ts) ≡ keep live (bodies_of i ts)
  of_pruned [] d = refl
  of_pruned (t ∷ ts) d = by_test (eqb i t.id) refl (of_pruned ts d.1)
    where
      kept : List Body
      kept = keep (stays t.id) t.bodies

      by_test : (q : Bool) → eqb i t.id ≡ q → bodies_of i (kept_of stays ts) ≡ keep live (bodies_of i ts)
          → bodies_of i (unless_empty t.id kept (kept_of stays ts)) ≡ keep live (cond q t.bodies (bodies_of i ts))
      by_test true e r =
          of_kept i t.id kept (kept_of stays ts) e
          (absent_has_none i (kept_of stays ts) (absent_part i (kept_part stays ts) (absent_behind i t ts e d)))
          ∙ ap (λ (z : Bool). keep (λ x. not (z && old x)) t.bodies) e
      by_test false e r = of_other i t.id kept (kept_of stays ts) e ∙ r

  all_stay : (ts : List Template) → Differ ts → All (λ x. live x ≡ true) (bodies_of i ts)
      → All (λ t. All (λ x. stays t.id x ≡ true) t.bodies) ts
  all_stay [] d a = tt
  all_stay (t ∷ ts) d a = by_test (eqb i t.id) refl (all_stay ts d.1) a
    where
      AllLive : List Body → Type 0
      AllLive bs = All (λ x. live x ≡ true) bs

      AllStay : List Template → Type 0
      AllStay ts = All (λ u. All (λ x. stays u.id x ≡ true) u.bodies) ts

      by_test : (q : Bool) → eqb i t.id ≡ q → (AllLive (bodies_of i ts) → AllStay ts)
          → AllLive (cond q t.bodies (bodies_of i ts)) → AllStay (t ∷ ts)
      by_test true e r a = (rw e a, r (rw (absent_has_none i ts (absent_behind i t ts e d)) tt))
      by_test false e r a = (rw e (all_of (λ x. true ≡ true) t.bodies (λ _. refl)), r a)

  -- where none of an id's bodies is expired, nothing is pruned
  pub none_pruned : (ts : List Template) → Differ ts → Filled ts → All (λ x. live x ≡ true) (bodies_of i ts)
      → (kept_of stays ts ≡ ts) × (failed_of stays ts ≡ [])
  none_pruned ts d f a = keep_templates stays ts f (all_stay ts d a)

-- evictions leave all of an id's bodies, or none
pub of_evicted : (i n : ℕ) (p : Body → Bool) (ts : List Template) → Differ ts
    → length (keep p (bodies_of i (drop n ts))) ≤ length (keep p (bodies_of i ts))
of_evicted i zero p ts d = omega arith
of_evicted i (suc n) p [] d = omega arith
of_evicted i (suc n) p (t ∷ ts) d = by_test (eqb i t.id) refl (of_evicted i n p ts d.1)
  where
    left : List Body
    left = keep p (bodies_of i (drop n ts))

    by_test : (q : Bool) → eqb i t.id ≡ q → length left ≤ length (keep p (bodies_of i ts))
        → length left ≤ length (keep p (cond q t.bodies (bodies_of i ts)))
    by_test true e r =
        let less = part_map fewer_equal (sub_drop n ts) in
        rw (absent_has_none i (drop n ts) (absent_part i less (absent_behind i t ts e d))) (omega arith)
    by_test false e r = r

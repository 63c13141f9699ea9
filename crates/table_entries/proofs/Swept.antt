-- What the sweep keeps: entries of the list, in their order, and of each label all that stay but those to skip.
-- Assumes nothing.
use Rattle.std.proofs.Common.{◌≡◌, ℕ, suc, ◌+◌, ◌<◌, ◌≤◌, true, false, ltb, List, [], ◌∷◌, length, get_or, refl, ap, arith, ltb-false, ltb-true}
use Rattle.config.proofs.Tests.{by_case}
use Rattle.config.proofs.Lists.{All}
use Rattle.table.specs.declared.Entry.{Entry}
use Rattle.table.specs.Passes.{less_at}
use Rattle.table.proofs.Facts.{Placed}
use Rattle.table_entries.specs.declared.StayTest.{StayTest}
use Rattle.table_entries.specs.Stays.{stays}
use Rattle.table_entries.specs.Sweep.{swept}
use Rattle.table_entries.proofs.Lengths.{placed_lower}

-- what holds of the sweep of a first entry and others: it goes, is skipped, or is kept
swept_cases : (P : List Entry → Type 0) (q : StayTest) (skip : List ℕ) (e : Entry) (es : List Entry) →
    (stays q e ≡ false → P (swept q skip es)) →
    (stays q e ≡ true → 0 < get_or skip e.label 0 → P (swept q (less_at skip e.label) es)) →
    (stays q e ≡ true → get_or skip e.label 0 ≡ 0 → P (e ∷ swept q skip es)) → P (swept q skip (e ∷ es))
unfolding swept
swept_cases P q skip e es goes skipped kept =
    by_case P (stays q e)
    (λ s. by_case P (ltb 0 (get_or skip e.label 0)) (λ t. skipped s (ltb-true 0 (get_or skip e.label 0) t))
    (λ t. let z = ltb-false 0 (get_or skip e.label 0) t in kept s (omega arith)))
    goes

pub length_swept : (q : StayTest) (skip : List ℕ) (es : List Entry) → length (swept q skip es) ≤ length es
unfolding swept
length_swept q skip [] = omega arith
length_swept q skip (e ∷ es) =
    swept_cases (λ l. length l ≤ suc (length es)) q skip e es (λ _. omega (arith, length_swept q skip es))
    (λ _ _. omega (arith, length_swept q (less_at skip e.label) es)) (λ _ _. omega (arith, length_swept q skip es))

pub all_swept : (P : Entry → Type 0) (q : StayTest) (skip : List ℕ) (es : List Entry) → All P es →
    All P (swept q skip es)
unfolding swept
all_swept P q skip [] a = tt
all_swept P q skip (e ∷ es) a =
    swept_cases (λ l. All P l) q skip e es (λ _. all_swept P q skip es a.1)
    (λ _ _. all_swept P q (less_at skip e.label) es a.1) (λ _ _. (a.0, all_swept P q skip es a.1))

pub placed_swept : (q : StayTest) (skip : List ℕ) (from most : ℕ) (es : List Entry) → Placed from most es →
    Placed from most (swept q skip es)
unfolding swept
placed_swept q skip from most [] p = tt
placed_swept q skip from most (e ∷ es) p =
    let end = e.place + e.len in
    let lower : (l : List Entry) → Placed end most l → Placed from most l =
    λ l. placed_lower from end most l (omega (arith, p.0)) in
    swept_cases (λ l. Placed from most l) q skip e es
    (λ _. lower (swept q skip es) (placed_swept q skip end most es p.2))
    (λ _ _. lower (swept q (less_at skip e.label) es) (placed_swept q (less_at skip e.label) end most es p.2))
    (λ _ _. (p.0, p.1, placed_swept q skip end most es p.2))

-- two tests that agree on the entries keep the same
pub swept_alike : (q q' : StayTest) (skip : List ℕ) (es : List Entry) → All (λ e. stays q e ≡ stays q' e) es →
    swept q skip es ≡ swept q' skip es
unfolding swept
swept_alike q q' skip [] same = refl
swept_alike q q' skip (e ∷ es) same =
    rw (same.0, swept_alike q q' (less_at skip e.label) es same.1, swept_alike q q' skip es same.1)

-- where each stays and none is to be skipped, all are kept
pub swept_all : (q : StayTest) (skip : List ℕ) (es : List Entry) → All (λ e. stays q e ≡ true) es →
    All (λ e. get_or skip e.label 0 ≡ 0) es → swept q skip es ≡ es
unfolding swept
swept_all q skip [] s n = refl
swept_all q skip (e ∷ es) s n = rw (s.0, n.0) (ap (λ (l : List Entry). e ∷ l) (swept_all q skip es s.1 n.1))

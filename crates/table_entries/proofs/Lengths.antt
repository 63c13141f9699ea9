-- The lengths of entries, and how far their bodies reach. Assumes nothing.
use Rattle.std.proofs.Common.{◌≡◌, ℕ, suc, ◌+◌, ◌≤◌, true, false, ◌&&◌, eqb, List, [], ◌∷◌, ◌++◌, length, arith}
use Rattle.config.proofs.Tests.{by_case}
use Rattle.table.specs.declared.Entry.{Entry}
use Rattle.table.proofs.Facts.{Placed}
use Rattle.table_entries.specs.declared.StayTest.{StayTest}
use Rattle.table_entries.specs.Stays.{stays}
use Rattle.table_entries.specs.Sums.{lens_sum, label_sum}
use Rattle.table_entries.specs.Pack.{last_end}

-- of entries and one more
pub lens_more : (es : List Entry) (e : Entry) → lens_sum (es ++ (e ∷ [])) ≡ lens_sum es + e.len
unfolding lens_sum
lens_more [] e = omega arith
lens_more (x ∷ es) e = omega (arith, lens_more es e)

-- no label has more bodies than there are entries, nor more bytes than there is room
pub label_count_most : (q : StayTest) (k : ℕ) (es : List Entry) → label_sum q false k es ≤ length es
unfolding label_sum
label_count_most q k [] = omega arith
label_count_most q k (e ∷ es) =
    by_case (λ (n : ℕ). n + label_sum q false k es ≤ suc (length es)) (stays q e && eqb k e.label)
    (λ _. omega (arith, label_count_most q k es)) (λ _. omega (arith, label_count_most q k es))

label_bytes_within : (q : StayTest) (k : ℕ) (es : List Entry) → label_sum q true k es ≤ lens_sum es
unfolding label_sum lens_sum
label_bytes_within q k [] = omega arith
label_bytes_within q k (e ∷ es) =
    by_case (λ (n : ℕ). n + label_sum q true k es ≤ e.len + lens_sum es) (stays q e && eqb k e.label)
    (λ _. omega (arith, label_bytes_within q k es)) (λ _. omega (arith, label_bytes_within q k es))

-- bodies that begin above one place begin above a lower one
pub placed_lower : (from from' most : ℕ) (es : List Entry) → from ≤ from' → Placed from' most es → Placed from most es
placed_lower from from' most [] h p = tt
placed_lower from from' most (e ∷ es) h p = (omega (arith, p.0), p.1, p.2)

-- and bodies that end within one room end within a larger one
pub placed_wider : (from most most' : ℕ) (es : List Entry) → most ≤ most' → Placed from most es → Placed from most' es
placed_wider from most most' [] h p = tt
placed_wider from most most' (e ∷ es) h p =
    (p.0, omega (arith, p.1), placed_wider (e.place + e.len) most most' es h p.2)

-- bodies that do not overlap are no longer than their room
pub lens_within : (from most : ℕ) (es : List Entry) → from ≤ most → Placed from most es → from + lens_sum es ≤ most
unfolding lens_sum
lens_within from most [] h p = omega arith
lens_within from most (e ∷ es) h p = omega (arith, p.0, lens_within (e.place + e.len) most es p.1 p.2)

pub label_bytes_most : (q : StayTest) (k from most : ℕ) (es : List Entry) → from ≤ most → Placed from most es →
    from + label_sum q true k es ≤ most
label_bytes_most q k from most es h p = omega (arith, label_bytes_within q k es, lens_within from most es h p)

pub first_end_within : (from most : ℕ) (e : Entry) (es : List Entry) → Placed from most (e ∷ es) →
    e.place + e.len ≤ last_end (e ∷ es)
unfolding last_end
first_end_within from most e [] p = omega arith
first_end_within from most e (x ∷ es) p =
    omega (arith, p.2.0, first_end_within (e.place + e.len) most x es p.2)

-- bodies within some bytes end there
pub last_within : (from most : ℕ) (es : List Entry) → Placed from most es → last_end es ≤ most
unfolding last_end
last_within from most [] p = omega arith
last_within from most (e ∷ []) p = p.1
last_within from most (e ∷ x ∷ es) p = last_within (e.place + e.len) most (x ∷ es) p.2

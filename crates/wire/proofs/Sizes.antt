-- The least size of a record, a sum over its fields. Assumes nothing.
use Rattle.std.proofs.Common.{◌≡◌, refl, ap, ◌∙◌, List, [], ◌∷◌, ℕ, ◌+◌, ◌<◌, length, sum_by, arith}
use Rattle.std.proofs.lemmas.List.Sums.{sum_by-cons}
use Rattle.wire.specs.declared.Reading.{Reading}
use Rattle.wire.specs.Size.{least_field_size, least_size}

-- a least size above 0 has a width
pub some_width : (ws : List ℕ) (r : Reading) → 0 < least_size ws r → 0 < length ws
unfolding least_size
some_width [] r h = absurd (omega arith)
some_width (w ∷ ws) r h = omega arith

-- the least size is the sum over the fields
pub least_sum : (ws : List ℕ) (r : Reading) → sum_by (λ w. least_field_size w r) ws ≡ least_size ws r
unfolding least_size
least_sum [] r = refl
least_sum (w ∷ ws) r =
    let f : ℕ → ℕ = λ v. least_field_size v r in
    sum_by-cons f w ws ∙ ap (λ (n : ℕ). f w + n) (least_sum ws r)

-- The bodies that `pendlist` offers (document 01, "Cases").
use Rattle.std.specs.Prelude.{List, [], ◌∷◌, ℕ, zero, suc, ◌%◌}

-- n bytes, the first of them byte i of a body: "byte i of a body is i modulo 256"
unfoldable pub ramp : ℕ → ℕ → List ℕ
ramp i zero = []
ramp i (suc n) = i % 256 ∷ ramp (suc i) n

-- Texts as bytes, for the lines that tests name.
use Rattle.std.specs.Prelude.{List, [], ◌∷◌, ℕ}
use Prim.Native.Char.{code}
use Prim.Native.String.{String, [] as []ˢ, ◌∷◌ as ◌∷ˢ◌}

-- a text of ASCII characters as bytes
abbrev pub bytes_of : String → List ℕ
bytes_of []ˢ = []
bytes_of (c ∷ˢ s) = code c ∷ bytes_of s

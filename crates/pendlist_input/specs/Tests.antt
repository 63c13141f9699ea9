-- First lines and bodies. Proved by computation.
use Rattle.std.specs.Prelude.{◌≡◌, refl, [], ◌∷◌, map}
use Rattle.pendlist_words.specs.Texts.{bytes_of}
use Rattle.pendlist_input.specs.Input.{first_line}
use Rattle.pendlist_input.specs.Body.{ramp}

-- the first line of a text: no newline, one behind it, one in front, a carriage return left in it
pub first_lines :
    map (λ s. first_line (bytes_of s)) ("" ∷ "d 1" ∷ "d 1\n" ∷ "d 1\nd 2\n" ∷ "\nd 1" ∷ "d\r\n" ∷ [])
    ≡ map bytes_of ("" ∷ "d 1" ∷ "d 1" ∷ "d 1" ∷ "" ∷ "d\r" ∷ [])
unfolding first_line
first_lines = refl

-- byte i of a body is i modulo 256
pub bodies_right : (ramp 0 4 ≡ 0 ∷ 1 ∷ 2 ∷ 3 ∷ []) × (ramp 254 4 ≡ 254 ∷ 255 ∷ 0 ∷ 1 ∷ [])
unfolding ramp
bodies_right = (refl, refl)

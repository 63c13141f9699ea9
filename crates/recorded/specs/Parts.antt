-- A text that is run part by part.
use Rattle.std.specs.Prelude.{Option, List, ◌++◌, ℕ}
use Rattle.std.specs.Io.KnownBytes.{Consumes}
use Rattle.std.specs.List.{FoldsTo, concat}
use Rattle.std.specs.Fn.{Mut, CalledAt}
use Rattle.std.specs.Borrow.{Bor}

-- of what was taken of a text, the parts were run one behind the other, and nothing before them or between them was
-- left out
abbrev pub RunsOnParts : {F : Type 0} → Mut F (Bor (List ℕ) × Unit {0}) (Unit {0}) → F → Option (List ℕ) → Option (List ℕ) → Type 0
RunsOnParts {F} calls run before after =
    (parts : List (List ℕ)) × (last : F) × (left : List ℕ)
    × FoldsTo (λ p part q. CalledAt calls p part tt q) run parts last
    × Consumes before after (concat parts ++ left)

-- When two answers are the same.
use Rattle.std.specs.Prelude.{Bool, ◌&&◌, eqb}
use Rattle.output_preflight.specs.declared.Figures.{Figures}

unfoldable pub same_figures : Figures → Figures → Bool
same_figures a b =
    eqb a.number b.number && (eqb a.values b.values && (eqb a.payload b.payload && eqb
    a.remainder b.remainder))

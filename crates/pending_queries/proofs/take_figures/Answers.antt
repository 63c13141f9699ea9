use Rattle.pending_queries.proofs.Answers.{asks}
use Rattle.pending_queries.proofs.Figures.{figures_told}
use Rattle.pending_queries.proofs.take_figures.Goals as goal

pub returns : goal.returns
returns c = asks (figures_told _ _ _ c.in_ok-header.ensures c.figures_of.ensures)

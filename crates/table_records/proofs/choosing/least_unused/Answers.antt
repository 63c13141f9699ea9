use mathlib.Core.Path.{sym, ◌∙◌}
use Rattle.table_records.proofs.FreeLabels.{one_free, free_found}
use Rattle.table_records.proofs.choosing.least_unused.Goals as goal

pub unreachable-requires : goal.unreachable-requires
unreachable-requires c =
    one_free c.args.records.now _ _ c.requires c.skip_records.ensures (sym c.first_free.ensures ∙ c.in_default.is)

pub returns : goal.returns
returns c = free_found c.args.records.now _ _ c.requires c.skip_records.ensures _ (sym c.first_free.ensures ∙ c.in-Some.is)

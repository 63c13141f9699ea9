use Rattle.std.proofs.Common.{false, rules}
use Rattle.resize_steps.specs.Cut.{small_enough}
use Rattle.resize_steps.proofs.Steps.{cut_skips_lem}
use Rattle.resize_steps.proofs.cutting.skip_cut.Goals as goal

pub returns : goal.returns
returns c = cut_skips_lem _ _ _ _ _
    (c.sums_by_label.ensures (small_enough c.args.config) false (λ e n short told. search rules)) c.skip_over.ensures
    c.saturating_sub-beyond.ensures c.skip_records.ensures c.skip_records-2.ensures

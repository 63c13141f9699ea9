use Rattle.std.proofs.Common.{true, rules}
use Rattle.table_entries.proofs.Shares.{lengths_told}
use Rattle.pending_calls.specs.Removal.{everything}
use Rattle.resize_steps.proofs.Steps.{evicted_within, total_skips_lem}
use Rattle.resize_steps.proofs.fitting.skip_total.Goals as goal

pub slice_bounds-skip_records-end : goal.slice_bounds-skip_records-end
slice_bounds-skip_records-end c = search (evicted_within, rules)

pub returns : goal.returns
returns c = total_skips_lem _ _ _ _ c.evictions_of-evicted.ensures _ _
    (c.sums_by_label.ensures everything true (lengths_told 0 _ (λ e n told. search rules)))
    c.requires c.skip_records.ensures

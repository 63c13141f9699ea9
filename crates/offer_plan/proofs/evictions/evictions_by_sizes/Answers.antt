use Rattle.std.proofs.Common.{None, true, rules}
use Rattle.table_entries.proofs.Shares.{lengths_told}
use Rattle.offer_plan.specs.Plan.{live_test}
use Rattle.offer_plan.proofs.evictions.evictions_by_sizes.Goals as goal

-- with no time to live none is expired
pub returns : goal.returns
returns c = rw (← c.sums_by_label.ensures (live_test None 0) true (lengths_told 0 None (λ e n told. search rules)))
    c.evictions_of.ensures

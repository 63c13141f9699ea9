use Rattle.std.proofs.Common.{false, ◌∙◌, rules}
use Rattle.table_entries.proofs.Shares.{ones_told}
use Rattle.pending_calls.specs.Removal.{everything}
use Rattle.pending_calls.proofs.Removals.{removal_done, swept_counted}
use Rattle.pending_calls.proofs.removal.remove.Goals as goal

pub returns : goal.returns
returns c = removal_done _ _ _ _ _ _ _ _ _ _ _ _ (c.requires.entries_below, c.requires.records_within) c.sweep-left.ensures
    (swept_counted c.sweep-left.ensures
    (rw c.entries_in-stayed.ensures.entries at
    (c.sums_by_label.ensures everything false (ones_told 0 _ (λ e n told. search rules)))))
    c.close_apart.ensures (c.close_apart.auto.words ∙ c.sweep-left.auto.words)

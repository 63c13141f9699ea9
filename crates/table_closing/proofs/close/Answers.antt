use borrow.Author.Rules.{rules}
use Rattle.table_records.proofs.Closes.{prefix_long, passes_close}
use Rattle.table_closing.proofs.close.Goals as goal

pub slice_bounds-noted-end : goal.slice_bounds-noted-end
slice_bounds-noted-end c = search (prefix_long, rules)

pub returns : goal.returns
returns c =
    passes_close _ _ _ _ _ _ _ _ c.close_records-remain.ensures
    (c.close_index.ensures _ (λ i n few told. search rules))

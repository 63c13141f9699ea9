use Rattle.table_promotion.proofs.TakenLabels.{none_taken, one_taken}
use Rattle.table_promotion.proofs.taking.take_record.Goals as goal

pub returns-in_default : goal.returns-in_default
returns-in_default c =
    none_taken _ _ _ _ _ c.records_in-known.ensures.templates c.place_of.ensures c.in_default.is

pub returns : goal.returns
returns c =
    one_taken _ _ _ _ _ c.records_in-known.ensures.templates c.place_of.ensures c.in-Some.is c.take_off-bodies.ensures

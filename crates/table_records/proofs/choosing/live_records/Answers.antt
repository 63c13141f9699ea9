use Rattle.std.proofs.Common.{rules, tests, ltb, get_or}
use Rattle.std.proofs.lemmas.Iterator.{YieldsList-from_slice, YieldsList-from_map}
use Rattle.std.proofs.lemmas.Iterator.Consumers.{YieldsList-at, YieldsList-from_filter, count_from_yields_List}
use Rattle.table.specs.Parts.{template_of, templates_of}
use Rattle.table_records.proofs.Chosen.{live_counted}
use Rattle.table_records.proofs.choosing.live_records.Goals as goal

pub returns : goal.returns
returns c =
    live_counted c.args.live.now (templates_of c.args.records.now) _
    (count_from_yields_List _ _ c.count.ensures.ran
    (YieldsList-from_filter _ (λ r. ltb 0 (get_or c.args.live.now r.label 0))
    (YieldsList-at c.filter.ensures.source
    (YieldsList-from_map _ template_of (YieldsList-from_slice c.args.records.now cc) c.map.ensures.closure
    (λ x r q k. search rules))) c.filter.ensures.closure (λ x b q k. search (rules, tests))))

use Rattle.std.proofs.Common.{rules, tests, ltb, get_or, sym, ap, ◌∙◌}
use Rattle.std.specs.List.{find}
use Rattle.std.proofs.lemmas.Iterator.{YieldsList-from_slice, YieldsList-from_map}
use Rattle.std.proofs.lemmas.Iterator.Adapters.{option_map_id}
use Rattle.std.proofs.lemmas.Iterator.Search.{find_from_yields_List}
use Rattle.std.proofs.lemmas.Simd.{map-map}
use Rattle.table.specs.declared.TemplateRecord.{TemplateRecord}
use Rattle.table.specs.Parts.{template_of}
use Rattle.table_records.proofs.choosing.first_live.Goals as goal

pub returns : goal.returns
returns c =
    sym (option_map_id c.find.result)
    ∙ find_from_yields_List (λ label. ltb 0 (get_or c.args.live.now label 0)) _ _ _ c.find.ensures.ran
    (YieldsList-from_map _ (λ words. (template_of words).label) (YieldsList-from_slice c.args.records.now cc)
    c.map.ensures.closure (λ x r q k. search rules)) (λ x b q k. search (rules, tests))
    ∙ ap (find (λ label. ltb 0 (get_or c.args.live.now label 0)))
    (sym (map-map (λ (r : TemplateRecord). r.label) template_of c.args.records.now))

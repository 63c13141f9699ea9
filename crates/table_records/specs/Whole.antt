-- How many bodies of each record stay, where all of its bodies are skipped or none.
use Rattle.std.specs.Prelude.{cond, List, ℕ, eqb, get_or}
use Rattle.table.specs.declared.TemplateRecord.{TemplateRecord}
use Rattle.table_records.specs.Choose.{set_each}
use Rattle.table_records.specs.Take.{capped_count}

-- what the record counts, or none
abbrev pub whole_count : ℕ → ℕ → ℕ
whole_count skipped count = cond (eqb skipped 0) (capped_count count) 0

abbrev pub whole_counts : List ℕ → List ℕ → List TemplateRecord → List ℕ
whole_counts skip kept rs = set_each (λ r. whole_count (get_or skip r.label 0) r.count) kept rs

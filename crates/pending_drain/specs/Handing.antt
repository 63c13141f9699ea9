-- The steps of a drain on the table: what is taken out of the rows, and the record of what is
-- handed out. They stand here because the contracts of the steps cite them.
use Rattle.std.specs.Prelude.{◌≡◌, List, ℕ, ◌+◌, ◌*◌, ◌<◌, replicate}
use Rattle.config.specs.Limits.{record_words}
use Rattle.table.specs.declared.TemplateRecord.{TemplateRecord}
use Rattle.table.specs.Layout.{records_at}
use Rattle.table.specs.Table.{records_from}
use Rattle.table_records.specs.Add.{Adds}
use Rattle.table_records.specs.Choose.{skipping}
use Rattle.pending_flows.specs.declared.header.Header.{Header}
use Rattle.pending_calls.specs.declared.removal.Removed.{Removed}
use Rattle.pending_calls.specs.Removal.{unexpired, Removes}

abbrev pub zeros : List ℕ
zeros = replicate 1024 0

-- of a cache with this header what is handed out already goes, the expired bodies of a label and the label's record; the
-- handed-out record stands behind the held ones
abbrev pub TakesOut : Header → ℕ → ℕ → List ℕ → List ℕ → Removed → Type 0
TakesOut h clock label w w' r =
    let p = records_at h.limits in
    let f = h.figures in
    let q = unexpired h.limits.ttl clock label in
    let skip = skipping zeros (records_from w (p + record_words * f.templates) f.chance) in
    Removes q p (f.templates + f.chance) f.entries label skip w w' r

-- nothing is handed out already, and as many bodies are live as a record counts
pub record NothingGoes (chance count live : ℕ) : Type 0 where
  pub hands_none : chance ≡ 0
  pub all_live : count ≡ live

-- the record of what is handed out stands behind k held ones, where there is a body; chance: whether there is
pub record HandsOut (p k : ℕ) (t : TemplateRecord) (w w' : List ℕ) (chance : ℕ) : Type 0 where
  pub nothing : t.count ≡ 0 → (chance ≡ 0) × (w' ≡ w)
  pub some : 0 < t.count → (chance ≡ 1) × Adds p k t w w'

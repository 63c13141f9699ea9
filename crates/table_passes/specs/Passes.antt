-- What the passes over the records and the index compute, each as its loop goes. They stand here because the contracts
-- of the passes cite them. A reader need not believe them: crate `table_check`, proofs/Passes.antt, shows that together
-- with the pass over the entries they are `table_legal`.
use Rattle.std.specs.Prelude.{◌≡◌, List, [], ◌∷◌, Bool, true, ◌&&◌, ℕ, ◌+◌, ◌<◌, eqb, leb, ltb, length, get_or, set}
use Rattle.std.specs.List.{list_all}
use Rattle.table.specs.declared.TemplateRecord.{TemplateRecord}
use Rattle.table.specs.WellFormed.{key_at}

-- the labels of all records are below this
abbrev pub labels_below : ℕ → List TemplateRecord → Bool
labels_below most rs = list_all (λ r. ltb r.label most) rs

-- a record by itself, where its label was allowed `was` entries before
unfoldable pub record_fresh : ℕ → ℕ → TemplateRecord → Bool
record_fresh cap was r = ltb r.key 65536 && (eqb was 0 && (ltb 0 r.count && leb r.count cap))

-- each record's label is allowed as many entries as the record counts; the counts, with `sum`, come to `many`
unfoldable pub records_pass : ℕ → ℕ → List ℕ → ℕ → List TemplateRecord → Bool
records_pass cap many allow sum [] = eqb sum many
records_pass cap many allow sum (r ∷ rs) =
    ltb r.label (length allow) && (record_fresh cap (get_or allow r.label 0) r && records_pass cap many
    (set allow r.label r.count) (sum + r.count) rs)

-- how many entries each label is allowed after the records, where it was allowed so many before
unfoldable pub allowed_by : List ℕ → List TemplateRecord → List ℕ
allowed_by allow [] = allow
allowed_by allow (r ∷ rs) = allowed_by (set allow r.label r.count) rs

-- the pass over the records, and the allowances after it
pub record Allowed (cap many : ℕ) (rs : List TemplateRecord) (allow allow' : List ℕ) (r : Bool) : Type 0 where
  pub test : r ≡ records_pass cap many allow 0 rs
  pub filled : r ≡ true → allow' ≡ allowed_by allow rs

-- the keys of records are ids
abbrev pub KeysSmall : List TemplateRecord → Type 0
KeysSmall rs = (i : ℕ) → i < length rs → key_at rs i < 65536

-- A record more, behind the others, and its position in the index.
use Rattle.std.specs.Prelude.{◌≡◌, List, [], ◌∷◌, ◌++◌, cond, ℕ, ◌+◌, ◌*◌, ltb, take, drop}
use Rattle.config.specs.Limits.{record_words}
use Rattle.table.specs.declared.TemplateRecord.{TemplateRecord}
use Rattle.table.specs.Table.{records_from, index_from}
use Rattle.table.specs.WellFormed.{key_at}

-- position k of a record with this key goes before the first greater key
unfoldable pub inserted : List TemplateRecord → ℕ → ℕ → List ℕ → List ℕ
inserted rs key k [] = k ∷ []
inserted rs key k (i ∷ is) = cond (ltb key (key_at rs i)) (k ∷ i ∷ is) (i ∷ inserted rs key k is)

-- behind k records from word p on; no word outside the k + 1 changes
pub record Adds (p k : ℕ) (r : TemplateRecord) (w w' : List ℕ) : Type 0 where
  pub records : records_from w' p (k + 1) ≡ records_from w p k ++ (r ∷ [])
  pub index : index_from w' p (k + 1) ≡ inserted (records_from w p k) r.key k (index_from w p k)
  pub head : take p w' ≡ take p w
  pub tail : drop (p + record_words * (k + 1)) w' ≡ drop (p + record_words * (k + 1)) w

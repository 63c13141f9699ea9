-- Closing: records whose label has no bodies left go, the others have their counts anew, and the index follows.
use Rattle.std.specs.Prelude.{Option, Some, None}
use Rattle.std.specs.Prelude.{◌≡◌, List, [], ◌∷◌, Bool, cond, ℕ, ◌+◌, ◌*◌, ◌≤◌, ltb, length, get_or, set, take, drop}
use Rattle.config.specs.Limits.{record_words}
use Rattle.table.specs.declared.TemplateRecord.{TemplateRecord}
use Rattle.table.specs.Table.{records_from, index_from}

-- the words with a record's three words from p on
unfoldable pub put_record : List ℕ → ℕ → TemplateRecord → List ℕ
put_record w p r = set (set (set w p r.key) (p + 1) r.label) (p + 2) r.count

-- `kept` says how many bodies each label has left
abbrev pub recounted : List ℕ → TemplateRecord → TemplateRecord
recounted kept r = record { key = r.key; label = r.label; count = get_or kept r.label 0 }

abbrev pub remains : List ℕ → TemplateRecord → Bool
remains kept r = ltb 0 (get_or kept r.label 0)

-- the records that remain
unfoldable pub closed : List ℕ → List TemplateRecord → List TemplateRecord
closed kept [] = []
closed kept (r ∷ rs) = cond (remains kept r) (recounted kept r ∷ closed kept rs) (closed kept rs)

-- no position: what stands for the new position of a record that goes
abbrev pub nowhere : ℕ
nowhere = 1024

-- the position that such a number tells, if it is one
abbrev pub position_told : ℕ → Option ℕ
position_told n = cond (ltb n nowhere) (Some n) None

-- the new position of each record, counted from `at` on
unfoldable pub positions : List ℕ → ℕ → List TemplateRecord → List ℕ
positions kept at [] = []
positions kept at (r ∷ rs) = cond (remains kept r) at nowhere ∷ positions kept (cond (remains kept r) (at + 1) at) rs

-- the index by the new positions, without the records that go
unfoldable pub remapped : List ℕ → List ℕ → List ℕ
remapped ps [] = []
remapped ps (i ∷ is) =
    cond (ltb (get_or ps i nowhere) nowhere) (get_or ps i nowhere ∷ remapped ps is) (remapped ps is)

-- k records from word p on are closed, r of them remain; no word outside them changes
pub record Closes (p k : ℕ) (kept w w' : List ℕ) (r : ℕ) : Type 0 where
  pub few : r ≤ k
  pub records : records_from w' p r ≡ closed kept (records_from w p k)
  pub index : index_from w' p (length (remapped (positions kept 0 (records_from w p k)) (index_from w p k)))
      ≡ remapped (positions kept 0 (records_from w p k)) (index_from w p k)
  pub head : take p w' ≡ take p w
  pub tail : drop (p + record_words * k) w' ≡ drop (p + record_words * k) w

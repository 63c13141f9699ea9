-- The steps of a put-back on the table: whether there is the chance, and what is taken out of the rows. They stand here
-- because the contracts of the steps cite them.
use Rattle.std.specs.Prelude.{Option, Some, None}
use Rattle.std.specs.Prelude.{◌≡◌, Bool, false, eqb, leb, ◌&&◌, List, [], ◌∷◌, ℕ, ◌+◌, ◌≤◌, set}
use Rattle.table.specs.declared.TemplateRecord.{TemplateRecord}
use Rattle.table.specs.Layout.{records_at}
use Rattle.table.specs.Table.{table_of}
use Rattle.cache_model.specs.Calls.{may_put_back}
use Rattle.pending_flows.specs.declared.header.Header.{Header}
use Rattle.pending_flows.specs.View.{cache_of}
use Rattle.pending_calls.specs.declared.removal.Removed.{Removed}
use Rattle.pending_calls.specs.Removal.{everything, Removes}
use Rattle.pending_drain.specs.Handing.{zeros}

-- a template of this id, with at least n bodies
abbrev pub may_give : ℕ → ℕ → TemplateRecord → Bool
may_give id n t = eqb id t.key && leb n t.count

-- the template is the one that is handed out, with at least n bodies
pub record HasChance (n : ℕ) (t : TemplateRecord) (w : List ℕ) : Type 0 where
  pub handed : (table_of w).handed ≡ t ∷ []
  pub enough : n ≤ t.count

-- the template whose bodies may be put back, if any
pub record FindsChance (id n : ℕ) (w b : List ℕ) (r : Option TemplateRecord) : Type 0 where
  pub absent : r ≡ None → may_put_back id n (cache_of (table_of w) b) ≡ false
  pub found : (t : TemplateRecord) → r ≡ Some t → (id ≡ t.key) × HasChance n t w

-- of a cache with this header the oldest bodies of a label go, so many of them, and no others
abbrev pub TakesBack : Header → ℕ → ℕ → List ℕ → List ℕ → Removed → Type 0
TakesBack h label less w w' r =
    let f = h.figures in
    Removes everything (records_at h.limits) (f.templates + f.chance) f.entries 1024 (set zeros label less) w w' r

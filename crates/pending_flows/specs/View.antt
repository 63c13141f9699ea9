-- The cache that lent areas stand for, or none: number 28.
use Rattle.std.specs.Prelude.{List, [], ◌∷◌, cond, ℕ, eqb, length, take, drop}
use Rattle.std.proofs.Math.Option.{Option, none, some}
use Rattle.table.specs.declared.Entry.{Entry}
use Rattle.table.specs.declared.TemplateRecord.{TemplateRecord}
use Rattle.table.specs.Table.{Table, table_of}
use Rattle.table.specs.WellFormed.{well_formed}
use Rattle.cache_model.specs.Bodies.{Body, Template}
use Rattle.cache_model.specs.Cache.{Cache, no_chance}

-- the areas that a cache lives in
pub record Areas : Type 0 where
  pub words : List ℕ
  pub bytes : List ℕ

abbrev pub areas_of : List ℕ → List ℕ → Areas
areas_of w b = record { words = w; bytes = b }

-- the body that an entry stands for; offers are not numbered here
abbrev pub body_at : List ℕ → Entry → Body
body_at bytes e = record { number = 0; bytes = take e.len (drop e.place bytes); clock = e.clock }

-- the bodies with a label, in table order
abbrev pub bodies_at : List ℕ → ℕ → List Entry → List Body
bodies_at bytes k [] = []
bodies_at bytes k (e ∷ es) = cond (eqb k e.label) (body_at bytes e ∷ bodies_at bytes k es) (bodies_at bytes k es)

abbrev pub template_at : List ℕ → List Entry → TemplateRecord → Template
template_at bytes es r = record { id = r.key; bodies = bodies_at bytes r.label es }

abbrev pub templates_at : List ℕ → List Entry → List TemplateRecord → List Template
templates_at bytes es [] = []
templates_at bytes es (r ∷ rs) = template_at bytes es r ∷ templates_at bytes es rs

-- the template whose bodies may still be put back, if any
abbrev pub chance_at : List ℕ → List Entry → List TemplateRecord → Template
chance_at bytes es [] = no_chance
chance_at bytes es (r ∷ rs) = template_at bytes es r

abbrev pub cache_of : Table → List ℕ → Cache
cache_of t bytes = record {
  limits = t.limits;
  cached = t.cached;
  dropped = t.dropped;
  held = templates_at bytes t.entries t.held;
  chance = chance_at bytes t.entries t.handed;
}

unfoldable pub view : Areas → Option Cache
view a = cond (well_formed a.words (length a.bytes)) (some (cache_of (table_of a.words) a.bytes)) none

-- Removing what the plan of an offer removes, and packing in the same pass where it is certain that the body needs it.
use Rattle.std.specs.Prelude.{◌≡◌, ◌⊎◌, List, [], ◌∷◌, ◌++◌, ℕ, ◌+◌, ◌<◌}
use Rattle.table.specs.declared.Entry.{Entry}
use Rattle.table.specs.Layout.{limits_of, entries_at}
use Rattle.table.specs.Table.{entries_from}
use Rattle.table_entries.specs.Pack.{last_end, Packs}
use Rattle.pending_calls.specs.declared.removal.Removed.{Removed}
use Rattle.offer_plan.specs.declared.plan.OfferPlan.{OfferPlan}
use Rattle.planned_removal.specs.Planned.{RemovesPlanned}

-- the last of the entries has another label than the one that goes, and a body of this length behind it ends past `most`
pub record EndsPast (label len most : ℕ) (es : List Entry) : Type 0 where
  pub before : List Entry
  pub last : Entry
  pub behind : es ≡ before ++ (last ∷ [])
  pub other : label ≡ last.label → ⊥
  pub past : most < last_end es + len

-- a body of this length does not fit within `most` behind the bodies of m entries; these are packed, up to r
pub record PacksFor (len most m : ℕ) (w b w' b' : List ℕ) (r : ℕ) : Type 0 where
  pub past : most < last_end (entries_from w entries_at m) + len
  pub packs : Packs m w b w' b' r

-- m entries and their bodies are left as they lie, or packed for a body of this length
abbrev pub LeftFor : ℕ → ℕ → ℕ → List ℕ → List ℕ → List ℕ → List ℕ → ℕ → Type 0
LeftFor len most m w b w' b' r = ((w' ≡ w) × (b' ≡ b)) ⊎ PacksFor len most m w b w' b' r

-- the plan is carried out at this clock reading; the record of the label `apart` goes though its bodies stay. What it
-- leaves is left as it lies, or packed for a body of this length.
pub record RemovesForBody (clock : ℕ) (plan : OfferPlan) (apart len : ℕ) (w b w' b' : List ℕ) (r : Removed)
    : Type 0 where
  -- the words as the removal alone leaves them
  pub unpacked : List ℕ
  pub removes : RemovesPlanned clock plan apart w unpacked r
  pub left : LeftFor len (limits_of w).max_total_bytes r.entries unpacked b w' b' r.bytes

-- The record of what is handed out, and the removal before. Assumes nothing.
use mathlib.Core.Path.{◌≡◌, refl, subst}
use mathlib.Core.List.{List}
use Prim.Native.Nat.{ℕ, ◌+◌, ◌*◌}
use native.Mathlib.Omega.{arith}
use lib.ListN.{length, length-replicate}
use Rattle.config.specs.Limits.{record_words}
use Rattle.table.specs.declared.TemplateRecord.{TemplateRecord}
use Rattle.table.specs.Layout.{records_at}
use Rattle.table.specs.Table.{records_from}
use Rattle.table_records.specs.Add.{Adds}
use Rattle.table_records.specs.Choose.{set_each, skipping}
use Rattle.pending_flows.specs.declared.header.Header.{Header}
use Rattle.pending_calls.specs.declared.removal.Removed.{Removed}
use Rattle.pending_calls.specs.Removal.{unexpired, Removes}
use Rattle.pending_drain.specs.Handing.{zeros, TakesOut, HandsOut}

pub length_zeros : length zeros ≡ 1024
length_zeros = length-replicate {A = ℕ} 1024 0

module _ (p k : ℕ) (t : TemplateRecord) (w : List ℕ) where
  pub nothing_handed : t.count ≡ 0 → HandsOut p k t w w 0
  nothing_handed e = record { nothing = λ _. (refl, refl); some = λ h. absurd (omega arith) }

  pub some_handed : {w' : List ℕ} → (t.count ≡ 0 → ⊥) → Adds p k t w w' → HandsOut p k t w w' 1
  some_handed n a = record { nothing = λ e. absurd (n e); some = λ _. (refl, a) }

-- where nothing is handed out, nothing is skipped
pub nothing_skipped : (h : Header) (w : List ℕ) → h.figures.chance ≡ 0 →
    zeros ≡ skipping zeros (records_from w (records_at h.limits + record_words * h.figures.templates) h.figures.chance)
unfolding set_each records_from
nothing_skipped h w none = rw none

pub taken_out : (h : Header) (clock label : ℕ) (w w' : List ℕ) (r : Removed) {skip : List ℕ} →
    skip ≡ skipping zeros (records_from w (records_at h.limits + record_words * h.figures.templates) h.figures.chance) →
    Removes (unexpired h.limits.ttl clock label) (records_at h.limits) (h.figures.templates + h.figures.chance)
    h.figures.entries label skip w w' r →
    TakesOut h clock label w w' r
taken_out h clock label w w' r e d =
    subst (λ (skip : List ℕ). Removes (unexpired h.limits.ttl clock label) (records_at h.limits)
    (h.figures.templates + h.figures.chance) h.figures.entries label skip w w' r) e d

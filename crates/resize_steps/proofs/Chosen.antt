-- What is chosen by labels and records is what the model chooses by ids and templates. Assumes nothing.
use mathlib.Core.Path.{◌≡◌, refl, sym}
use mathlib.Core.Logic.{◌≢◌}
use mathlib.Core.Bool.{Bool, true, false, not, ◌&&◌}
use mathlib.Core.List.{List, [], ◌∷◌}
use Prim.Native.Nat.{ℕ, zero, suc, ◌+◌, ◌-◌}
use native.Mathlib.Omega.{arith}
use lib.Dec.{eqb, leb}
use lib.ListN.{get_or, take}
use borrow.Author.Tests.{eq-eqb, ne_eqb}
use Rattle.config.specs.declared.PendingFlowsConfig.{PendingFlowsConfig}
use Rattle.config.proofs.Lists.{All, all_map, all_both}
use Rattle.table.specs.declared.Entry.{Entry}
use Rattle.table.specs.declared.TemplateRecord.{TemplateRecord}
use Rattle.table.specs.Table.{has_label}
use Rattle.table.proofs.Facts.{Differ}
use Rattle.table_records.specs.Choose.{evictions_of}
use Rattle.cache_model.specs.Bodies.{Body, size, sum_bodies, byte_total, keep}
use Rattle.cache_model.specs.Removal.{evictions}
use Rattle.cache_model.proofs.Thinning.{has_id}
use Rattle.pending_flows.specs.View.{bodies_at, templates_at}
use Rattle.table_view.proofs.Swept.{body_stays}
use Rattle.resize_steps.specs.Cut.{small_enough}

-- ---- the first templates, by label or by id

module _ (b : List ℕ) (es : List Entry) where
  abbrev FirstAlike : ℕ → List TemplateRecord → TemplateRecord → Type 0
  FirstAlike i rs r = has_label r.label (take i rs) ≡ has_id r.key (take i (templates_at b es rs))

  pub first_alike : (i : ℕ) (rs : List TemplateRecord) → Differ (λ r. r.key) rs → Differ (λ r. r.label) rs →
      All (FirstAlike i rs) rs
  first_alike i [] keys labels = tt
  first_alike zero (r ∷ rs) keys labels = (
    refl,
    all_map (FirstAlike zero rs) (FirstAlike zero (r ∷ rs)) (λ u h. refl) rs
        (first_alike zero rs keys.1 labels.1),
  )
  first_alike (suc i) (r ∷ rs) keys labels = (
    rw (eq-eqb r.label r.label refl, eq-eqb r.key r.key refl),
    all_both _ (FirstAlike i rs) (FirstAlike (suc i) (r ∷ rs)) later rs
        (all_both (λ u. r.key ≢ u.key) (λ u. r.label ≢ u.label)
        (λ u. (r.key ≢ u.key) × (r.label ≢ u.label)) (λ u x y. (x, y)) rs keys.0 labels.0)
        (first_alike i rs keys.1 labels.1),
  )
    where
      later : (u : TemplateRecord) → (r.key ≢ u.key) × (r.label ≢ u.label) → FirstAlike i rs u →
          FirstAlike (suc i) (r ∷ rs) u
      later u d h =
          rw (ne_eqb u.label r.label (λ e. d.1 (sym e)), ne_eqb u.key r.key (λ e. d.0 (sym e))) h

  -- how many go until the total fits
  pub evictions_alike : (room : ℕ) (sizes : List ℕ) (rs : List TemplateRecord) (total : ℕ) →
      All (λ r. get_or sizes r.label 0 ≡ sum_bodies size (bodies_at b r.label es)) rs →
      total ≡ byte_total (templates_at b es rs) → evictions_of room sizes total rs ≡ evictions room 0
      (templates_at b es rs)
  unfolding evictions_of evictions
  evictions_alike room sizes [] total sized is = refl
  evictions_alike room sizes (r ∷ rs) total sized is =
      let z : byte_total (templates_at b es (r ∷ rs)) + 0 ≡ total = omega arith in
      let rest : total - get_or sizes r.label 0 ≡ byte_total (templates_at b es rs) = omega (arith, sized.0) in
      rw (z, evictions_alike room sizes rs (total - get_or sizes r.label 0) sized.1 rest)

-- ---- bodies that are small enough

keep_alike : (p s : Body → Bool) → ((x : Body) → p x ≡ s x) → (xs : List Body) → keep p xs ≡ keep s xs
keep_alike p s same [] = refl
keep_alike p s same (x ∷ xs) = rw (same x, keep_alike p s same xs)

pub small_kept : (l : PendingFlowsConfig) (k : ℕ) (xs : List Body) →
    keep (body_stays (small_enough l) k) xs ≡ keep (λ x. leb (size x) l.max_entry_size_bytes) xs
unfolding body_stays
small_kept l k xs =
    keep_alike (body_stays (small_enough l) k) (λ x. leb (size x) l.max_entry_size_bytes)
    (λ x. by_label (eqb 1024 k) (leb (size x) l.max_entry_size_bytes)) xs
  where
    by_label : (s t : Bool) → (not (s && false) && t) ≡ t
    by_label true t = refl
    by_label false t = refl

-- What an offer reads off the records, with the bytes or the live bodies of each label beside them, is what the model
-- reads off their templates. Assumes nothing.
use Rattle.std.proofs.Common.{Option, Some, None}
use mathlib.Core.Path.{◌≡◌, refl}
use mathlib.Core.Bool.{Bool, true, false, cond}
use mathlib.Core.List.{List, [], ◌∷◌}
use Prim.Native.Nat.{ℕ, ◌+◌, ◌-◌, ◌≤◌, ◌<◌}
use native.Mathlib.Omega.{arith}
use lib.Dec.{eqb, leb, ltb}
use lib.ListN.{length, get_or}
use borrow.Author.Tests.{ltb-true, leb-true, lt-ltb, le-ltb, le-leb}
use Rattle.config.proofs.Lists.{All}
use Rattle.config.proofs.Tests.{same_test}
use Rattle.table.specs.declared.Entry.{Entry}
use Rattle.table.specs.declared.TemplateRecord.{TemplateRecord}
use Rattle.table.specs.Reads.{label_of, label_or_none}
use Rattle.table_records.specs.Choose.{evictions_of, live_records, label_of_first_live, first_live}
use Rattle.cache_model.specs.Bodies.{Body, Template, size, sum_bodies, sum_templates, keep, bodies_of, without}
use Rattle.cache_model.specs.Bodies.{unless_empty}
use Rattle.cache_model.specs.Removal.{evictions, kept_of}
use Rattle.cache_model.proofs.Thinning.{first_id}
use Rattle.pending_flows.specs.View.{bodies_at, template_at, templates_at}
use Rattle.pending_flows.proofs.Templates.{length_templates}
use Rattle.offer_plan.specs.Plan.{live_at, others_fill}

module _ (b : List ℕ) (es : List Entry) where
  -- `sizes` has the bytes of these records' bodies
  abbrev pub Sized : List ℕ → List TemplateRecord → Type 0
  Sized sizes rs = All (λ r. get_or sizes r.label 0 ≡ sum_bodies size (bodies_at b r.label es)) rs

  -- how many templates go for their bytes
  pub evictions_read : (most more total : ℕ) (sizes : List ℕ) (rs : List TemplateRecord) → more ≤ most →
      Sized sizes rs →
      total ≡ sum_templates size (templates_at b es rs) →
      evictions_of (most - more) sizes total rs ≡ evictions most more (templates_at b es rs)
  unfolding evictions_of evictions
  evictions_read most more total sizes [] fits has is = refl
  evictions_read most more total sizes (r ∷ rs) fits has is =
      let rest : total - get_or sizes r.label 0 ≡ sum_templates size (templates_at b es rs) = omega (arith, has.0) in
      rw (test, evictions_read most more (total - get_or sizes r.label 0) sizes rs fits has.1 rest)
    where
      all : ℕ
      all = sum_templates size (templates_at b es (r ∷ rs))

      test : ltb (most - more) total ≡ ltb most (all + more)
      test =
          same_test (ltb (most - more) total) (ltb most (all + more))
          (λ e. lt-ltb most (all + more) (omega (arith, ltb-true (most - more) total e)))
          (λ e. lt-ltb (most - more) total (omega (arith, ltb-true most (all + more) e)))

  -- none where there is room
  pub none_evicted : (most more : ℕ) (rs : List TemplateRecord) → more ≤ most →
      sum_templates size (templates_at b es rs) ≤ most - more → 0 ≡ evictions most more (templates_at b es rs)
  unfolding evictions
  none_evicted most more [] fits room = refl
  none_evicted most more (r ∷ rs) fits room =
      rw (le-ltb most (sum_templates size (templates_at b es (r ∷ rs)) + more) (omega arith))

  -- the bytes of the first template
  abbrev pub first_size : List TemplateRecord → ℕ
  first_size [] = 0
  first_size (r ∷ rs) = sum_bodies size (bodies_at b r.label es)

  -- one where there is room without its bytes
  pub one_evicted : (most more : ℕ) (rs : List TemplateRecord) → more ≤ most →
      most - more < sum_templates size (templates_at b es rs) →
      sum_templates size (templates_at b es rs) - first_size rs ≤ most - more →
      1 ≡ evictions most more (templates_at b es rs)
  unfolding evictions
  one_evicted most more [] fits full room = omega arith
  one_evicted most more (r ∷ rs) fits full room =
      rw (
        lt-ltb most (sum_templates size (templates_at b es (r ∷ rs)) + more) (omega arith),
        ← none_evicted most more rs fits (omega arith),
      )

  -- `live` counts the bodies of these records that pass a test
  module _ (p : Body → Bool) (live : List ℕ) where
    abbrev pub Counted : List TemplateRecord → Type 0
    Counted rs = All (λ r. get_or live r.label 0 ≡ length (keep p (bodies_at b r.label es))) rs

    pub here_read : (id : ℕ) (rs : List TemplateRecord) → Counted rs →
        live_at live (label_of id rs) ≡ length (keep p (bodies_of id (templates_at b es rs)))
    unfolding label_of
    here_read id [] has = refl
    here_read id (r ∷ rs) has = by_key (eqb id r.key) (here_read id rs has.1)
      where
        by_key : (t : Bool) → live_at live (label_of id rs) ≡ length (keep p (bodies_of id (templates_at b es rs))) →
            live_at live (cond t (Some r.label) (label_of id rs))
            ≡ length (keep p (cond t (bodies_at b r.label es) (bodies_of id (templates_at b es rs))))
        by_key true ih = has.0
        by_key false ih = ih

    -- a record's template is kept where some of its bodies are
    pub alive_read : (rs : List TemplateRecord) → Counted rs →
        live_records live rs ≡ length (kept_of (λ j x. p x) (templates_at b es rs))
    unfolding live_records
    alive_read [] has = refl
    alive_read (r ∷ rs) has =
        by_list (keep p (bodies_at b r.label es)) has.0 (alive_read rs has.1)
      where
        kept : List Template
        kept = kept_of (λ j x. p x) (templates_at b es rs)

        by_list : (bs : List Body) → get_or live r.label 0 ≡ length bs → live_records live rs ≡ length kept →
            cond (ltb 0 (get_or live r.label 0)) 1 0 + live_records live rs ≡ length (unless_empty r.key bs kept)
        by_list [] e ih = rw e (omega arith)
        by_list (x ∷ xs) e ih = rw (lt-ltb 0 (get_or live r.label 0) (omega arith)) (omega arith)

    -- what holds of each record's label and key holds of the first that is kept
    pub first_read : (P : ℕ → ℕ → Type 0) (rs : List TemplateRecord) → Counted rs →
        All (λ r. P r.label r.key) rs → 0 < live_records live rs →
        P (first_live live rs) (first_id (kept_of (λ j x. p x) (templates_at b es rs)))
    unfolding live_records
    first_read P [] has a some = absurd (omega arith)
    first_read P (r ∷ rs) has a some =
        by_list (keep p (bodies_at b r.label es)) has.0 (first_read P rs has.1 a.1) some
      where
        kept : List Template
        kept = kept_of (λ j x. p x) (templates_at b es rs)

        by_list : (bs : List Body) → get_or live r.label 0 ≡ length bs →
            (0 < live_records live rs → P (first_live live rs) (first_id kept)) →
            0 < cond (ltb 0 (get_or live r.label 0)) 1 0 + live_records live rs →
            P (label_or_none (cond (ltb 0 (get_or live r.label 0)) (Some r.label) (label_of_first_live live rs)))
            (first_id (unless_empty r.key bs kept))
        by_list [] e ih h =
            let none : ltb 0 (get_or live r.label 0) ≡ false = le-ltb 0 (get_or live r.label 0) (omega arith) in
            rw none (ih (let z : 0 < 0 + live_records live rs = rw none at h in omega arith))
        by_list (x ∷ xs) e ih h = rw (lt-ltb 0 (get_or live r.label 0) (omega arith)) a.0

  -- the records but the one that was found
  abbrev found_one : Option ℕ → ℕ
  found_one (Some k) = 1
  found_one None = 0

  others_many : (id : ℕ) (rs : List TemplateRecord) →
      length rs ≡ length (without id (templates_at b es rs)) + found_one (label_of id rs)
  unfolding label_of
  others_many id [] = refl
  others_many id (r ∷ rs) = by_key (eqb id r.key) (others_many id rs)
    where
      ts : List Template
      ts = templates_at b es rs

      by_key : (t : Bool) → length rs ≡ length (without id ts) + found_one (label_of id rs) →
          length (r ∷ rs) ≡ length (cond t ts (template_at b es r ∷ without id ts))
          + found_one (cond t (Some r.label) (label_of id rs))
      by_key true ih = omega (arith, length_templates b es rs)
      by_key false ih = omega arith

  pub others_read : (id most : ℕ) (rs : List TemplateRecord) →
      others_fill (label_of id rs) (length rs) most ≡ leb most (length (without id (templates_at b es rs)))
  others_read id most rs = by_found (label_of id rs) (others_many id rs)
    where
      others : ℕ
      others = length (without id (templates_at b es rs))

      by_found : (x : Option ℕ) → length rs ≡ others + found_one x → others_fill x (length rs) most ≡ leb most others
      by_found (Some k) e =
          same_test (ltb most (length rs)) (leb most others)
          (λ t. le-leb most others (omega (arith, ltb-true most (length rs) t)))
          (λ t. lt-ltb most (length rs) (omega (arith, leb-true most others t)))
      by_found None e =
          same_test (leb most (length rs)) (leb most others)
          (λ t. le-leb most others (omega (arith, leb-true most (length rs) t)))
          (λ t. le-leb most (length rs) (omega (arith, leb-true most others t)))

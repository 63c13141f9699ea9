-- The sum of held lengths, entry by entry, is the byte total of the held templates. Assumes nothing.
use Rattle.std.proofs.Common.{Option}
use mathlib.Core.Path.{◌≡◌, refl, ap, sym, ◌∙◌}
use mathlib.Core.Bool.{Bool, true, false, not, ◌&&◌, ◌||◌, cond, false≢true}
use mathlib.Core.List.{List, [], ◌∷◌}
use Prim.Native.Nat.{ℕ, ◌+◌, ◌≤◌}
use native.Mathlib.Omega.{arith}
use lib.Dec.{eqb}
use lib.ListN.{length}
use borrow.Author.Tests.{eqb-true}
use Rattle.config.specs.Age.{expired_at}
use Rattle.config.proofs.Lists.{All}
use Rattle.config.proofs.Tests.{or_other}
use Rattle.table.specs.declared.Entry.{Entry}
use Rattle.table.specs.declared.TemplateRecord.{TemplateRecord}
use Rattle.table.specs.Table.{has_label, sum_lens}
use Rattle.table.specs.Reads.{live_lens}
use Rattle.table.proofs.Facts.{Differ}
use Rattle.table_entries.specs.Sums.{lens_sum}
use Rattle.cache_model.specs.Bodies.{Body, size, expired, keep, sum_bodies, sum_templates}
use Rattle.pending_flows.specs.View.{body_at, bodies_at, templates_at}
use Rattle.pending_flows.proofs.Weights.{weigh, weigh_all, weigh_owned, weights_agree}
use Rattle.table_view.proofs.Tied.{TiedApart}
use Rattle.table_view.proofs.Swept.{Within, body_size}

-- whatever a body weighs: the bodies of templates, template by template, and entry by entry
module _ (b : List ℕ) (w : Body → ℕ) where
  abbrev body_weight : Entry → ℕ
  body_weight e = w (body_at b e)

  pub bodies_weigh : (k : ℕ) (es : List Entry) → sum_bodies w (bodies_at b k es) ≡ weigh body_weight k es
  unfolding weigh
  bodies_weigh k [] = refl
  bodies_weigh k (e ∷ es) = by_label (eqb k e.label) (bodies_weigh k es)
    where
      by_label : (x : Bool) → sum_bodies w (bodies_at b k es) ≡ weigh body_weight k es →
          sum_bodies w (cond x (body_at b e ∷ bodies_at b k es) (bodies_at b k es))
          ≡ cond x (w (body_at b e)) 0 + weigh body_weight k es
      by_label true ih = omega arith
      by_label false ih = omega arith

  pub templates_weigh : (es : List Entry) (rs : List TemplateRecord) →
      sum_templates w (templates_at b es rs) ≡ weigh_all body_weight rs es
  unfolding weigh_all
  templates_weigh es [] = refl
  templates_weigh es (r ∷ rs) = omega (arith, templates_weigh es rs, bodies_weigh r.label es)

owned_lens : (b : List ℕ) (rs : List TemplateRecord) (es : List Entry) → Within (length b) es →
    weigh_owned (λ e. size (body_at b e)) rs es ≡ sum_lens rs es
unfolding weigh_owned
owned_lens b rs [] h = refl
owned_lens b rs (e ∷ es) h =
    let same : size (body_at b e) ≡ e.len = body_size b e h.0 in
    rw same (ap (λ (n : ℕ). cond (has_label e.label rs) e.len 0 + n) (owned_lens b rs es h.1))

-- the lengths of the entries that belong to records are the bytes of their templates
pub lens_total : (b : List ℕ) (rs : List TemplateRecord) (es : List Entry) → Differ (λ r. r.label) rs →
    Within (length b) es → sum_lens rs es ≡ sum_templates size (templates_at b es rs)
lens_total b rs es d h =
    sym (templates_weigh b size es rs ∙ weights_agree (λ e. size (body_at b e)) rs es d ∙ owned_lens b rs es h)

-- where every entry belongs to one, they are the lengths of all
pub lens_owned : (rs : List TemplateRecord) (es : List Entry) → All (λ e. has_label e.label rs ≡ true) es →
    lens_sum es ≡ sum_lens rs es
unfolding lens_sum
lens_owned rs [] known = refl
lens_owned rs (e ∷ es) known = rw known.0 (omega (arith, lens_owned rs es known.1))

-- where every entry belongs to one or has the label a, which none has, they are the lengths of all but of that label
pub lens_apart : (b : List ℕ) {a : ℕ} {rs : List TemplateRecord} {es : List Entry} {is : List ℕ} →
    TiedApart a rs es is → Within (length b) es → lens_sum es ≡ sum_lens rs es + sum_bodies size (bodies_at b a es)
unfolding lens_sum
lens_apart b {a} {rs} {es} tied = by_entries es tied.labels_known
  where
    known : Entry → Type 0
    known e = has_label e.label rs || eqb a e.label ≡ true

    by_label : (e : Entry) → known e → (x : Bool) → eqb a e.label ≡ x → e.place + e.len ≤ length b →
        (n k : ℕ) (bs : List Body) → n ≡ k + sum_bodies size bs →
        e.len + n ≡ cond (has_label e.label rs) e.len 0 + k + sum_bodies size (cond x (body_at b e ∷ bs) bs)
    by_label e h true t fits n k bs ih =
        let none : has_label e.label rs ≡ false = rw (← eqb-true a e.label t) tied.label_apart in
        rw none (omega (arith, body_size b e fits))
    by_label e h false t fits n k bs ih =
        let some : has_label e.label rs ≡ true = or_other (has_label e.label rs) (eqb a e.label) h
        (λ u. false≢true (sym t ∙ u)) in
        rw some (omega arith)

    by_entries : (es : List Entry) → All known es → Within (length b) es →
        lens_sum es ≡ sum_lens rs es + sum_bodies size (bodies_at b a es)
    by_entries [] h within = refl
    by_entries (e ∷ es) h within =
        by_label e h.0 (eqb a e.label) refl within.0 (lens_sum es) (sum_lens rs es) (bodies_at b a es)
        (by_entries es h.1 within.1)

-- the lengths of a label's live entries are those of its unexpired bodies
pub live_lens_lem : (b : List ℕ) (ttl : Option ℕ) (now k : ℕ) (es : List Entry) → Within (length b) es →
    live_lens ttl now k es ≡ sum_bodies size (keep (λ x. not (expired ttl now x)) (bodies_at b k es))
unfolding live_lens
live_lens_lem b ttl now k [] within = refl
live_lens_lem b ttl now k (e ∷ es) within =
    by_tests (eqb k e.label) (expired_at ttl now e.clock) refl (live_lens_lem b ttl now k es within.1)
  where
    live : Body → Bool
    live x = not (expired ttl now x)

    by_tests : (s x : Bool) → expired_at ttl now e.clock ≡ x →
        live_lens ttl now k es ≡ sum_bodies size (keep live (bodies_at b k es)) →
        cond (s && not x) e.len 0 + live_lens ttl now k es
        ≡ sum_bodies size (keep live (cond s (body_at b e ∷ bodies_at b k es) (bodies_at b k es)))
    by_tests true true h ih = rw h (omega arith)
    by_tests true false h ih = rw h (omega (arith, body_size b e within.0))
    by_tests false x h ih = omega arith

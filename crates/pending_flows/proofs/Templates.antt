-- The templates that records and entries stand for: their bodies by label, counted and looked up. Assumes nothing.
use Rattle.std.proofs.Common.{Option, Some, None}
use mathlib.Core.Path.{◌≡◌, refl, ap, ◌∙◌, sym}
use mathlib.Core.Bool.{Bool, true, false, not, ◌&&◌, cond}
use mathlib.Core.List.{List, [], ◌∷◌}
use Prim.Native.Nat.{ℕ, suc, ◌+◌}
use native.Mathlib.Omega.{arith}
use lib.Dec.{eqb}
use lib.ListN.{length, length-append}
use Rattle.config.specs.Age.{expired_at}
use Rattle.config.proofs.Lists.{All}
use Rattle.table.specs.declared.Entry.{Entry}
use Rattle.table.specs.declared.TemplateRecord.{TemplateRecord}
use Rattle.table.specs.Table.{tally}
use Rattle.table.specs.Reads.{label_of, live_count, count_sum, label_or_none}
use Rattle.cache_model.specs.Bodies.{Body, keep, all_bodies, bodies_of, expired}
use Rattle.pending_flows.specs.View.{body_at, bodies_at, templates_at}

module _ (bytes : List ℕ) where
  -- as many bodies as entries with the label
  pub length_bodies : (k : ℕ) (es : List Entry) → length (bodies_at bytes k es) ≡ tally k es
  length_bodies k [] = refl
  length_bodies k (e ∷ es) = by_label (eqb k e.label) (length_bodies k es)
    where
      by_label : (b : Bool) → length (bodies_at bytes k es) ≡ tally k es →
          length (cond b (body_at bytes e ∷ bodies_at bytes k es) (bodies_at bytes k es))
          ≡ cond b (suc (tally k es)) (tally k es)
      by_label true ih = ap suc ih
      by_label false ih = ih

  -- a label without entries has no bodies
  pub no_bodies : (k : ℕ) (es : List Entry) → tally k es ≡ 0 → bodies_at bytes k es ≡ []
  no_bodies k es none = empty (bodies_at bytes k es) (length_bodies k es ∙ none)
    where
      empty : (bs : List Body) → length bs ≡ 0 → bs ≡ []
      empty [] e = refl
      empty (b ∷ bs) e = absurd (omega arith)

  -- as many unexpired bodies as live entries
  pub live_bodies_lem : (ttl : Option ℕ) (now k : ℕ) (es : List Entry) →
      live_count ttl now k es ≡ length (keep (λ b. not (expired ttl now b)) (bodies_at bytes k es))
  unfolding live_count
  live_bodies_lem ttl now k [] = refl
  live_bodies_lem ttl now k (e ∷ es) =
      by_tests (eqb k e.label) (expired_at ttl now e.clock) refl (live_bodies_lem ttl now k es)
    where
      unexpired : Body → Bool
      unexpired b = not (expired ttl now b)

      by_tests : (b x : Bool) → expired_at ttl now e.clock ≡ x →
          live_count ttl now k es ≡ length (keep unexpired (bodies_at bytes k es)) →
          cond (b && not x) 1 0 + live_count ttl now k es
          ≡ length (keep unexpired (cond b (body_at bytes e ∷ bodies_at bytes k es) (bodies_at bytes k es)))
      by_tests true true h ih = rw h (omega arith)
      by_tests true false h ih = rw h (omega arith)
      by_tests false x h ih = omega arith

  -- the bodies of what was found for an id
  abbrev pub bodies_of_label : Option ℕ → List Entry → List Body
  bodies_of_label None es = []
  bodies_of_label (Some k) es = bodies_at bytes k es

  pub bodies_of_id : (i : ℕ) (es : List Entry) (rs : List TemplateRecord) →
      bodies_of i (templates_at bytes es rs) ≡ bodies_of_label (label_of i rs) es
  unfolding label_of
  bodies_of_id i es [] = refl
  bodies_of_id i es (r ∷ rs) = by_key (eqb i r.key) (bodies_of_id i es rs)
    where
      by_key : (b : Bool) → bodies_of i (templates_at bytes es rs) ≡ bodies_of_label (label_of i rs) es →
          cond b (bodies_at bytes r.label es) (bodies_of i (templates_at bytes es rs))
          ≡ bodies_of_label (cond b (Some r.label) (label_of i rs)) es
      by_key true ih = refl
      by_key false ih = ih

  -- where no entry has what is no label, they are the label's
  pub found_bodies : (i : ℕ) (es : List Entry) (rs : List TemplateRecord) → tally 1024 es ≡ 0 →
      bodies_of i (templates_at bytes es rs) ≡ bodies_at bytes (label_or_none (label_of i rs)) es
  found_bodies i es rs none = bodies_of_id i es rs ∙ by_label (label_of i rs)
    where
      by_label : (found : Option ℕ) → bodies_of_label found es ≡ bodies_at bytes (label_or_none found) es
      by_label (Some k) = refl
      by_label None = sym (no_bodies 1024 es none)

  -- as many templates as records
  pub length_templates : (es : List Entry) (rs : List TemplateRecord) → length (templates_at bytes es rs) ≡ length rs
  length_templates es [] = refl
  length_templates es (r ∷ rs) = ap suc (length_templates es rs)

  -- where each record's count is right, as many bodies as the counts say
  pub length_all_bodies : (es : List Entry) (rs : List TemplateRecord) →
      All (λ r. r.count ≡ tally r.label es) rs →
      length (all_bodies (templates_at bytes es rs)) ≡ count_sum rs
  unfolding count_sum
  length_all_bodies es [] h = refl
  length_all_bodies es (r ∷ rs) h =
      let ih = length_all_bodies es rs h.1 in
      let c = h.0 in
      let b = length_bodies r.label es in
      omega (arith, length-append (bodies_at bytes r.label es) (all_bodies (templates_at bytes es rs)))

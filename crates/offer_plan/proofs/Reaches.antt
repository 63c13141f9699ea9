-- Whether the bodies of a label have so many bytes: the pass over the entries, and what their lengths say of the
-- bodies. Assumes nothing.
use mathlib.Core.Path.{◌≡◌, refl, ap, sym, ◌∙◌}
use mathlib.Core.Bool.{true, cond}
use mathlib.Core.List.{List, [], ◌∷◌}
use Prim.Native.Nat.{ℕ, ◌+◌, ◌-◌, ◌≤◌, ◌<◌}
use native.Mathlib.Omega.{arith}
use lib.Dec.{eqb, leb}
use lib.ListN.{length, get_or, drop}
use borrow.Author.Tests.{eqb-true, leb-true, eq-eqb, ne_eqb, le-leb}
use Rattle.config.proofs.Tests.{same_test}
use Rattle.table.specs.declared.Entry.{Entry}
use Rattle.table.specs.Parts.{entry_of, entries_of}
use Rattle.table.proofs.Parts.{part_first, no_part}
use Rattle.cache_model.specs.Bodies.{size, sum_bodies}
use Rattle.pending_flows.specs.View.{body_at, bodies_at}
use Rattle.pending_flows.proofs.Weights.{weigh}
use Rattle.table_view.proofs.Swept.{Within, body_size}
use Rattle.table_view.proofs.Totals.{bodies_weigh}
use Rattle.offer_plan.specs.Plan.{lens_of}

-- Looking for bytes of a label in the first i entries: by as much as all lengths exceed the bytes, those that are left
-- exceed the missing ones.
pub record BytesSought (label least : ℕ) (parts : List (List ℕ)) (missing i : ℕ) : Type 0 where
  pub rest : missing + lens_of label (entries_of parts) ≡ least + lens_of label (drop i (entries_of parts))

module _ {label least : ℕ} {parts : List (List ℕ)} {missing i : ℕ} (inv : BytesSought label least parts missing i) where
  abbrev all : ℕ
  all = lens_of label (entries_of parts)

  pub all_passed : length parts ≤ i → eqb missing 0 ≡ leb least all
  unfolding lens_of
  all_passed h =
      let left = rw (no_part entry_of parts i h) at inv.rest in
      same_test (eqb missing 0) (leb least all)
      (λ e. le-leb least all (omega (arith, left, eqb-true missing 0 e)))
      (λ e. eq-eqb missing 0 (omega (arith, left, leb-true least all e)))

  module _ (e : Entry) (more : i < length parts) (is : e ≡ entry_of (get_or parts i [])) where
    next : lens_of label (drop i (entries_of parts))
        ≡ cond (eqb label e.label) e.len 0 + lens_of label (drop (i + 1) (entries_of parts))
    unfolding lens_of
    next = rw (part_first entry_of parts i e more is) refl

    pub bytes_reached : label ≡ e.label → missing ≤ e.len → true ≡ leb least all
    bytes_reached h enough =
        let n = rw (eq-eqb label e.label h) at next in sym (le-leb least all (omega (arith, inv.rest)))

    pub fewer_missing : label ≡ e.label → e.len < missing → BytesSought label least parts (missing - e.len) (i + 1)
    fewer_missing h short =
        let n = rw (eq-eqb label e.label h) at next in record { rest = omega (arith, inv.rest) }

    pub still_missing : (label ≡ e.label → ⊥) → BytesSought label least parts missing (i + 1)
    still_missing h =
        let n = rw (ne_eqb label e.label h) at next in record { rest = omega (arith, inv.rest) }

-- the lengths of a label's entries are the bytes of its bodies
module _ (b : List ℕ) (k : ℕ) where
  weighed : (es : List Entry) → Within (length b) es → weigh (λ e. size (body_at b e)) k es ≡ lens_of k es
  unfolding weigh lens_of
  weighed [] h = refl
  weighed (e ∷ es) h =
      let same : size (body_at b e) ≡ e.len = body_size b e h.0 in
      rw same (ap (λ (n : ℕ). cond (eqb k e.label) e.len 0 + n) (weighed es h.1))

  pub lens_read : (es : List Entry) → Within (length b) es → lens_of k es ≡ sum_bodies size (bodies_at b k es)
  lens_read es h = sym (bodies_weigh b size k es ∙ weighed es h)

-- What a sweep by a test on each entry keeps, where only entries of one label can fail. Assumes nothing.
use Rattle.std.proofs.Common.{Some, ◌≡◌, ℕ, suc, ◌+◌, ◌-◌, ◌≤◌, Bool, true, false, not, eqb, List, [], ◌∷◌, length, get_or, sym, refl, ap, ◌∙◌, arith, le-leb}
use mathlib.Core.Bool.{and-true}
use native.Mathlib.Decide.{ℕ_discrete}
use Rattle.config.proofs.Tests.{by_case}
use Rattle.config.proofs.Lists.{All}
use Rattle.table.specs.declared.Entry.{Entry}
use Rattle.table.specs.Table.{tally}
use Rattle.table.proofs.Labels.{tally_here, tally_later}
use Rattle.table_entries.specs.declared.StayTest.{StayTest}
use Rattle.table_entries.specs.Stays.{stays}
use Rattle.table_entries.specs.Sweep.{swept}
use Rattle.entry_sweeps.specs.KeptBy.{kept_by}

-- where nothing is to be skipped, a sweep keeps what stays by itself
pub swept_unskipped : (q : StayTest) (skip : List ℕ) (es : List Entry) → All (λ e. get_or skip e.label 0 ≡ 0) es →
    swept q skip es ≡ kept_by (stays q) es
unfolding swept kept_by
swept_unskipped q skip [] n = refl
swept_unskipped q skip (e ∷ es) n = rw (n.0, swept_unskipped q skip es n.1)

-- an entry of another label
abbrev pub other_than : ℕ → Entry → Bool
other_than label e = not (eqb label e.label)

-- by a TTL of 0 every body is expired: of the aged label none stays
module _ (now label most : ℕ) where
  abbrev pub zero_ttl : StayTest
  zero_ttl = record { ttl = Some 0; clock = now; only = Some label; max_size = most }

  zero_stays : (e : Entry) → e.len ≤ most → stays zero_ttl e ≡ other_than label e
  unfolding stays
  zero_stays e short =
      rw (
        le-leb 0 (now - e.clock) (omega arith),
        and-true (eqb label e.label),
        le-leb e.len most short,
        and-true (other_than label e),
      )

  pub zero_kept : (es : List Entry) → All (λ e. e.len ≤ most) es →
      kept_by (stays zero_ttl) es ≡ kept_by (other_than label) es
  unfolding kept_by
  zero_kept [] short = refl
  zero_kept (e ∷ es) short = rw (zero_stays e short.0, zero_kept es short.1)

module _ (p : Entry → Bool) where
  pub none_kept_by : kept_by p [] ≡ []
  unfolding kept_by
  none_kept_by = refl

  -- a first entry goes, or is kept
  module _ (e : Entry) {v : Bool} (test : v ≡ p e) where
    pub first_goes : v ≡ false → (es : List Entry) → kept_by p (e ∷ es) ≡ kept_by p es
    unfolding kept_by
    first_goes h es = rw (← test, h)

    pub first_kept : v ≡ true → (es : List Entry) → kept_by p (e ∷ es) ≡ e ∷ kept_by p es
    unfolding kept_by
    first_kept h es = rw (← test, h)

  -- what holds of a first entry and others: it goes, or is kept
  kept_cases : (P : List Entry → Type 0) (e : Entry) (es : List Entry) → (p e ≡ false → P (kept_by p es)) →
      (p e ≡ true → P (e ∷ kept_by p es)) → P (kept_by p (e ∷ es))
  unfolding kept_by
  kept_cases P e es goes stays = by_case P (p e) stays goes

  pub length_kept_by : (es : List Entry) → length (kept_by p es) ≤ length es
  unfolding kept_by
  length_kept_by [] = omega arith
  length_kept_by (e ∷ es) =
      kept_cases (λ l. length l ≤ suc (length es)) e es (λ _. omega (arith, length_kept_by es))
      (λ _. omega (arith, length_kept_by es))

  pub all_kept_by : (P : Entry → Type 0) (es : List Entry) → All P es → All P (kept_by p es)
  unfolding kept_by
  all_kept_by P [] a = tt
  all_kept_by P (e ∷ es) a =
      kept_cases (λ l. All P l) e es (λ _. all_kept_by P es a.1) (λ _. (a.0, all_kept_by P es a.1))

  module _ (label : ℕ) where
    -- entries of other labels pass
    abbrev pub OthersPass : List Entry → Type 0
    OthersPass es = All (λ e. ((label ≡ e.label → ⊥) → p e ≡ true)) es

    -- all entries of another label are kept
    pub kept_others : (k : ℕ) → (label ≡ k → ⊥) → (es : List Entry) → OthersPass es →
        tally k (kept_by p es) ≡ tally k es
    unfolding kept_by
    kept_others k o [] a = refl
    kept_others k o (e ∷ es) a = by_label (ℕ_discrete label e.label) (kept_others k o es a.1)
      where
        by_label : Dec (label ≡ e.label) → tally k (kept_by p es) ≡ tally k es →
            tally k (kept_by p (e ∷ es)) ≡ tally k (e ∷ es)
        by_label (yes d) ih =
            let later : (l : List Entry) → tally k (e ∷ l) ≡ tally k l = λ l. tally_later k e l (λ z. o (d ∙ sym z)) in
            kept_cases (λ l. tally k l ≡ tally k (e ∷ es)) e es (λ _. ih ∙ sym (later es))
            (λ _. later (kept_by p es) ∙ ih ∙ sym (later es))
        by_label (no d) ih = ap (tally k) (first_kept e refl (a.0 d) es) ∙ rw ih

    -- as many of the label go as entries go
    pub kept_fewer : (es : List Entry) → OthersPass es →
        length (kept_by p es) + tally label es ≡ length es + tally label (kept_by p es)
    unfolding kept_by
    kept_fewer [] a = refl
    kept_fewer (e ∷ es) a = by_label (ℕ_discrete label e.label) (kept_fewer es a.1)
      where
        by_label : Dec (label ≡ e.label) →
            length (kept_by p es) + tally label es ≡ length es + tally label (kept_by p es) →
            length (kept_by p (e ∷ es)) + tally label (e ∷ es) ≡ length (e ∷ es) + tally label (kept_by p (e ∷ es))
        by_label (yes d) ih =
            let here : (l : List Entry) → tally label (e ∷ l) ≡ suc (tally label l) = λ l. tally_here label e l d in
            kept_cases (λ l. length l + tally label (e ∷ es) ≡ length (e ∷ es) + tally label l) e es
            (λ _. omega (arith, ih, here es)) (λ _. omega (arith, ih, here es, here (kept_by p es)))
        by_label (no d) ih =
            let later : (l : List Entry) → tally label (e ∷ l) ≡ tally label l = λ l. tally_later label e l d in
            rw (first_kept e refl (a.0 d) es) (omega (arith, ih, later es, later (kept_by p es)))

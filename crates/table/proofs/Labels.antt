-- Labels: which records have one, how many entries do, and what the held ones' lengths sum to. Assumes nothing.
use Rattle.std.proofs.Common.{◌≡◌, ℕ, suc, ◌+◌, ◌<◌, ◌≤◌, Bool, true, false, cond, ◌||◌, eqb, ◌≢◌, List, [], ◌∷◌, ◌++◌, map, length, sym, refl, ap, ◌∙◌, append-nil, arith, eq-eqb, ne_eqb, eqb-true}
use mathlib.Core.Bool.{false≢true}
use native.Mathlib.Decide.{ℕ_discrete}
use borrow.Author.Tests.{eqb-false}
use Rattle.config.proofs.Lists.{All, all_map}
use Rattle.config.proofs.Tests.{by_case, or_second}
use Rattle.table.specs.declared.Entry.{Entry}
use Rattle.table.specs.declared.TemplateRecord.{TemplateRecord}
use Rattle.table.specs.Table.{has_label, tally, sum_lens}
use Rattle.table.specs.Passes.{first_label, held_len}
use Rattle.table.proofs.Facts.{Differ, differ_across}
use Rattle.table.proofs.Draws.{occurs}

-- no record has the label k
abbrev pub Absent : ℕ → List TemplateRecord → Type 0
Absent k rs = All (λ u. k ≢ u.label) rs

or_right : (s t : Bool) → s || t ≡ false → t ≡ false
or_right true t e = absurd (false≢true (sym e))
or_right false t e = e

or_left : (s t : Bool) → s || t ≡ false → s ≡ false
or_left true t e = e
or_left false t e = refl

pub absent_says : (k : ℕ) (rs : List TemplateRecord) → has_label k rs ≡ false → Absent k rs
absent_says k [] e = tt
absent_says k (r ∷ rs) e = (
  eqb-false k r.label (or_left (eqb k r.label) (has_label k rs) e),
  absent_says k rs (or_right (eqb k r.label) (has_label k rs) e),
)

pub absent_holds : (k : ℕ) (rs : List TemplateRecord) → Absent k rs → has_label k rs ≡ false
absent_holds k [] a = refl
absent_holds k (r ∷ rs) a = rw (ne_eqb k r.label a.0) (absent_holds k rs a.1)

-- what holds of each record's label holds of a label that a record has
pub label_says : (P : ℕ → Type 0) (k : ℕ) (rs : List TemplateRecord) → All (λ r. P r.label) rs →
    has_label k rs ≡ true → P k
label_says P k [] a e = absurd (false≢true e)
label_says P k (r ∷ rs) a e = by_label (eqb k r.label) refl e (label_says P k rs a.1)
  where
    by_label : (t : Bool) → eqb k r.label ≡ t → t || has_label k rs ≡ true → (has_label k rs ≡ true → P k) → P k
    by_label true f g later = rw (eqb-true k r.label f) a.0
    by_label false f g later = later g

-- each record's label is a label of the records
pub own_labels : (rs : List TemplateRecord) → All (λ r. has_label r.label rs ≡ true) rs
own_labels [] = tt
own_labels (r ∷ rs) = (
  rw (eq-eqb r.label r.label refl),
  all_map (λ u. has_label u.label rs ≡ true) (λ u. has_label u.label (r ∷ rs) ≡ true)
      (λ u h. or_second (eqb u.label r.label) (has_label u.label rs) h) rs (own_labels rs),
)

-- and of no record behind them
pub labels_apart : (rs us : List TemplateRecord) → Differ (λ r. r.label) (rs ++ us) →
    All (λ r. has_label r.label us ≡ false) rs
labels_apart rs us d =
    all_map (λ r. Absent r.label us) (λ r. has_label r.label us ≡ false) (λ r a. absent_holds r.label us a) rs
    (differ_across (λ r. r.label) rs us d)

-- entries by label
pub tally_here : (k : ℕ) (e : Entry) (es : List Entry) → k ≡ e.label → tally k (e ∷ es) ≡ suc (tally k es)
tally_here k e es h = rw (eq-eqb k e.label h)

pub tally_later : (k : ℕ) (e : Entry) (es : List Entry) → (k ≡ e.label → ⊥) → tally k (e ∷ es) ≡ tally k es
tally_later k e es h = rw (ne_eqb k e.label h)

pub tally_most : (k : ℕ) (es : List Entry) → tally k es ≤ length es
tally_most k [] = omega arith
tally_most k (e ∷ es) =
    by_case (λ (n : ℕ). n ≤ suc (length es)) (eqb k e.label) (λ _. omega (arith, tally_most k es))
    (λ _. omega (arith, tally_most k es))

pub tally_append : (k : ℕ) (es fs : List Entry) → tally k (es ++ fs) ≡ tally k es + tally k fs
tally_append k [] fs = omega arith
tally_append k (e ∷ es) fs = by_label (eqb k e.label) (tally_append k es fs)
  where
    by_label : (t : Bool) → tally k (es ++ fs) ≡ tally k es + tally k fs →
        cond t (suc (tally k (es ++ fs))) (tally k (es ++ fs)) ≡ cond t (suc (tally k es)) (tally k es) + tally k fs
    by_label true h = omega arith
    by_label false h = h

-- what holds of each label that some entry has
pub each_label : (P : ℕ → Type 0) (es : List Entry) → ((k : ℕ) → 0 < tally k es → P k) → All (λ e. P e.label) es
each_label P [] f = tt
each_label P (e ∷ es) f = (
  f e.label (omega (arith, tally_here e.label e es refl)),
  each_label P es (λ k h. f k (more k h (ℕ_discrete k e.label))),
)
  where
    more : (k : ℕ) → 0 < tally k es → Dec (k ≡ e.label) → 0 < tally k (e ∷ es)
    more k h (yes d) = omega (arith, tally_here k e es d)
    more k h (no d) = omega (arith, tally_later k e es d)

-- a label of no record has no entries, where each entry has a record's
pub absent_tally : (k : ℕ) (rs : List TemplateRecord) (es : List Entry) → Absent k rs →
    All (λ e. has_label e.label rs ≡ true) es → tally k es ≡ 0
absent_tally k rs [] a h = refl
absent_tally k rs (e ∷ es) a h =
    tally_later k e es (λ d. false≢true (sym (absent_holds k rs a) ∙ ap (λ (j : ℕ). has_label j rs) d ∙ h.0))
    ∙ absent_tally k rs es a h.1

-- the labels of entries, each as often as it is counted
abbrev pub labels_of : List Entry → List ℕ
labels_of es = map (λ e. e.label) es

pub occurs_tally : (i : ℕ) (es : List Entry) → occurs i (labels_of es) ≡ tally i es
unfolding occurs
occurs_tally i [] = refl
occurs_tally i (e ∷ es) = ap (λ (n : ℕ). cond (eqb i e.label) (suc n) n) (occurs_tally i es)

-- what an entry adds to the total
module _ (out : ℕ) (e : Entry) where
  handed_adds : e.label ≡ out → 0 ≡ held_len out e
  unfolding held_len
  handed_adds h = rw (eq-eqb _ _ h)

  held_adds : (e.label ≡ out → ⊥) → e.len ≡ held_len out e
  unfolding held_len
  held_adds h = rw (ne_eqb _ _ h)

  pub adds_within : held_len out e ≤ e.len
  adds_within = by_label (ℕ_discrete e.label out)
    where
      by_label : Dec (e.label ≡ out) → held_len out e ≤ e.len
      by_label (yes h) = omega (arith, handed_adds h)
      by_label (no h) = omega (arith, held_adds h)

-- the lengths of all entries but those of the label out
unfoldable pub sum_but : ℕ → List Entry → ℕ
sum_but out [] = 0
sum_but out (e ∷ es) = held_len out e + sum_but out es

-- a held record's label is not the handed-out one
held_differs : (held : List TemplateRecord) (r : TemplateRecord) → Differ (λ r. r.label) (held ++ (r ∷ [])) →
    Absent r.label held
held_differs held r d =
    all_map (λ u. Absent u.label (r ∷ [])) (λ u. r.label ≢ u.label) (λ u a e. a.0 (sym e)) held
    (differ_across (λ u. u.label) held (r ∷ []) d)

held_had : (k : ℕ) (held : List TemplateRecord) (r : TemplateRecord) → (k ≡ r.label → ⊥) →
    has_label k (held ++ (r ∷ [])) ≡ true → has_label k held ≡ true
held_had k [] r d h = absurd (false≢true (rw (ne_eqb k r.label d) at h))
held_had k (u ∷ us) r d h = by_label (eqb k u.label) h (held_had k us r d)
  where
    by_label : (t : Bool) → t || has_label k (us ++ (r ∷ [])) ≡ true → (has_label k (us ++ (r ∷ [])) ≡ true →
        has_label k us ≡ true) → t || has_label k us ≡ true
    by_label true g later = refl
    by_label false g later = later g

-- an entry adds its length where its record is held: where its label is not the handed-out one
held_len_lem : (held handed : List TemplateRecord) (e : Entry) → length handed ≤ 1 →
    Differ (λ r. r.label) (held ++ handed) → All (λ r. r.label < 1024) (held ++ handed) →
    has_label e.label (held ++ handed) ≡ true → cond (has_label e.label held) e.len 0 ≡ held_len
    (first_label handed) e
held_len_lem held [] e single d small h = rw known (held_adds 1024 e (λ q. omega (arith, below)))
  where
    known : has_label e.label held ≡ true
    known = rw (append-nil held) at h

    below : e.label < 1024
    below = label_says (λ k. k < 1024) e.label (held ++ []) small h
held_len_lem held (r ∷ []) e single d small h = by_label (ℕ_discrete e.label r.label)
  where
    not_held : e.label ≡ r.label → has_label e.label held ≡ false
    not_held q = rw q (absent_holds r.label held (held_differs held r d))

    by_label : Dec (e.label ≡ r.label) → cond (has_label e.label held) e.len 0 ≡ held_len r.label e
    by_label (yes q) = rw (not_held q) (handed_adds r.label e q)
    by_label (no q) = rw (held_had e.label held r q h) (held_adds r.label e q)
held_len_lem held (r ∷ s ∷ rest) e single d small h = absurd (omega arith)

pub held_lens : (held handed : List TemplateRecord) (es : List Entry) → length handed ≤ 1 →
    Differ (λ r. r.label) (held ++ handed) → All (λ r. r.label < 1024) (held ++ handed) →
    All (λ e. has_label e.label (held ++ handed) ≡ true) es → sum_lens held es ≡ sum_but (first_label handed) es
unfolding sum_but
held_lens held handed [] single d small h = refl
held_lens held handed (e ∷ es) single d small h =
    omega (arith, held_len_lem held handed e single d small h.0, held_lens held handed es single d small h.1)

-- An entry more of the label that is apart, a record for that label, and entries that keep their labels: what belongs
-- together still does. Assumes nothing.
use mathlib.Core.Path.{◌≡◌, refl, sym, ap, ◌∙◌, subst}
use mathlib.Core.Logic.{◌≢◌}
use mathlib.Core.Bool.{Bool, true, false, ◌||◌}
use mathlib.Core.List.{List, [], ◌∷◌, ◌++◌}
use Prim.Native.Nat.{ℕ, suc, ◌<◌}
use native.Mathlib.Omega.{arith}
use lib.Dec.{eqb}
use lib.ListN.{length}
use borrow.Author.Tests.{eqb-true, eq-eqb}
use Rattle.config.proofs.Lists.{All, all_map, all_both, all_last}
use Rattle.config.proofs.Tests.{or_second}
use Rattle.table.specs.declared.Entry.{Entry}
use Rattle.table.specs.declared.TemplateRecord.{TemplateRecord}
use Rattle.table.specs.Table.{has_label, tally}
use Rattle.table.specs.WellFormed.{index_rises}
use Rattle.table.proofs.Facts.{Differ}
use Rattle.table.proofs.Labels.{absent_says, tally_here, tally_later, tally_append}
use Rattle.table.proofs.Labels.{labels_of, occurs_tally}
use Rattle.table.proofs.Draws.{occurs}
use Rattle.table_records.specs.Add.{inserted}
use Rattle.table_view.proofs.Tied.{Tied, TiedApart}

-- ---- a record more

pub has_last : (k : ℕ) (rs : List TemplateRecord) (r : TemplateRecord) →
    has_label k (rs ++ (r ∷ [])) ≡ has_label k rs || eqb k r.label
has_last k [] r = or_nothing (eqb k r.label)
  where
    or_nothing : (x : Bool) → x || false ≡ x
    or_nothing true = refl
    or_nothing false = refl
has_last k (u ∷ rs) r = by_label (eqb k u.label) (has_last k rs r)
  where
    by_label : (x : Bool) → has_label k (rs ++ (r ∷ [])) ≡ has_label k rs || eqb k r.label →
        x || has_label k (rs ++ (r ∷ [])) ≡ (x || has_label k rs) || eqb k r.label
    by_label true ih = refl
    by_label false ih = ih

pub differ_last : (f : TemplateRecord → ℕ) (rs : List TemplateRecord) (r : TemplateRecord) →
    All (λ u. f u ≢ f r) rs → Differ f rs → Differ f (rs ++ (r ∷ []))
differ_last f [] r a d = (tt, tt)
differ_last f (u ∷ rs) r a d =
    (all_last (λ v. f u ≢ f v) rs r d.0 a.0, differ_last f rs r a.1 d.1)

-- the record of id i for the entries of label a
abbrev pub new_record : ℕ → ℕ → List Entry → TemplateRecord
new_record i a es = record { key = i; label = a; count = tally a es }

module _ {a : ℕ} {rs : List TemplateRecord} {es : List Entry} {is : List ℕ} (h : TiedApart a rs es is) where
  -- an entry of the label that was apart has the new record
  known_last : (i : ℕ) (e : Entry) → has_label e.label rs || eqb a e.label ≡ true →
      has_label e.label (rs ++ (new_record i a es ∷ [])) ≡ true
  known_last i e known = has_last e.label rs (new_record i a es) ∙ by_label (has_label e.label rs) known
    where
      by_label : (x : Bool) → x || eqb a e.label ≡ true → x || eqb e.label a ≡ true
      by_label true k = refl
      by_label false k = eq-eqb e.label a (sym (eqb-true a e.label k))

  pub added_tied : (i : ℕ) → i < 65536 → a < 1024 → All (λ r. r.key ≢ i) rs → 0 < tally a es →
      index_rises (rs ++ (new_record i a es ∷ [])) 0 (inserted rs i (length rs) is) ≡ true →
      length (inserted rs i (length rs) is) ≡ length (rs ++ (new_record i a es ∷ [])) →
      Tied (rs ++ (new_record i a es ∷ [])) es (inserted rs i (length rs) is)
  added_tied i id small fresh some rises long =
      let r = new_record i a es in
      let apart = all_map (λ u. a ≢ u.label) (λ u. u.label ≢ a) (λ u d e. d (sym e)) rs
      (absent_says a rs h.label_apart) in
      record {
        keys_small = all_last (λ u. u.key < 65536) rs r h.keys_small id;
        labels_small = all_last (λ u. u.label < 1024) rs r h.labels_small small;
        counts_right = all_last (λ u. u.count ≡ tally u.label es) rs r h.counts_right refl;
        some_bodies = all_last (λ u. 0 < u.count) rs r h.some_bodies some;
        keys_differ = differ_last (λ u. u.key) rs r fresh h.keys_differ;
        labels_differ = differ_last (λ u. u.label) rs r apart h.labels_differ;
        labels_known = all_map _ (λ e. has_label e.label (rs ++ (r ∷ [])) ≡ true) (known_last i) es
            h.labels_known;
        index_right = rises;
        index_long = long;
      }

-- ---- an entry more

module _ {a : ℕ} {rs : List TemplateRecord} {es : List Entry} {is : List ℕ} (h : TiedApart a rs es is) (e : Entry)
    (same : e.label ≡ a) where
  pub appended_tally : tally a (es ++ (e ∷ [])) ≡ suc (tally a es)
  appended_tally = omega (arith, tally_append a es (e ∷ []), tally_here a e [] (sym same))

  pub appended_apart : a < 1024 → TiedApart a rs (es ++ (e ∷ [])) is
  appended_apart small =
      let counts : All (λ r. r.count ≡ tally r.label (es ++ (e ∷ []))) rs =
      all_both (λ r. r.count ≡ tally r.label es) (λ r. a ≢ r.label) _
      (λ r x d. omega (
        arith,
        tally_append r.label es (e ∷ []),
        tally_later r.label e [] (λ f. d (sym same ∙ sym f)),
      )) rs h.counts_right (absent_says a rs h.label_apart) in
      record {
        keys_small = h.keys_small;
        labels_small = h.labels_small;
        counts_right = counts;
        some_bodies = h.some_bodies;
        keys_differ = h.keys_differ;
        labels_differ = h.labels_differ;
        labels_known = all_last (λ x. has_label x.label rs || eqb a x.label ≡ true) es e h.labels_known
            (or_second (has_label e.label rs) (eqb a e.label) (eq-eqb a e.label (sym same)));
        entries_small = all_last (λ x. x.label < 1024) es e h.entries_small (omega (arith, same));
        label_apart = h.label_apart;
        index_right = h.index_right;
        index_long = h.index_long;
      }

-- ---- the labels alone

-- entry by entry, what is said of labels
label_list : (P : ℕ → Type 0) (es : List Entry) → All (λ e. P e.label) es → All P (labels_of es)
label_list P [] a = tt
label_list P (e ∷ es) a = (a.0, label_list P es a.1)

list_label : (P : ℕ → Type 0) (es : List Entry) → All P (labels_of es) → All (λ e. P e.label) es
list_label P [] a = tt
list_label P (e ∷ es) a = (a.0, list_label P es a.1)

module _ (es es' : List Entry) (same : labels_of es' ≡ labels_of es) where
  pub same_tally : (k : ℕ) → tally k es' ≡ tally k es
  same_tally k = sym (occurs_tally k es') ∙ ap (occurs k) same ∙ occurs_tally k es

  same_said : (P : ℕ → Type 0) → All (λ e. P e.label) es → All (λ e. P e.label) es'
  same_said P a = list_label P es' (subst (All P) (sym same) (label_list P es a))

  same_counts : (rs : List TemplateRecord) → All (λ r. r.count ≡ tally r.label es) rs →
      All (λ r. r.count ≡ tally r.label es') rs
  same_counts rs a = all_map _ (λ r. r.count ≡ tally r.label es') (λ r x. x ∙ sym (same_tally r.label)) rs a

  pub same_labels_apart : {a : ℕ} {rs : List TemplateRecord} {is : List ℕ} → TiedApart a rs es is →
      TiedApart a rs es' is
  same_labels_apart {a} {rs} h = record {
    keys_small = h.keys_small;
    labels_small = h.labels_small;
    counts_right = same_counts rs h.counts_right;
    some_bodies = h.some_bodies;
    keys_differ = h.keys_differ;
    labels_differ = h.labels_differ;
    labels_known = same_said (λ k. has_label k rs || eqb a k ≡ true) h.labels_known;
    entries_small = same_said (λ k. k < 1024) h.entries_small;
    label_apart = h.label_apart;
    index_right = h.index_right;
    index_long = h.index_long;
  }

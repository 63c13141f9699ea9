-- A sweep and a closing: the entries that stay and the records that remain belong together, but for the entries of one
-- label whose record is taken off as well. Assumes nothing.
use mathlib.Core.Path.{◌≡◌, refl, sym, ap, ◌∙◌}
use mathlib.Core.Bool.{true, false, ◌||◌, and-false}
use mathlib.Core.List.{List, [], ◌∷◌}
use Prim.Native.Nat.{ℕ, zero, suc, ◌+◌, ◌≤◌, ◌<◌}
use native.Mathlib.Omega.{arith}
use native.Mathlib.Decide.{ℕ_discrete}
use lib.Dec.{eqb}
use lib.ListN.{length, get_or, set, replicate, length-replicate, get_or-eq_default}
use lib.Seq.{set_out, get_or-set_other}
use borrow.Author.Tests.{eq-eqb, lt-ltb}
use Rattle.config.proofs.Tests.{and_both, or_first, or_second}
use Rattle.config.proofs.Lists.{All, all_both}
use Rattle.table.specs.declared.Entry.{Entry}
use Rattle.table.specs.declared.TemplateRecord.{TemplateRecord}
use Rattle.table.specs.Table.{has_label, tally}
use Rattle.table.specs.WellFormed.{index_rises}
use Rattle.table.proofs.Facts.{Placed}
use Rattle.table.proofs.Labels.{each_label, tally_most}
use Rattle.table_entries.specs.declared.StayTest.{StayTest}
use Rattle.table_entries.specs.Sums.{sum_most, summed}
use Rattle.table_entries.specs.Sweep.{swept}
use Rattle.table_entries.proofs.LabelSums.{length_summed, zeros, summed_label}
use Rattle.table_entries.proofs.Swept.{length_swept, all_swept}
use Rattle.table_records.specs.Close.{closed, positions, remapped}
use Rattle.table_records.proofs.Closed.{closed_all, closed_differ, has_closed}
use Rattle.table_view.proofs.Tied.{Tied, TiedApart, entries_small}
use Rattle.table_view.proofs.Summed.{len_most, everything, everything_counts}

-- ---- the entries by label

-- bodies that lie within so many bytes are no longer
pub placed_short : (from most n : ℕ) (es : List Entry) → most ≤ n → Placed from most es → All (λ e. e.len ≤ n) es
placed_short from most n [] h p = tt
placed_short from most n (e ∷ es) h p = (omega (arith, p.1), placed_short (e.place + e.len) most n es h p.2)

-- ---- both, with a label apart

pub none_set : (l : List ℕ) (a : ℕ) → get_or (set l a 0) a 0 ≡ 0
none_set [] a = get_or-eq_default {A = ℕ} [] 0 {n = a} (omega arith)
none_set (x ∷ l) zero = refl
none_set (x ∷ l) (suc a) = none_set l a

-- `kept` says how many entries each label has
module _ (a : ℕ) (kept : List ℕ) (es' : List Entry) {rs : List TemplateRecord} {es : List Entry} {is : List ℕ}
    (h : Tied rs es is) (known : All (λ e. has_label e.label rs ≡ true) es')
    (counted : (k : ℕ) → k < 1024 → get_or kept k 0 ≡ tally k es') where
  abbrev left : List ℕ
  left = set kept a 0

  counted_left : (k : ℕ) → k < 1024 → (k ≡ a → ⊥) → get_or left k 0 ≡ tally k es'
  counted_left k small d = get_or-set_other kept a k 0 0 d ∙ counted k small

  -- a label that is left is not the one apart
  left_other : (k : ℕ) → 0 < get_or left k 0 → k ≡ a → ⊥
  left_other k some d = omega (arith, none_set kept a, ap (λ (j : ℕ). get_or left j 0) d)

  known_left : (e : Entry) → has_label e.label rs ≡ true → (e.label < 1024) × (0 < tally e.label es') →
      has_label e.label (closed left rs) || eqb a e.label ≡ true
  known_left e here some = by_label (ℕ_discrete e.label a)
    where
      by_label : Dec (e.label ≡ a) → has_label e.label (closed left rs) || eqb a e.label ≡ true
      by_label (yes d) = or_second (has_label e.label (closed left rs)) _ (eq-eqb a e.label (sym d))
      by_label (no d) =
          or_first _ (eqb a e.label)
          (has_closed left e.label rs
          ∙ and_both (has_label e.label rs) _ here
          (lt-ltb 0 (get_or left e.label 0) (omega (arith, some.1, counted_left e.label some.0 d))))

  pub closed_apart : index_rises (closed left rs) 0 (remapped (positions left 0 rs) is) ≡ true →
      length (remapped (positions left 0 rs) is) ≡ length (closed left rs) →
      TiedApart a (closed left rs) es' (remapped (positions left 0 rs) is)
  closed_apart rises long =
      let small = entries_small rs es' h.labels_small known in
      let some = each_label (λ k. 0 < tally k es') es' (λ k x. x) in
      record {
        keys_small = closed_all left (λ r. r.key < 65536) (λ r. r.key < 65536) (λ r x _. x) rs h.keys_small;
        labels_small = closed_all left (λ r. r.label < 1024) (λ r. r.label < 1024) (λ r x _. x) rs
            h.labels_small;
        counts_right = closed_all left (λ r. r.label < 1024) (λ r. r.count ≡ tally r.label es')
            (λ r x y. counted_left r.label x (left_other r.label y)) rs h.labels_small;
        some_bodies = closed_all left (λ r. r.label < 1024) (λ r. 0 < r.count) (λ r _ y. y) rs h.labels_small;
        keys_differ = closed_differ left (λ r. r.key) (λ r. refl) rs h.keys_differ;
        labels_differ = closed_differ left (λ r. r.label) (λ r. refl) rs h.labels_differ;
        labels_known = all_both _ _ (λ e. has_label e.label (closed left rs) || eqb a e.label ≡ true) known_left
            es' known (all_both _ _ (λ e. (e.label < 1024) × (0 < tally e.label es')) (λ e x y. (x, y)) es' small
            some);
        entries_small = small;
        label_apart = has_closed left a rs ∙ rw (none_set kept a) (and-false (has_label a rs));
        index_right = rises;
        index_long = long;
      }

-- how many entries each label has; and the same with none for the label a
abbrev pub label_counts : List Entry → List ℕ
label_counts es = summed everything false zeros es

abbrev pub label_counts_but : ℕ → List Entry → List ℕ
label_counts_but a es = set (label_counts es) a 0

pub label_counts_lem : (es : List Entry) → length es ≤ sum_most → All (λ e. e.len ≤ len_most) es → (k : ℕ) → k < 1024 →
    get_or (label_counts es) k 0 ≡ tally k es
label_counts_lem es few short k small =
    omega (arith, summed_label everything false es k small, everything_counts k es short, tally_most k es)

-- 1024 is no label
pub counts_but_none : (es : List Entry) → label_counts_but 1024 es ≡ label_counts es
counts_but_none es =
    let long : length (replicate {A = ℕ} 1024 0) ≡ 1024 = length-replicate {A = ℕ} 1024 0 in
    set_out (label_counts es) 1024 0 (omega (arith, length_summed everything false zeros es))

module _ (q : StayTest) (skip : List ℕ) {rs : List TemplateRecord} {es : List Entry} {is : List ℕ}
    (h : Tied rs es is) (few : length es ≤ sum_most) (short : All (λ e. e.len ≤ len_most) es) where
  abbrev stay : List Entry
  stay = swept q skip es

  pub removed_apart : (a : ℕ) → let kept = label_counts_but a stay in
      index_rises (closed kept rs) 0 (remapped (positions kept 0 rs) is) ≡ true →
      length (remapped (positions kept 0 rs) is) ≡ length (closed kept rs) →
      TiedApart a (closed kept rs) stay (remapped (positions kept 0 rs) is)
  removed_apart a rises long =
      closed_apart a (label_counts stay) stay h
      (all_swept (λ e. has_label e.label rs ≡ true) q skip es h.labels_known)
      (label_counts_lem stay (omega (arith, length_swept q skip es))
      (all_swept (λ e. e.len ≤ len_most) q skip es short))
      rises long

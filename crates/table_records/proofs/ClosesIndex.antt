-- The pass that moves the index words of the records that remain together, turn by turn. Assumes nothing.
use mathlib.Core.Path.{◌≡◌, refl, sym, ap, ◌∙◌}
use Rattle.std.specs.Prelude.{Option, Some, None}
use mathlib.Core.Bool.{Bool, true, false, cond}
use mathlib.Core.List.{List, ◌∷◌, ◌++◌, append_assoc, append-nil}
use Prim.Native.Nat.{ℕ, ◌+◌, ◌*◌, ◌-◌, ◌≤◌, ◌<◌}
use native.Mathlib.Omega.{arith}
use native.Mathlib.Decide.{ℕ_discrete}
use lib.Dec.{ltb}
use lib.ListN.{length, get_or, set, take, drop, length-set}
use lib.Seq.{take-set-le, drop-set-lt}
use borrow.Author.Tests.{lt-ltb, le-ltb, ltb-true, ltb-false}
use Rattle.config.specs.Limits.{record_words}
use Rattle.table.specs.Layout.{word}
use Rattle.table.specs.Table.{records_from, index_from}
use Rattle.table.proofs.Words.{index_first, index_none, length_index}
use Rattle.table_records.specs.Close.{nowhere, position_told, remapped}
use Rattle.table_records.specs.Passes.{ClosesIndex}
use Rattle.table_records.proofs.Frames.{word_other, word_same, records_same, index_same, index_one_more}

-- words stay below a bound that what is stored is below
pub below_stored : (w : List ℕ) (i a most : ℕ) → i < length w → a < most → ((j : ℕ) → word w j < most) →
    (j : ℕ) → word (set w i a) j < most
below_stored w i a most room few below j = by_place (ℕ_discrete j i)
  where
    by_place : Dec (j ≡ i) → word (set w i a) j < most
    by_place (yes e) = rw (e, word_same w i a room) few
    by_place (no d) = rw (word_other w i j a d) (below j)

-- a number that tells a position is that position, and one that tells none is past the last
pub told_some : (n i : ℕ) {moved : Option ℕ} → moved ≡ position_told n → moved ≡ Some i → (i ≡ n) × (i < nowhere)
told_some n i told some = by_test (ltb n nowhere) refl (sym some ∙ told)
  where
    by_test : (t : Bool) → ltb n nowhere ≡ t → Some i ≡ cond t (Some n) None → (i ≡ n) × (i < nowhere)
    by_test true e h = let same : i ≡ n = cc in (same, omega (arith, same, ltb-true n nowhere e))
    by_test false e h = absurd cc

pub told_none : (n : ℕ) {moved : Option ℕ} → moved ≡ position_told n → moved ≡ None → nowhere ≤ n
told_none n told none = by_test (ltb n nowhere) refl (sym none ∙ told)
  where
    by_test : (t : Bool) → ltb n nowhere ≡ t → None ≡ cond t (Some n) None → nowhere ≤ n
    by_test true e h = absurd cc
    by_test false e h = ltb-false n nowhere e

-- `remain` index words remain of those passed, and `left` index words are left, from word p on
pub record Remapping (from records : ℕ) (ps w₀ w : List ℕ) (remain left p : ℕ) : Type 0 where
  pub reached : p + record_words * left ≡ from + record_words * records
  pub few : remain + left ≤ records
  pub same_length : length w ≡ length w₀
  -- what remains of those passed, and then of those left
  pub kept_index : index_from w from remain ++ remapped ps (index_from w p left)
      ≡ remapped ps (index_from w₀ from records)
  pub same : (j : ℕ) → records_from w from j ≡ records_from w₀ from j
  pub head : take from w ≡ take from w₀
  pub tail : drop (from + record_words * records) w ≡ drop (from + record_words * records) w₀

pub none_remapped : (from records : ℕ) (ps w : List ℕ) {left p : ℕ} → left ≡ records → p ≡ from →
    Remapping from records ps w w 0 left p
unfolding index_from
none_remapped from records ps w all at = rw (all, at) record {
  reached = refl;
  few = omega arith;
  same_length = refl;
  kept_index = refl;
  same = λ j. refl;
  head = refl;
  tail = refl;
}

module _ {from records : ℕ} {ps w₀ w : List ℕ} {remain left p : ℕ}
    (inv : Remapping from records ps w₀ w remain left p) where
  pub all_remapped : left ≤ 0 → ClosesIndex from records ps w₀ w
  unfolding remapped
  all_remapped h =
      let e : index_from w from remain ≡ remapped ps (index_from w₀ from records) =
      sym (append-nil (index_from w from remain)) ∙ (rw (index_none w p left h) at inv.kept_index) in
      let n : length (remapped ps (index_from w₀ from records)) ≡ remain =
      ap length (sym e) ∙ length_index w from remain in
      record {
        index = ap (index_from w from) n ∙ e;
        same = inv.same;
        head = inv.head;
        tail = inv.tail;
      }

  module _ (i : ℕ) (more : 0 < left) (is : i ≡ get_or ps (word w (p + 3)) nowhere) {left' p' : ℕ}
      (less : left' ≡ left - 1) (next : p' ≡ p + record_words) where
    abbrev rest : List ℕ
    rest = index_from w (p + record_words) (left - 1)

    pub index_dropped : nowhere ≤ i → Remapping from records ps w₀ w remain left' p'
    unfolding remapped
    index_dropped h = rw (less, next) record {
      reached = omega (arith, inv.reached);
      few = omega (arith, inv.few);
      same_length = inv.same_length;
      kept_index =
          let e : remapped ps (index_from w p left) ≡ remapped ps rest =
          rw (index_first w p left more, ← is, le-ltb i nowhere h) in
          rw (← e) inv.kept_index;
      same = inv.same;
      head = inv.head;
      tail = inv.tail;
    }

    module _ (room : from + record_words * records ≤ length w₀) (h : i < nowhere) where
      abbrev q : ℕ
      q = from + record_words * remain + 3

      abbrev w' : List ℕ
      w' = set w q i

      kept_next : index_from w' from (remain + 1) ++ remapped ps (index_from w' (p + record_words) (left - 1))
          ≡ remapped ps (index_from w₀ from records)
      unfolding remapped
      kept_next =
          let e : remapped ps (index_from w p left) ≡ i ∷ remapped ps rest =
          rw (index_first w p left more, ← is, lt-ltb i nowhere h) in
          let before : index_from w' from remain ≡ index_from w from remain =
          index_same w' w from remain (λ j k u v. word_other w q k i (λ z. omega arith)) in
          let here : word w' q ≡ i =
          word_same w q i (omega (arith, inv.few, inv.same_length)) in
          let after : index_from w' (p + record_words) (left - 1) ≡ rest =
          index_same w' w (p + record_words) (left - 1)
          (λ j k u v. word_other w q k i (λ z. omega (arith, inv.few, inv.reached))) in
          rw (index_one_more w' from remain, before, here, after, append_assoc, ← e) inv.kept_index

      pub index_moved : Remapping from records ps w₀ w' (remain + 1) left' p'
      index_moved = rw (less, next) record {
        reached = omega (arith, inv.reached);
        few = omega (arith, inv.few);
        same_length = length-set w q i ∙ inv.same_length;
        kept_index = kept_next;
        same = λ j.
            records_same w' w from j (λ a k u v z. word_other w q k i (λ e. omega arith)) ∙ inv.same j;
        head = take-set-le from w q i (omega arith) ∙ inv.head;
        tail = drop-set-lt (from + record_words * records) w q i (omega (arith, inv.few)) ∙ inv.tail;
      }

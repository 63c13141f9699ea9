-- The pass that opens the index for a key, turn by turn. Assumes nothing.
use mathlib.Core.Path.{◌≡◌, refl, sym, ap, ◌∙◌}
use mathlib.Core.Bool.{true}
use mathlib.Core.List.{List, [], ◌∷◌, ◌++◌, append_assoc, append-nil}
use Prim.Native.Nat.{ℕ, ◌+◌, ◌*◌, ◌-◌, ◌≤◌, ◌<◌}
use native.Mathlib.Omega.{arith}
use native.Mathlib.Decide.{ℕ_discrete}
use lib.ListN.{length, set, take, drop, length-set}
use lib.Seq.{take-set-le, drop-set-lt}
use Rattle.config.specs.Limits.{record_words}
use Rattle.table.specs.declared.TemplateRecord.{TemplateRecord}
use Rattle.table.specs.Layout.{word}
use Rattle.table.specs.Table.{records_from, index_from}
use Rattle.table.specs.WellFormed.{key_at, index_rises}
use Rattle.table.proofs.Words.{index_first, index_none}
use Rattle.table_records.specs.Add.{inserted}
use Rattle.table_records.specs.Passes.{OpensIndex}
use Rattle.table_records.proofs.Frames.{word_other, word_same, records_same, index_shifted, index_add}
use Rattle.table_records.proofs.Frames.{index_one_more}
use Rattle.table_records.proofs.Inserted.{insert_before, insert_behind}

-- the index words from place `free` on have moved one place on: their keys are greater
pub record Opening (from records key : ℕ) (w₀ w : List ℕ) (free : ℕ) : Type 0 where
  pub few : free ≤ records
  pub same_length : length w ≡ length w₀
  pub front : (i : ℕ) → i < free → word w (from + record_words * i + 3) ≡ word w₀ (from + record_words * i + 3)
  pub back : (i : ℕ) → free ≤ i → i < records →
      word w (from + record_words * (i + 1) + 3) ≡ word w₀ (from + record_words * i + 3)
  pub order : inserted (records_from w₀ from records) key records (index_from w₀ from free)
      ++ index_from w₀ (from + record_words * free) (records - free)
      ≡ inserted (records_from w₀ from records) key records (index_from w₀ from records)
  pub same : records_from w from records ≡ records_from w₀ from records
  pub head : take from w ≡ take from w₀
  pub tail : drop (from + record_words * (records + 1)) w ≡ drop (from + record_words * (records + 1)) w₀

module _ (from records key : ℕ) (w : List ℕ) where
  pub none_opened : Opening from records key w w records
  none_opened = record {
    few = omega arith;
    same_length = refl;
    front = λ i h. refl;
    back = λ i h k. absurd (omega arith);
    order =
        let none : index_from w (from + record_words * records) (records - records) ≡ [] =
        index_none w (from + record_words * records) (records - records) (omega arith) in
        rw none (append-nil (inserted (records_from w from records) key records (index_from w from records)));
    same = refl;
    head = refl;
    tail = refl;
  }

module _ {from records key : ℕ} {w₀ w : List ℕ} {free : ℕ} (inv : Opening from records key w₀ w free) where
  abbrev rs : List TemplateRecord
  rs = records_from w₀ from records

  -- those moved
  abbrev moved : List ℕ
  moved = index_from w₀ (from + record_words * free) (records - free)

  now_front : index_from w from free ≡ index_from w₀ from free
  now_front = index_shifted w w₀ from from free inv.front

  now_back : index_from w (from + record_words * (free + 1)) (records - free) ≡ moved
  now_back =
      index_shifted w w₀ (from + record_words * (free + 1)) (from + record_words * free) (records - free)
      (λ i h. let e : from + record_words * (free + i + 1) + 3
      ≡ from + record_words * (free + 1) + record_words * i + 3 = omega arith in
      let f : from + record_words * (free + i) + 3 ≡ from + record_words * free + record_words * i + 3 = omega arith in
      ap (word w) (sym e) ∙ inv.back (free + i) (omega arith) (omega arith) ∙ ap (word w₀) f)

  -- the place is right where those before it are as they were and it goes behind them
  opened : inserted rs key records (index_from w₀ from free) ≡ index_from w₀ from free ++ (records ∷ []) →
      OpensIndex from records key w₀ w free
  opened e = record {
    few = inv.few;
    index =
        rw (now_front, now_back)
        (sym (append_assoc (index_from w₀ from free) (records ∷ []) moved)
        ∙ ap (λ (l : List ℕ). l ++ moved) (sym e)
        ∙ inv.order);
    same = inv.same;
    head = inv.head;
    tail = inv.tail;
  }

  pub all_greater : free ≤ 0 → OpensIndex from records key w₀ w free
  unfolding inserted
  all_greater h = opened (rw (index_none w₀ from free h))

  -- the last position before the place
  abbrev i : ℕ
  i = word w (from + record_words * (free - 1) + 3)

  module _ (n : ℕ) (some : 0 < free) (at : n ≡ key_at (records_from w from records) i) where
    abbrev before : List ℕ
    before = index_from w₀ from (free - 1)

    same_word : word w₀ (from + record_words * (free - 1) + 3) ≡ i
    same_word = sym (inv.front (free - 1) (omega arith))

    same_key : key_at rs i ≡ n
    same_key = sym (at ∙ ap (λ (l : List TemplateRecord). key_at l i) inv.same)

    front_ends : index_from w₀ from free ≡ before ++ (i ∷ [])
    front_ends =
        let e : free ≡ free - 1 + 1 = omega arith in
        ap (index_from w₀ from) e ∙ index_one_more w₀ from (free - 1)
        ∙ ap (λ (j : ℕ). before ++ (j ∷ [])) same_word

    back_starts : index_from w₀ (from + record_words * (free - 1)) (records - (free - 1)) ≡ i ∷ moved
    back_starts =
        let e : from + record_words * (free - 1) + record_words ≡ from + record_words * free = omega arith in
        let f : records - (free - 1) - 1 ≡ records - free = omega arith in
        index_first w₀ (from + record_words * (free - 1)) (records - (free - 1)) (omega (arith, inv.few))
        ∙ rw (same_word, e, f)

    pub not_greater : index_rises (records_from w₀ from records) 0 (index_from w₀ from records) ≡ true → n ≤ key →
        OpensIndex from records key w₀ w free
    not_greater rises h =
        let e : records ≡ free - 1 + (records - (free - 1)) = omega (arith, inv.few) in
        let whole : index_from w₀ from records ≡ before ++ (i ∷ moved) =
        ap (index_from w₀ from) e ∙ index_add w₀ from (free - 1) (records - (free - 1))
        ∙ ap (λ (l : List ℕ). before ++ l) back_starts in
        opened (rw front_ends
        (insert_behind rs key records 0 before i moved (rw whole at rises) (omega (arith, same_key))
        ∙ sym (append_assoc before (i ∷ []) (records ∷ []))))

    module _ (room : from + record_words * (records + 1) ≤ length w₀) (h : key < n) where
      abbrev q : ℕ
      q = from + record_words * (free - 1) + record_words + 3

      abbrev w' : List ℕ
      w' = set w q i

      back_next : (j : ℕ) → free - 1 ≤ j → j < records →
          word w' (from + record_words * (j + 1) + 3) ≡ word w₀ (from + record_words * j + 3)
      back_next j a b = by_place (ℕ_discrete j (free - 1))
        where
          by_place : Dec (j ≡ free - 1) →
              word w' (from + record_words * (j + 1) + 3) ≡ word w₀ (from + record_words * j + 3)
          by_place (yes e) =
              let f : from + record_words * (j + 1) + 3 ≡ q = omega arith in
              ap (word w') f ∙ word_same w q i (omega (arith, inv.few, inv.same_length)) ∙ sym same_word
              ∙ ap (λ (m : ℕ). word w₀ (from + record_words * m + 3)) (sym e)
          by_place (no d) =
              word_other w q (from + record_words * (j + 1) + 3) i (λ e. d (omega arith))
              ∙ inv.back j (omega (arith, d)) b

      pub key_moved : Opening from records key w₀ w' (free - 1)
      key_moved = record {
        few = omega (arith, inv.few);
        same_length = length-set w q i ∙ inv.same_length;
        front = λ j a. word_other w q (from + record_words * j + 3) i (λ e. omega arith) ∙ inv.front j (omega arith);
        back = back_next;
        order =
            rw back_starts
            (sym (append_assoc (inserted rs key records before) (i ∷ []) moved)
            ∙ ap (λ (l : List ℕ). l ++ moved)
            (sym (insert_before rs key records before i (omega (arith, same_key)))
            ∙ ap (inserted rs key records) (sym front_ends))
            ∙ inv.order);
        same = records_same w' w from records (λ a k u v z. word_other w q k i (λ e. omega arith)) ∙ inv.same;
        head = take-set-le from w q i (omega arith) ∙ inv.head;
        tail = drop-set-lt (from + record_words * (records + 1)) w q i (omega (arith, inv.few)) ∙ inv.tail;
      }

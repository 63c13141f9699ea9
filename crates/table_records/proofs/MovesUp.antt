-- The pass that moves the records behind a place up by one, turn by turn. Assumes nothing.
use mathlib.Core.Path.{◌≡◌, refl, sym, ap, ◌∙◌}
use mathlib.Core.List.{List, ◌∷◌, ◌++◌, append_assoc, append-nil}
use Prim.Native.Nat.{ℕ, ◌+◌, ◌*◌, ◌-◌, ◌≤◌, ◌<◌}
use native.Mathlib.Omega.{arith}
use lib.ListN.{length, take, drop}
use Rattle.config.specs.Limits.{record_words}
use Rattle.table.specs.declared.TemplateRecord.{TemplateRecord}
use Rattle.table.specs.Layout.{word}
use Rattle.table.specs.Table.{record_at, records_from}
use Rattle.table.proofs.Words.{records_first, records_none}
use Rattle.table_records.specs.Close.{put_record}
use Rattle.table_records.specs.Passes.{MovesUp}
use Rattle.table_records.proofs.Frames.{records_below, records_above, records_one_more, length_put, take_put}
use Rattle.table_records.proofs.Frames.{drop_put, word_put, record_put}

-- the records before a place, and those behind it
abbrev pub apart_from : List ℕ → (from records at : ℕ) → List TemplateRecord
apart_from w from records at =
    records_from w from at ++ records_from w (from + record_words * (at + 1)) (records - 1 - at)

-- `remain` records stand where they are to stand, and `left` are to move up
pub record MovingUp (from records at : ℕ) (w₀ w : List ℕ) (remain left : ℕ) : Type 0 where
  pub counted : remain + left + 1 ≡ records
  pub same_length : length w ≡ length w₀
  -- those that stand, and then those that are to move
  pub moved : records_from w from remain ++ records_from w (from + record_words * (remain + 1)) left
      ≡ apart_from w₀ from records at
  pub same : (i : ℕ) → word w (from + record_words * i + 3) ≡ word w₀ (from + record_words * i + 3)
  pub head : take from w ≡ take from w₀
  pub tail : drop (from + record_words * records) w ≡ drop (from + record_words * records) w₀

pub none_moved : (from records at : ℕ) (w : List ℕ) → at < records →
    MovingUp from records at w w at (records - 1 - at)
none_moved from records at w h = record {
  counted = omega arith;
  same_length = refl;
  moved = refl;
  same = λ i. refl;
  head = refl;
  tail = refl;
}

module _ {from records at : ℕ} {w₀ w : List ℕ} {remain left : ℕ} (inv : MovingUp from records at w₀ w remain left)
  where
    pub all_moved : left ≤ 0 → MovesUp from records at w₀ w
    all_moved h =
        let z : records - 1 ≡ remain = omega (arith, inv.counted) in
        record {
          records = ap (records_from w from) z
              ∙ sym (append-nil (records_from w from remain))
              ∙ (rw (records_none w (from + record_words * (remain + 1)) left h) at inv.moved);
          same = inv.same;
          head = inv.head;
          tail = inv.tail;
        }

    module _ (r : TemplateRecord) (more : 0 < left) (is : r ≡ record_at w (from + record_words * remain + record_words))
        (room : from + record_words * records ≤ length w₀) where
      abbrev q : ℕ
      q = from + record_words * remain

      abbrev w' : List ℕ
      w' = put_record w q r

      abbrev rest : List TemplateRecord
      rest = records_from w (from + record_words * (remain + 1 + 1)) (left - 1)

      first : records_from w (from + record_words * (remain + 1)) left ≡ r ∷ rest
      first =
          let z : from + record_words * (remain + 1) ≡ q + record_words = omega arith in
          let e : q + record_words + record_words ≡ from + record_words * (remain + 1 + 1) = omega arith in
          rw (z, ← e) (records_first w (q + record_words) left more r is)

      moved_next : records_from w' from (remain + 1)
          ++ records_from w' (from + record_words * (remain + 1 + 1)) (left - 1)
          ≡ apart_from w₀ from records at
      moved_next =
          let before : records_from w' from remain ≡ records_from w from remain =
          records_below w' w from remain q (omega arith) (take_put w q r q (omega arith)) in
          let here : record_at w' q ≡ r = record_put w q r (omega (arith, inv.counted, inv.same_length)) in
          let after : records_from w' (from + record_words * (remain + 1 + 1)) (left - 1) ≡ rest =
          records_above w' w (from + record_words * (remain + 1 + 1)) (left - 1)
          (from + record_words * (remain + 1 + 1)) (omega arith)
          (drop_put w q r (from + record_words * (remain + 1 + 1)) (omega arith)) in
          rw (records_one_more w' from remain, before, here, after, append_assoc, ← first) inv.moved

      next : MovingUp from records at w₀ w' (remain + 1) (left - 1)
      next = record {
        counted = omega (arith, inv.counted);
        same_length = length_put w q r ∙ inv.same_length;
        moved = moved_next;
        same = λ i.
            word_put w q r (from + record_words * i + 3) (λ e. omega arith) (λ e. omega arith) (λ e. omega arith)
            ∙ inv.same i;
        head = take_put w q r from (omega arith) ∙ inv.head;
        tail = drop_put w q r (from + record_words * records) (omega (arith, inv.counted)) ∙ inv.tail;
      }

      pub one_moved_lem : (w'' : List ℕ) {left' : ℕ} → w'' ≡ w' → left' ≡ left - 1 →
          MovingUp from records at w₀ w'' (remain + 1) left'
      one_moved_lem w'' stored less = rw (stored, less) next

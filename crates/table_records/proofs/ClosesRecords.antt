-- The pass that moves the records that remain together, turn by turn. Assumes nothing.
use mathlib.Core.Path.{◌≡◌, refl, sym, ap, ◌∙◌}
use mathlib.Core.Bool.{true, false}
use mathlib.Core.List.{List, [], ◌∷◌, ◌++◌, append_assoc, append-nil}
use Prim.Native.Nat.{ℕ, ◌+◌, ◌*◌, ◌-◌, ◌≤◌, ◌<◌}
use native.Mathlib.Numerals.{add-one}
use native.Mathlib.Omega.{arith}
use lib.ListN.{length, get_or, set, take, drop, length-set}
use lib.Seq.{take-suc-set}
use borrow.Author.Tests.{lt-ltb, le-ltb}
use Rattle.config.specs.Limits.{record_words}
use Rattle.table.specs.declared.TemplateRecord.{TemplateRecord}
use Rattle.table.specs.Layout.{word}
use Rattle.table.specs.Table.{record_at, records_from}
use Rattle.table.proofs.Words.{records_first, records_none}
use Rattle.table_records.specs.Close.{put_record, remains, closed, nowhere, positions}
use Rattle.table_records.specs.Passes.{ClosesRecords}
use Rattle.table_records.proofs.Frames.{records_below, records_above, records_one_more, length_put, take_put}
use Rattle.table_records.proofs.Frames.{drop_put, word_put, record_put}

-- one record, by the bodies that its label has left
module _ (kept : List ℕ) (at : ℕ) (r : TemplateRecord) (rs : List TemplateRecord) (n : ℕ) (is : n ≡ get_or kept
    r.label 0) where
  record_remains : 0 < n → remains kept r ≡ true
  record_remains h = lt-ltb 0 (get_or kept r.label 0) (omega arith)

  record_goes : n ≤ 0 → remains kept r ≡ false
  record_goes h = le-ltb 0 (get_or kept r.label 0) (omega arith)

  closed_remains : 0 < n → closed kept (r ∷ rs)
      ≡ record { key = r.key; label = r.label; count = n } ∷ closed kept rs
  unfolding closed
  closed_remains h = rw (record_remains h, is)

  closed_goes : n ≤ 0 → closed kept (r ∷ rs) ≡ closed kept rs
  unfolding closed
  closed_goes h = rw (record_goes h)

  position_remains : 0 < n → positions kept at (r ∷ rs) ≡ at ∷ positions kept (at + 1) rs
  unfolding positions
  position_remains h = rw (record_remains h)

  position_goes : n ≤ 0 → positions kept at (r ∷ rs) ≡ nowhere ∷ positions kept at rs
  unfolding positions
  position_goes h = rw (record_goes h)

-- `remain` of `passed` records remain, and `left` records are left, from word p on
pub record Closing (from records : ℕ) (kept w₀ ps₀ w ps : List ℕ) (remain passed left p : ℕ) : Type 0 where
  pub reached : p + record_words * left ≡ from + record_words * records
  pub counted : passed + left ≡ records
  pub few : remain ≤ passed
  pub same_length : length w ≡ length w₀
  pub same_places : length ps ≡ length ps₀
  pub places_fit : records ≤ length ps₀
  -- what remains of those passed, and then of those left
  pub kept_records : records_from w from remain ++ closed kept (records_from w p left)
      ≡ closed kept (records_from w₀ from records)
  pub noted : take passed ps ++ positions kept remain (records_from w p left)
      ≡ positions kept 0 (records_from w₀ from records)
  pub same : (i : ℕ) → word w (from + record_words * i + 3) ≡ word w₀ (from + record_words * i + 3)
  pub head : take from w ≡ take from w₀
  pub tail : drop (from + record_words * records) w ≡ drop (from + record_words * records) w₀

pub none_closed : (from records : ℕ) (kept w ps : List ℕ) {left p : ℕ} → records ≤ length ps → left ≡ records →
    p ≡ from → Closing from records kept w ps w ps 0 0 left p
unfolding records_from
none_closed from records kept w ps h all at = rw (all, at) record {
  reached = refl;
  counted = omega arith;
  few = omega arith;
  same_length = refl;
  same_places = refl;
  places_fit = h;
  kept_records = refl;
  noted = refl;
  same = λ i. refl;
  head = refl;
  tail = refl;
}

module _ {from records : ℕ} {kept w₀ ps₀ w ps : List ℕ} {remain passed left p : ℕ}
    (inv : Closing from records kept w₀ ps₀ w ps remain passed left p) where
  pub all_closed : left ≤ 0 → ClosesRecords from records kept w₀ w ps remain
  unfolding closed positions
  all_closed h =
      let z : passed ≡ records = omega (arith, inv.counted) in
      record {
        few = omega (arith, inv.few);
        records = sym (append-nil (records_from w from remain)) ∙ (rw (records_none w p left h) at inv.kept_records);
        noted = sym (append-nil (take records ps)) ∙ (rw (records_none w p left h, z) at inv.noted);
        same = inv.same;
        head = inv.head;
        tail = inv.tail;
      }

  module _ (r : TemplateRecord) (n : ℕ) (more : 0 < left) (is : r ≡ record_at w p) (count : n ≡ get_or kept r.label 0)
      {left' p' : ℕ} (less : left' ≡ left - 1) (next : p' ≡ p + record_words)
    where
      abbrev rest : List TemplateRecord
      rest = records_from w (p + record_words) (left - 1)

      first : records_from w p left ≡ r ∷ rest
      first = records_first w p left more r is

      noted_next : (at : ℕ) → take (passed + 1) (set ps passed at) ≡ take passed ps ++ (at ∷ [])
      noted_next at =
          rw (
            add-one,
            take-suc-set ps passed at (omega (arith, inv.places_fit, inv.same_places, inv.counted)),
          )

      pub record_closed : n ≤ 0 →
          Closing from records kept w₀ ps₀ w (set ps passed nowhere) remain (passed + 1) left' p'
      record_closed z = rw (less, next) record {
        reached = omega (arith, inv.reached);
        counted = omega (arith, inv.counted);
        few = omega (arith, inv.few);
        same_length = inv.same_length;
        same_places = length-set ps passed nowhere ∙ inv.same_places;
        places_fit = inv.places_fit;
        kept_records =
            let e : closed kept (records_from w p left) ≡ closed kept rest =
            ap (closed kept) first ∙ closed_goes kept remain r rest n count z in
            rw (← e) inv.kept_records;
        noted =
            let e : positions kept remain (records_from w p left) ≡ nowhere ∷ positions kept remain rest =
            ap (positions kept remain) first ∙ position_goes kept remain r rest n count z in
            rw (noted_next nowhere, append_assoc, ← e) inv.noted;
        same = inv.same;
        head = inv.head;
        tail = inv.tail;
      }

      module _ (u : TemplateRecord) (made : u ≡ record { key = r.key; label = r.label; count = n })
          (room : from + record_words * records ≤ length w₀) (z : 0 < n) where
        abbrev q : ℕ
        q = from + record_words * remain

        abbrev w' : List ℕ
        w' = put_record w q u

        same_rest : records_from w' (p + record_words) (left - 1) ≡ rest
        same_rest =
            records_above w' w (p + record_words) (left - 1) (p + record_words) (omega arith)
            (drop_put w q u (p + record_words)
            (omega (arith, inv.reached, inv.few, inv.counted)))

        kept_next : records_from w' from (remain + 1) ++ closed kept (records_from w' (p + record_words) (left - 1))
            ≡ closed kept (records_from w₀ from records)
        kept_next =
            let e : closed kept (records_from w p left) ≡ u ∷ closed kept rest =
            ap (closed kept) first ∙ closed_remains kept remain r rest n count z
            ∙ ap (λ (v : TemplateRecord). v ∷ closed kept rest) (sym made) in
            let before : records_from w' from remain ≡ records_from w from remain =
            records_below w' w from remain q (omega arith) (take_put w q u q (omega arith)) in
            let here : record_at w' q ≡ u =
            record_put w q u
            (omega (arith, inv.reached, inv.few, inv.counted, inv.same_length)) in
            rw (records_one_more w' from remain, before, here, same_rest, append_assoc, ← e)
            inv.kept_records

        pub record_moved : Closing from records kept w₀ ps₀ w' (set ps passed remain) (remain + 1) (passed + 1) left' p'
        record_moved = rw (less, next) record {
          reached = omega (arith, inv.reached);
          counted = omega (arith, inv.counted);
          few = omega (arith, inv.few);
          same_length = length_put w q u ∙ inv.same_length;
          same_places = length-set ps passed remain ∙ inv.same_places;
          places_fit = inv.places_fit;
          kept_records = kept_next;
          noted =
              let e : positions kept remain (records_from w p left) ≡ remain ∷ positions kept (remain + 1) rest =
              ap (positions kept remain) first ∙ position_remains kept remain r rest n count z in
              rw (noted_next remain, same_rest, append_assoc, ← e) inv.noted;
          same = λ i.
              word_put w q u (from + record_words * i + 3) (λ e. omega arith)
              (λ e. omega arith)
              (λ e. omega arith)
              ∙ inv.same i;
          head = take_put w q u from (omega arith) ∙ inv.head;
          tail =
              drop_put w q u (from + record_words * records)
              (omega (arith, inv.reached, inv.few, inv.counted))
              ∙ inv.tail;
        }

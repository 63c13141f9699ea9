-- A removal from its steps: the sweep, the counts by label, the closing. Assumes nothing.
use mathlib.Core.Path.{◌≡◌, refl, ap, ◌∙◌}
use mathlib.Core.List.{List}
use Prim.Native.Nat.{ℕ, ◌+◌, ◌*◌, ◌%◌, ◌^◌, ◌≤◌}
use native.Mathlib.Omega.{arith}
use lib.ListN.{length, get_or, set}
use Rattle.config.specs.Limits.{record_words, entry_words}
use Rattle.areas.proofs.Puts.{take_less, drop_more}
use Rattle.table.specs.declared.Entry.{Entry}
use Rattle.table.specs.Layout.{entries_at}
use Rattle.table.specs.Table.{entries_from, records_from, index_from}
use Rattle.table_entries.specs.declared.StayTest.{StayTest}
use Rattle.table_entries.specs.declared.sweeps.Kept.{Kept}
use Rattle.table_entries.specs.Sums.{lens_sum}
use Rattle.table_entries.specs.Sweep.{swept, KeepsOnly}
use Rattle.table_entries.proofs.Frames.{entries_below}
use Rattle.table_records.specs.Close.{Closes}
use Rattle.table_records.proofs.Frames.{records_above, index_above}
use Rattle.pending_calls.specs.declared.removal.Removed.{Removed}
use Rattle.pending_calls.specs.Removal.{counted, counted_but, ClosesApart, RemovesTo, Removes}

module _ (q : StayTest) (p k m apart : ℕ) (skip w w₁ w' kept : List ℕ) (left : Kept) (r : Removed) where
  -- the entries that are left may be any list whose lengths add up to the same
  pub removal_to : (after : List Entry) → (entries_at + entry_words * m ≤ p) × (p + record_words * k ≤ length w) →
      KeepsOnly after m w w₁ left → lens_sum after ≡ lens_sum (swept q skip (entries_from w entries_at m)) →
      kept ≡ counted (swept q skip (entries_from w entries_at m)) →
      ClosesApart p k apart left kept w₁ w' r → length w' ≡ length w → RemovesTo after q p k m apart skip w w' r
  removal_to after room s lens counts c long =
      let x = c.closes in
      let rs : records_from w₁ p k ≡ records_from w p k =
      records_above w₁ w p k (entries_at + entry_words * m) room.0 s.tail in
      let is : index_from w₁ p k ≡ index_from w p k =
      index_above w₁ w p k (entries_at + entry_words * m) room.0 s.tail in
      let but : set kept apart 0 ≡ counted_but apart (swept q skip (entries_from w entries_at m)) =
      ap (λ (l : List ℕ). set l apart 0) counts in
      record {
        few_entries = omega (arith, s.few, c.entries);
        few_records = x.few;
        entries = ap (entries_from w' entries_at) c.entries
            ∙ entries_below w' w₁ entries_at left.entries p (omega (arith, s.few, room.0)) x.head
            ∙ s.entries;
        bytes = c.bytes ∙ s.bytes ∙ ap (λ (n : ℕ). n % 2 ^ 64) lens;
        bodies_apart = c.bodies_apart ∙ ap (λ (l : List ℕ). get_or l apart 0) counts;
        records = x.records ∙ rw (rs, but);
        index = rw (← rs, ← is, ← but) x.index;
        head = take_less entries_at p w' w₁ (omega (arith, room.0)) x.head ∙ s.head;
        tail = x.tail ∙ drop_more (p + record_words * k) (entries_at + entry_words * m) w₁ w
            (omega (arith, room.0)) s.tail;
        long = long;
      }

  pub removal_done : (entries_at + entry_words * m ≤ p) × (p + record_words * k ≤ length w) →
      KeepsOnly (swept q skip (entries_from w entries_at m)) m w w₁ left →
      kept ≡ counted (swept q skip (entries_from w entries_at m)) →
      ClosesApart p k apart left kept w₁ w' r → length w' ≡ length w → Removes q p k m apart skip w w' r
  removal_done room s counts c long = removal_to (swept q skip (entries_from w entries_at m)) room s refl counts c long

-- the counts of what a sweep left
pub swept_counted : {es : List Entry} {m : ℕ} {w w₁ : List ℕ} {left : Kept} {kept : List ℕ} →
    KeepsOnly es m w w₁ left → kept ≡ counted (entries_from w₁ entries_at left.entries) → kept ≡ counted es
swept_counted s is = is ∙ ap counted s.entries

-- the records closed, with none kept for the label apart
pub closed_apart : (p k apart : ℕ) (left : Kept) (kept w w' : List ℕ) {kept' : List ℕ} {remain bodies : ℕ} →
    bodies ≡ get_or kept apart 0 → kept' ≡ set kept apart 0 → Closes p k kept' w w' remain →
    ClosesApart p k apart left kept w w' (record {
      entries = left.entries;
      bytes = left.bytes;
      records = remain;
      apart = bodies;
    })
closed_apart p k apart left kept w w' read none x =
    record { entries = refl; bytes = refl; bodies_apart = read; closes = rw none at x }

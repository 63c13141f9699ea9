-- The removal of one template that packs in the same pass: what it leaves is what a removal alone leaves, packed.
-- Assumes nothing.
use Rattle.std.proofs.Common.{Some}
use mathlib.Core.Path.{◌≡◌, sym, ap, ◌∙◌}
use mathlib.Core.Bool.{true}
use mathlib.Core.List.{List}
use Prim.Native.Nat.{ℕ, ◌+◌, ◌*◌, ◌^◌, ◌≤◌, ◌<◌}
use native.Mathlib.Nat.{mod-eq_of_lt}
use native.Mathlib.Omega.{arith}
use lib.ListN.{length, set, replicate}
use Rattle.config.specs.Limits.{record_words, entry_words}
use Rattle.table.specs.declared.Entry.{Entry}
use Rattle.table.specs.Layout.{limits_of, held_count, entry_count, chance_count, entries_at, records_at}
use Rattle.table.specs.Table.{entries_from, records_from, index_from}
use Rattle.table.specs.WellFormed.{well_formed, places_legal}
use Rattle.table.proofs.Words.{length_entries}
use Rattle.table.proofs.Facts.{Placed, LegalWords, words_say, places_hold}
use Rattle.table_entries.specs.declared.StayTest.{StayTest}
use Rattle.table_entries.specs.declared.sweeps.Kept.{Kept}
use Rattle.table_entries.specs.Stays.{stays}
use Rattle.table_entries.specs.Sums.{lens_sum}
use Rattle.table_entries.specs.Pack.{packed_entries, packed_end, packed_bytes, KeepsPacked}
use Rattle.table_entries.specs.Sweep.{swept, KeepsOnly}
use Rattle.table_entries.proofs.EntriesPut.{put_entries, length_puts, take_puts, drop_puts, entries_put}
use Rattle.table_entries.proofs.Lengths.{lens_within, placed_wider}
use Rattle.table_entries.proofs.Packed.{packed_end_lem, lens_packed, length_packed}
use Rattle.table_entries.proofs.Swept.{placed_swept}
use Rattle.entry_sweeps.specs.KeptBy.{kept_by}
use Rattle.table_records.specs.Choose.{skip_all}
use Rattle.table_records.specs.Close.{positions, remapped}
use Rattle.table_records.proofs.Frames.{records_above, index_above}
use Rattle.pending_flows.specs.declared.header.Header.{Header}
use Rattle.pending_flows.specs.Header.{HoldsCache}
use Rattle.pending_calls.specs.declared.removal.Removed.{Removed}
use Rattle.pending_calls.specs.Removal.{everything, unexpired, counted_but, RemovesTo}
use Rattle.pending_calls.proofs.RemovedLemmas.{entries_below_records, records_within}
use Rattle.template_removal.specs.Packing.{RemovesPacking}
use Rattle.template_removal.specs.Taking.{TakesBoth}
use Rattle.template_removal.proofs.TemplateRemoved.{others_swept, others_removed}

-- a sweep that packs keeps packed entries, with the same lengths together
kept_packed : {kept : List Entry} {m : ℕ} {w b w' b' : List ℕ} {left : Kept} → lens_sum kept < 2 ^ 64 →
    KeepsPacked kept m w b w' b' left.entries left.bytes → KeepsOnly (packed_entries 0 kept) m w w' left
kept_packed {kept} {left = left} small s = record {
  few = s.few;
  entries = s.entries;
  bytes =
      let same : left.bytes ≡ lens_sum (packed_entries 0 kept) =
      omega (arith, s.end, packed_end_lem 0 kept, lens_packed 0 kept) in
      same ∙ sym (mod-eq_of_lt (omega (arith, small, lens_packed 0 kept)));
  head = s.head;
  tail = s.tail;
}

-- what a removal left packed, as a removal alone leaves it
module _ (w : List ℕ) (n : ℕ) (ok : well_formed w n ≡ true) (b : List ℕ) {q : StayTest} {apart : ℕ}
    {skip w' b' : List ℕ} {r : Removed}
    (packed : RemovesTo (packed_entries 0 (swept q skip (entries_from w entries_at (entry_count w)))) q
    (records_at (limits_of w)) (held_count w + chance_count w) (entry_count w) apart skip w w' r)
    (bytes : b' ≡ packed_bytes 0 (swept q skip (entries_from w entries_at (entry_count w))) b)
    (end : r.bytes ≡ packed_end 0 (swept q skip (entries_from w entries_at (entry_count w)))) where
  legal : LegalWords w n
  legal = words_say w n ok

  abbrev p : ℕ
  p = records_at (limits_of w)

  abbrev kept : List Entry
  kept = swept q skip (entries_from w entries_at (entry_count w))

  abbrev before : List ℕ
  before = put_entries w' entries_at kept

  as_many : length kept ≡ r.entries
  as_many =
      sym (length_packed 0 kept) ∙ ap length (sym packed.entries) ∙ length_entries w' entries_at r.entries

  below : entries_at + entry_words * length kept ≤ p
  below = omega (arith, as_many, packed.few_entries, entries_below_records w n legal)

  stored : entries_from before entries_at r.entries ≡ kept
  stored =
      ap (entries_from before entries_at) (sym as_many)
      ∙ entries_put w' entries_at kept (omega (arith, below, records_within w n legal, packed.long))

  -- how many index words there are
  abbrev indexed : ℕ
  indexed =
      let rs = records_from w p (held_count w + chance_count w) in
      length (remapped (positions (counted_but apart kept) 0 rs) (index_from w p (held_count w + chance_count w)))

  as_packed : RemovesPacking q apart skip w b w' b' r
  as_packed =
      let past = drop_puts w' entries_at kept (entries_at + entry_words * length kept) (omega arith) in
      record {
        unpacked = before;
        removes = record {
          few_entries = packed.few_entries;
          few_records = packed.few_records;
          entries = stored;
          bytes = packed.bytes;
          bodies_apart = packed.bodies_apart;
          records = records_above before w' p r.records (entries_at + entry_words * length kept) below past
              ∙ packed.records;
          index = index_above before w' p indexed (entries_at + entry_words * length kept) below past ∙ packed.index;
          head = take_puts w' entries_at kept entries_at (omega arith) ∙ packed.head;
          tail = drop_puts w' entries_at kept (p + record_words * (held_count w + chance_count w))
              (omega (arith, below))
              ∙ packed.tail;
          long = length_puts w' entries_at kept ∙ packed.long;
        };
        packs = record {
          few = omega arith;
          entries = packed.entries ∙ ap (packed_entries 0) (sym stored);
          bytes = bytes ∙ ap (λ (es : List Entry). packed_bytes 0 es b) (sym stored);
          end = end ∙ ap (packed_end 0) (sym stored);
          head = sym (take_puts w' entries_at kept entries_at (omega arith));
          tail = sym (drop_puts w' entries_at kept (entries_at + entry_words * r.entries) (omega (arith, as_many)));
        };
      }

-- with the header that was read
module _ (w b : List ℕ) {h : Header} (holds : HoldsCache h w (length b)) where
  placed : Placed 0 (length b) (entries_from w entries_at (entry_count w))
  placed =
      let legal = words_say w (length b) holds.legal in
      placed_wider 0 (limits_of w).max_total_bytes (length b) (entries_from w entries_at (entry_count w))
      legal.limits_legal_lem.bytes_enough legal.table_legal_lem.entries_placed

  pub places_within : places_legal 0 (length b) (entries_from w entries_at h.figures.entries) ≡ true
  places_within =
      rw holds.figures (places_hold 0 (length b) (entries_from w entries_at (entry_count w)) placed)

  pub packing_removed : (label apart : ℕ) {p : ℕ} → p ≡ records_at h.limits →
      {w₁ w' b' : List ℕ} {left : Kept} {q : StayTest} {r : Removed} → q ≡ unexpired (Some 0) 0 label →
      KeepsPacked (kept_by (stays q) (entries_from w entries_at h.figures.entries)) h.figures.entries w b w₁ b'
      left.entries left.bytes →
      TakesBoth label apart p (h.figures.templates + h.figures.chance) left w₁ w' r → length b < 2 ^ 64 →
      length w' ≡ length w →
      RemovesPacking everything apart (set (replicate 1024 0) label skip_all) w b w' b' r
  packing_removed label apart from {q = q} test s t small long =
      let others = kept_by (stays q) (entries_from w entries_at h.figures.entries) in
      let are = others_swept w (length b) holds label apart test in
      let skip = set (replicate 1024 0) label skip_all in
      let es = entries_from w entries_at (entry_count w) in
      let fits : lens_sum (swept everything skip es) ≤ length b =
      omega (
        arith,
        lens_within 0 (length b) (swept everything skip es) (omega arith)
            (placed_swept everything skip 0 (length b) es placed),
      ) in
      as_packed w (length b) holds.legal b
      (rw (← are) (others_removed w (length b) holds label apart test from t long (packed_entries 0 others)
      (lens_packed 0 others) (kept_packed (omega (arith, fits, ap lens_sum are)) s)))
      (rw (← are) s.bytes) (ap (λ (x : Removed). x.bytes) t.told ∙ rw (← are) s.end)

-- What is left of rows where bodies move together, or none has to. Assumes nothing.
use mathlib.Core.Path.{◌≡◌, refl, sym, ◌∙◌}
use mathlib.Core.Bool.{Bool, true, false, cond}
use mathlib.Core.List.{List, [], ◌∷◌}
use Prim.Native.Nat.{ℕ, ◌+◌, ◌*◌, ◌≤◌, ◌<◌}
use native.Mathlib.Omega.{arith}
use lib.Dec.{leb}
use lib.ListN.{length, drop}
use borrow.Author.Tests.{leb-true}
use Rattle.config.specs.Limits.{entry_words}
use Rattle.config.proofs.Lists.{all_map}
use Rattle.table.specs.declared.Entry.{Entry}
use Rattle.table.specs.declared.TemplateRecord.{TemplateRecord}
use Rattle.table.specs.Layout.{entries_at}
use Rattle.table.specs.Table.{entries_from, records_from, index_from, has_label, tally}
use Rattle.table.proofs.Facts.{Placed}
use Rattle.table_entries.specs.Sums.{lens_sum}
use Rattle.table_entries.specs.Pack.{last_end, packed_entries, packed_bytes}
use Rattle.table_entries.proofs.Lengths.{first_end_within, placed_wider}
use Rattle.table_entries.proofs.Packed.{packed_end_lem, packed_placed, all_packed, lens_packed, tally_packed}
use Rattle.table_records.proofs.Frames.{records_above, index_above}
use Rattle.pending_flows.specs.View.{bodies_at, templates_at}
use Rattle.table_view.proofs.Tied.{Tied}
use Rattle.table_view.proofs.Packed.{packed_bodies, packed_drop}
use Rattle.table_view.proofs.Closed.{same_templates}
use Rattle.resize_steps.specs.Fit.{fitted_entries, fitted_bytes, FitsPlaces}
use Rattle.resize_steps.proofs.Rows.{Rows}

-- packed entries belong to the same records
packed_tied : {rs : List TemplateRecord} {es : List Entry} {is : List ℕ} → Tied rs es is →
    Tied rs (packed_entries 0 es) is
packed_tied {rs} {es} h = record {
  keys_small = h.keys_small;
  labels_small = h.labels_small;
  counts_right = all_map (λ r. r.count ≡ tally r.label es) (λ r. r.count ≡ tally r.label (packed_entries 0 es))
      (λ r e. e ∙ sym (tally_packed r.label 0 es)) rs h.counts_right;
  some_bodies = h.some_bodies;
  keys_differ = h.keys_differ;
  labels_differ = h.labels_differ;
  labels_known = all_packed (λ e. has_label e.label rs ≡ true) (λ at e x. x) 0 es h.labels_known;
  index_right = h.index_right;
  index_long = h.index_long;
}

-- bodies that end at a place lie before it
placed_narrow : (from most room : ℕ) (es : List Entry) → Placed from most es → last_end es ≤ room → Placed from room es
unfolding last_end
placed_narrow from most room [] p end = tt
placed_narrow from most room (e ∷ []) p end = (p.0, end, tt)
placed_narrow from most room (e ∷ x ∷ es) p end = (
  p.0,
  omega (arith, p.2.0, first_end_within (e.place + e.len) most x es p.2),
  placed_narrow (e.place + e.len) most room (x ∷ es) p.2 end,
)

module _ {p k m most : ℕ} {w : List ℕ} (h : Rows p k m most w) (room : ℕ) (small : room ≤ 67108864)
    (fits : lens_sum (entries_from w entries_at m) ≤ room) where
  abbrev rs : List TemplateRecord
  rs = records_from w p k

  abbrev es : List Entry
  es = entries_from w entries_at m

  packed_room : Placed 0 room (packed_entries 0 es)
  packed_room = packed_placed 0 room es (omega (arith, packed_end_lem 0 es))

  fitted_placed : Placed 0 room (fitted_entries room es)
  unfolding fitted_entries
  fitted_placed = by_test (leb (last_end es) room) refl
    where
      by_test : (t : Bool) → leb (last_end es) room ≡ t → Placed 0 room (cond t es (packed_entries 0 es))
      by_test true e = placed_narrow 0 most room es h.placed (leb-true (last_end es) room e)
      by_test false e = packed_room

  fitted_lens : lens_sum (fitted_entries room es) ≡ lens_sum es
  unfolding fitted_entries
  fitted_lens = by_test (leb (last_end es) room)
    where
      by_test : (t : Bool) → lens_sum (cond t es (packed_entries 0 es)) ≡ lens_sum es
      by_test true = refl
      by_test false = lens_packed 0 es

  fitted_tied : Tied rs (fitted_entries room es) (index_from w p k)
  unfolding fitted_entries
  fitted_tied = by_test (leb (last_end es) room)
    where
      by_test : (t : Bool) → Tied rs (cond t es (packed_entries 0 es)) (index_from w p k)
      by_test true = h.tied
      by_test false = packed_tied h.tied

  module _ (b : List ℕ) (lent : most ≤ length b) where
    fitted_bodies : (j : ℕ) → bodies_at b j es ≡ bodies_at (fitted_bytes room es b) j (fitted_entries room es)
    unfolding fitted_entries fitted_bytes
    fitted_bodies j = by_test (leb (last_end es) room)
      where
        by_test : (t : Bool) →
            bodies_at b j es ≡ bodies_at (cond t b (packed_bytes 0 es b)) j (cond t es (packed_entries 0 es))
        by_test true = refl
        by_test false =
            sym (packed_bodies j 0 0 es b (omega arith) (placed_wider 0 most (length b) es lent h.placed))

    fitted_behind : drop most (fitted_bytes room es b) ≡ drop most b
    unfolding fitted_bytes
    fitted_behind = by_test (leb (last_end es) room)
      where
        by_test : (t : Bool) → drop most (cond t b (packed_bytes 0 es b)) ≡ drop most b
        by_test true = refl
        by_test false = packed_drop 0 0 most es b (omega arith) h.placed

    module _ (below : entries_at + entry_words * m ≤ p) {w' b' : List ℕ} (s : FitsPlaces room m w b w' b') where
      same_records : records_from w' p k ≡ rs
      same_records = records_above w' w p k (entries_at + entry_words * m) below s.tail

      same_index : index_from w' p k ≡ index_from w p k
      same_index = index_above w' w p k (entries_at + entry_words * m) below s.tail

      pub placed_rows : Rows p k m room w'
      placed_rows = record {
        tied = rw (same_records, same_index, s.entries) fitted_tied;
        placed = rw s.entries fitted_placed;
        records_few = h.records_few;
        entries_few = h.entries_few;
        bytes_few = small;
      }

      pub placed_lens : lens_sum (entries_from w' entries_at m) ≡ lens_sum es
      placed_lens = rw s.entries fitted_lens

      pub placed_templates : templates_at b' (entries_from w' entries_at m) (records_from w' p k) ≡ templates_at b es rs
      placed_templates =
          rw (same_records, s.entries, s.bytes)
          (sym (same_templates b (fitted_bytes room es b) es (fitted_entries room es) rs
          (all_map (λ r. r.label < 1024)
          (λ r. bodies_at b r.label es ≡ bodies_at (fitted_bytes room es b) r.label (fitted_entries room es))
          (λ r _. fitted_bodies r.label) rs h.tied.labels_small)))

      pub placed_behind : drop most b' ≡ drop most b
      placed_behind = rw s.bytes fitted_behind

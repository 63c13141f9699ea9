-- The rows of a well-formed cache's words: what the laws of rows ask of them, and what a removal leaves of them.
-- Assumes nothing.
use mathlib.Core.Path.{◌≡◌}
use mathlib.Core.List.{List, []}
use Prim.Native.Nat.{ℕ, ◌+◌, ◌*◌, ◌≤◌, ◌<◌}
use native.Mathlib.Omega.{arith}
use lib.ListN.{length, length-drop}
use lib.Seq.{length-take-le}
use Rattle.config.specs.Limits.{entry_words}
use Rattle.config.proofs.Lists.{All, all_map}
use Rattle.table.specs.Layout.{limits_of, held_count, entry_count, chance_count, entries_at, records_at}
use Rattle.table.specs.Table.{table_of, entries_from, records, tally}
use Rattle.table.proofs.Words.{length_entries, length_records}
use Rattle.table.proofs.Facts.{Placed, LegalWords}
use Rattle.table_entries.specs.declared.StayTest.{StayTest}
use Rattle.table_entries.specs.Sums.{lens_sum}
use Rattle.table_records.specs.Choose.{skip_all}
use Rattle.cache_model.proofs.Limits as Limits
use Rattle.cache_model.proofs.Calls.{limits_alone, held_within}
use Rattle.pending_flows.specs.View.{cache_of}
use Rattle.table_view.proofs.Swept.{Within, placed_within}
use Rattle.table_view.proofs.Stored.{legal_limited}
use Rattle.table_view.proofs.Removed.{placed_short}
use Rattle.table_view.proofs.Summed.{len_most}
use Rattle.pending_calls.specs.declared.removal.Removed.{Removed}
use Rattle.pending_calls.specs.Removal.{RemovesFrom}
use Rattle.pending_calls.proofs.RemovedLemmas.{TiedRowsApart, rows_left, placed_left, apart_left, rows_tied, rows_placed}
use Rattle.pending_calls.proofs.RemovedLemmas.{bytes_left, few_templates, few_bodies, total_short, entries_below_records}

module _ (w b : List ℕ) (legal : LegalWords w (length b)) where
  pub bodies_within : Within (length b) (table_of w).entries
  bodies_within =
      let es = (table_of w).entries in
      all_map (λ e. e.place + e.len ≤ (limits_of w).max_total_bytes) (λ e. e.place + e.len ≤ length b)
      (λ e h. omega (arith, legal.limits_legal_lem.bytes_enough)) es
      (placed_within 0 (limits_of w).max_total_bytes es legal.table_legal_lem.entries_placed)

  pub bodies_short : All (λ e. e.len ≤ len_most) (table_of w).entries
  bodies_short =
      placed_short 0 (limits_of w).max_total_bytes len_most (table_of w).entries (total_short w (length b) legal)
      legal.table_legal_lem.entries_placed

  pub entries_few : length (table_of w).entries ≤ skip_all
  entries_few =
      omega (
        arith,
        legal.entries_fit,
        legal.limits_legal_lem.bodies_few,
        length_entries w entries_at (entry_count w),
      )

  pub handed_single : length (table_of w).handed ≤ 1
  handed_single =
      omega (
        arith,
        legal.chance_flag,
        length-drop (held_count w) (records w),
        length_records w (records_at (limits_of w)) (held_count w + chance_count w),
      )

  pub held_long : length (table_of w).held ≡ held_count w
  held_long =
      length-take-le (held_count w) (records w)
      (omega (arith, length_records w (records_at (limits_of w)) (held_count w + chance_count w)))

  pub held_limited : Limits.Within (limits_of w) limits_alone [] (cache_of (table_of w) b).held
  held_limited = held_within (cache_of (table_of w) b) (legal_limited w b legal)

  module _ {q : StayTest} {a : ℕ} {skip w' : List ℕ} {r : Removed}
      (done : RemovesFrom q a skip w w' r)
    where
      pub removed_tied : TiedRowsApart a (records_at (limits_of w)) r.records r.entries w'
      removed_tied =
          rows_left (rows_tied w (length b) legal) (limits_of w).max_total_bytes (rows_placed w (length b) legal)
          (few_templates w (length b) legal) (few_bodies w (length b) legal) (total_short w (length b) legal) done

      pub removed_placed : Placed 0 (limits_of w).max_total_bytes (entries_from w' entries_at r.entries)
      removed_placed =
          placed_left (rows_tied w (length b) legal) (limits_of w).max_total_bytes (rows_placed w (length b) legal)
          (few_templates w (length b) legal) (few_bodies w (length b) legal) (total_short w (length b) legal) done

      pub removed_bytes : r.bytes ≡ lens_sum (entries_from w' entries_at r.entries)
      removed_bytes =
          bytes_left (rows_tied w (length b) legal) (limits_of w).max_total_bytes (rows_placed w (length b) legal)
          (few_templates w (length b) legal) (few_bodies w (length b) legal) (total_short w (length b) legal) done

      pub removed_below : entries_at + entry_words * r.entries ≤ records_at (limits_of w)
      removed_below = omega (arith, done.few_entries, entries_below_records w (length b) legal)

      pub removed_apart : a < 1024 → r.apart ≡ tally a (entries_from w' entries_at r.entries)
      removed_apart =
          apart_left (rows_tied w (length b) legal) (limits_of w).max_total_bytes (rows_placed w (length b) legal)
          (few_templates w (length b) legal) (few_bodies w (length b) legal) (total_short w (length b) legal) done

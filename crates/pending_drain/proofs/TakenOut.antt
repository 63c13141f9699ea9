-- The words once a drain has taken out what goes: the rows that are left, and the bodies of the id that are set apart.
-- Assumes nothing.
use mathlib.Core.Path.{◌≡◌, sym, ap, ◌∙◌}
use mathlib.Core.Logic.{◌≢◌}
use mathlib.Core.Bool.{false}
use mathlib.Core.List.{List, ◌++◌}
use Prim.Native.Nat.{ℕ, ◌+◌, ◌*◌, ◌%◌, ◌^◌, ◌≤◌, ◌<◌}
use native.Mathlib.Nat.{mod-eq_of_lt}
use native.Mathlib.Omega.{arith}
use native.Mathlib.Decide.{ℕ_discrete}
use lib.ListN.{length, get_or, take-append-drop, get_or-eq_default}
use Rattle.config.specs.declared.PendingFlowsConfig.{PendingFlowsConfig}
use Rattle.config.specs.Limits.{entry_words}
use Rattle.config.proofs.Lists.{All}
use Rattle.table.specs.declared.Entry.{Entry}
use Rattle.table.specs.declared.TemplateRecord.{TemplateRecord}
use Rattle.table.specs.Layout.{limits_of, held_count, entry_count, chance_count, entries_at, records_at}
use Rattle.table.specs.Table.{table_of, entries_from, records_from, records, index, sum_lens, tally}
use Rattle.table.specs.Reads.{live_lens}
use Rattle.table.proofs.Words.{length_records, records_behind}
use Rattle.table.proofs.Facts.{Placed, LegalWords}
use Rattle.table.proofs.FoundLabels.{label_for}
use Rattle.table_entries.specs.declared.StayTest.{StayTest}
use Rattle.table_entries.proofs.LabelSums.{length_summed}
use Rattle.table_entries.proofs.Lengths.{lens_within}
use Rattle.table_entries.proofs.Swept.{all_swept}
use Rattle.table_records.specs.Close.{closed}
use Rattle.table_records.specs.Choose.{skip_all, skipping}
use Rattle.cache_model.specs.Bodies.{Body, size, sum_bodies, without}
use Rattle.cache_model.specs.Cache.{Cache}
use Rattle.pending_flows.specs.Header.{header_at}
use Rattle.pending_flows.specs.View.{bodies_at, templates_at, cache_of}
use Rattle.table_view.proofs.Tied.{Tied, words_tied, none_above}
use Rattle.table_view.proofs.Swept.{Within}
use Rattle.table_view.proofs.Totals.{lens_apart}
use Rattle.table_view.proofs.Summed.{everything, len_most}
use Rattle.pending_calls.specs.declared.removal.Removed.{Removed}
use Rattle.pending_calls.specs.Removal.{unexpired, counted, Removes}
use Rattle.pending_calls.proofs.RemovedLemmas.{TiedRowsApart}
use Rattle.pending_drain.specs.Handing.{zeros, TakesOut}
use Rattle.pending_drain.proofs.Handing.{length_zeros}
use Rattle.pending_drain.proofs.LegalRows.{bodies_within, bodies_short, entries_few, handed_single, held_long}
use Rattle.pending_drain.proofs.LegalRows.{held_limited, removed_tied, removed_below, removed_bytes}
use Rattle.pending_drain.proofs.LegalRows.{removed_placed, removed_apart}
use Rattle.pending_drain.proofs.DrainedRows as Rows

module _ (w b : List ℕ) (i now : ℕ) where
  abbrev l : PendingFlowsConfig
  l = limits_of w

  abbrev p : ℕ
  p = records_at l

  abbrev n : ℕ
  n = held_count w

  abbrev held : List TemplateRecord
  held = (table_of w).held

  abbrev handed : List TemplateRecord
  handed = (table_of w).handed

  abbrev es : List Entry
  es = (table_of w).entries

  abbrev cache : Cache
  cache = cache_of (table_of w) b

  abbrev label : ℕ
  label = label_for i held

  abbrev test : StayTest
  test = unexpired l.ttl now label

  abbrev left : List Entry
  left = Rows.left b l.ttl i now held handed es

  abbrev kept : List ℕ
  kept = Rows.kept b l.ttl i now held handed es

  abbrev live : List Body
  live = Rows.live b l.ttl i now held handed es

  module _ (legal : LegalWords w (length b)) where
    -- what the laws of rows ask
    tied : Tied (held ++ handed) es (index w)
    tied = words_tied w (length b) legal

    within : Within (length b) es
    within = bodies_within w b legal

    short : All (λ e. e.len ≤ len_most) es
    short = bodies_short w b legal

    few : length es ≤ skip_all
    few = entries_few w b legal

    single : length handed ≤ 1
    single = handed_single w b legal

    module _ {w' : List ℕ} {r : Removed} (taken : TakesOut (header_at w) now label w w' r) where
      out : Removes test p (n + chance_count w) (entry_count w) label (skipping zeros handed) w w' r
      out = rw (records_behind w p n (chance_count w)) taken

      abbrev es' : List Entry
      es' = entries_from w' entries_at r.entries

      abbrev rs' : List TemplateRecord
      rs' = records_from w' p r.records

      entries_are : es' ≡ left
      entries_are = out.entries

      records_are : rs' ≡ closed kept (held ++ handed)
      records_are =
          out.records ∙ ap (closed kept) (sym (take-append-drop n (records w)))

      pub out_tied : TiedRowsApart label p r.records r.entries w'
      out_tied = removed_tied w b legal out

      pub out_below : entries_at + entry_words * r.entries ≤ p
      out_below = removed_below w b legal out

      pub out_placed : Placed 0 l.max_total_bytes es'
      out_placed = removed_placed w b legal out

      pub out_templates : templates_at b es' rs' ≡ without i cache.held
      out_templates =
          rw (entries_are, records_are)
          (Rows.drained_templates b l.ttl i now held handed es tied within short few single
          (held_limited w b legal).differ (held_limited w b legal).filled)

      pub out_live : bodies_at b label es' ≡ live
      out_live =
          rw entries_are (Rows.drained_live b l.ttl i now held handed es tied within short few single)

      pub out_fresh : All (λ u. u.key ≢ i) rs'
      out_fresh =
          rw records_are (Rows.drained_fresh b l.ttl i now held handed es tied within short few single)

      pub out_small : 0 < tally label es' → label < 1024
      out_small =
          rw entries_are (Rows.drained_small b l.ttl i now held handed es tied within short few single)

      -- as many bodies as are set apart
      pub out_count : tally label es' ≡ length live
      out_count = rw entries_are (Rows.drained_count b l.ttl i now held handed es tied within short few single)

      pub out_apart : r.apart ≡ tally label es'
      out_apart = by_label (ℕ_discrete label 1024)
        where
          by_label : Dec (label ≡ 1024) → r.apart ≡ tally label es'
          by_label (yes d) =
              let long = length_summed everything false zeros left in
              let none : get_or (counted left) label 0 ≡ 0 =
              get_or-eq_default {A = ℕ} (counted left) 0 {n = label} (omega (arith, long, length_zeros)) in
              out.bodies_apart ∙ none ∙ sym (ap (λ (k : ℕ). tally k es') d ∙ none_above es' out_tied.entries_small)
          by_label (no d) =
              removed_apart w b legal out
              (omega (arith, Rows.drained_most b l.ttl i now held handed es tied within short few single))

      -- the lengths of what is held, and then of the live bodies
      out_lens : r.bytes ≡ sum_lens rs' es' + live_lens l.ttl now label es
      out_lens =
          let within' : Within (length b) es' =
          rw entries_are (all_swept (λ e. e.place + e.len ≤ length b) test (skipping zeros handed) es within) in
          let live-long : sum_bodies size (bodies_at b label es') ≡ live_lens l.ttl now label es =
          rw entries_are (Rows.drained_lens b l.ttl i now held handed es tied within short few single) in
          removed_bytes w b legal out ∙ lens_apart b out_tied within'
          ∙ ap (λ (m : ℕ). sum_lens rs' es' + m) live-long

      -- which are too short to wrap
      pub out_total : {m : ℕ} → m ≡ live_lens l.ttl now label es % 2 ^ 64 → r.bytes ≡ sum_lens rs' es' + m
      out_total read =
          let most = l.max_total_bytes in
          let fits : live_lens l.ttl now label es < 2 ^ 64 = omega (
            arith,
            out_lens,
            removed_bytes w b legal out,
            lens_within 0 most es' (omega arith) out_placed,
            legal.limits_legal_lem.total_small,
          ) in
          out_lens ∙ ap (λ (m : ℕ). sum_lens rs' es' + m) (sym (read ∙ mod-eq_of_lt fits))

      -- where there are such, a record less is held
      pub out_fewer : 0 < r.apart → r.records < n
      out_fewer some =
          let bodies : 0 < tally label es' = omega (arith, out_apart) in
          let fewer = Rows.drained_fewer b l.ttl i now held handed es tied within short few single
          (held_limited w b legal).differ (held_limited w b legal).filled (rw entries_are at bodies) in
          omega (arith, fewer, held_long w b legal, ap length records_are, length_records w' p r.records)

-- A well-formed cache and its words through the steps of a drain. Assumes nothing.
use mathlib.Core.Path.{◌≡◌, ap, ◌∙◌}
use mathlib.Core.Bool.{true, not}
use mathlib.Core.List.{List}
use Prim.Native.Nat.{ℕ, ◌+◌, ◌*◌, ◌-◌, ◌%◌, ◌^◌, ◌≤◌, ◌<◌}
use native.Mathlib.Omega.{arith}
use lib.ListN.{length, take, drop}
use Rattle.config.specs.Limits.{record_words, words_needed}
use Rattle.areas.proofs.Puts.{drop_more}
use Rattle.table.specs.declared.Entry.{Entry}
use Rattle.table.specs.Layout.{limits_of, cached_word, dropped_word, held_count, entry_count, chance_count, entries_at}
use Rattle.table.specs.Layout.{records_at}
use Rattle.table.specs.Table.{table_of, entries_from, records_from, sum_lens}
use Rattle.table.specs.Reads.{live_lens, count_sum}
use Rattle.table.specs.WellFormed.{well_formed}
use Rattle.table.proofs.Words.{length_entries}
use Rattle.table.proofs.Facts.{Placed, LegalWords, words_say}
use Rattle.table.proofs.FoundLabels.{label_for}
use Rattle.cache_model.specs.Bodies.{Body, Template, expired, keep, all_bodies, bodies_of, without}
use Rattle.cache_model.specs.Cache.{Cache, raised, chance_of, count}
use Rattle.cache_model.specs.Calls.{drained}
use Rattle.cache_model.proofs.Calls.{drained_within}
use Rattle.cache_model.proofs.Drops.{drain_drops}
use Rattle.pending_flows.specs.declared.header.HeaderFigures.{HeaderFigures}
use Rattle.pending_flows.specs.Header.{header_at}
use Rattle.pending_flows.specs.View.{bodies_at, templates_at, chance_at, areas_of, cache_of}
use Rattle.pending_flows.proofs.Questions.{first_records}
use Rattle.pending_flows.proofs.Figures.{held_counted}
use Rattle.pending_flows.proofs.Templates.{length_all_bodies}
use Rattle.pending_flows.proofs.Weights.{counts_sum}
use Rattle.table_view.proofs.Stored.{table_with, legal_limited}
use Rattle.pending_calls.specs.declared.removal.Removed.{Removed}
use Rattle.pending_calls.specs.Promises.{Does}
use Rattle.pending_calls.proofs.Headers.{headed}
use Rattle.pending_drain.specs.Handing.{TakesOut, HandsOut}
use Rattle.pending_drain.proofs.TakenOut as Out
use Rattle.pending_drain.proofs.HandedRows.{HandedRows, rows_handed}
use Rattle.pending_drain.proofs.Written.{written_frame, written_view}

module _ (w b : List ℕ) (i now : ℕ) where
  abbrev p : ℕ
  p = records_at (limits_of w)

  abbrev cache : Cache
  cache = cache_of (table_of w) b

  abbrev label : ℕ
  label = label_for i (table_of w).held

  abbrev old : List Body
  old = keep (λ x. expired (limits_of w).ttl now x) (bodies_of i cache.held)

  abbrev live : List Body
  live = keep (λ x. not (expired (limits_of w).ttl now x)) (bodies_of i cache.held)

  module _ (ok : well_formed w (length b) ≡ true) {w₁ : List ℕ} {r : Removed}
      (taken : TakesOut (header_at w) now label w w₁ r) where
    legal : LegalWords w (length b)
    legal = words_say w (length b) ok

    module _ (id : i < 65536) {w₂ : List ℕ} {c : ℕ}
        (hand : HandsOut p r.records (record { key = i; label = label; count = r.apart }) w₁ w₂ c)
        (long : length w₂ ≡ length w) where
      abbrev es : List Entry
      es = entries_from w₂ entries_at r.entries

      rows : HandedRows b i p r.records r.entries r.apart
          (bodies_at b label (entries_from w₁ entries_at r.entries)) w₁ w₂ c
      rows =
          rows_handed b label i p r.records r.entries r.apart w₁ w₂ c (Out.out_tied w b i now legal taken)
          (Out.out_apart w b i now legal taken) id (Out.out_fresh w b i now legal taken)
          (Out.out_small w b i now legal taken) (Out.out_below w b i now legal taken) hand

      placed : Placed 0 (limits_of w).max_total_bytes es
      placed = rw rows.entries (Out.out_placed w b i now legal taken)

      -- as many entries are left as the cache then has bodies
      left_counted : r.entries ≡ length (all_bodies (without i cache.held)) + length live
      left_counted =
          let es₁ = entries_from w₁ entries_at r.entries in
          let rs₁ = records_from w₁ p r.records in
          let tied = Out.out_tied w b i now legal taken in
          omega (
            arith,
            counts_sum (records_from w₂ p (r.records + c)) es rows.tied.labels_differ rows.tied.labels_known
                rows.tied.counts_right,
            length_entries w₂ entries_at r.entries,
            rows.counts,
            length_all_bodies b es₁ rs₁ tied.counts_right,
            ap (λ (ts : List Template). length (all_bodies ts)) (Out.out_templates w b i now legal taken),
            Out.out_apart w b i now legal taken,
            Out.out_count w b i now legal taken,
          )

      module _ {h m : ℕ} (handed : h ≡ count_sum (table_of w).handed)
          (live-long : m ≡ live_lens (limits_of w).ttl now label (table_of w).entries % 2 ^ 64) where
        bytes_are : r.bytes ≡ sum_lens (records_from w₂ p r.records) es + m
        bytes_are = rw (rows.entries, rows.held) (Out.out_total w b i now legal taken live-long)

        pub live_fits : m ≤ r.bytes
        live_fits = omega (arith, bytes_are)

        total_right : r.bytes - m ≡ sum_lens (records_from w₂ p r.records) es
        total_right = omega (arith, bytes_are)

        dropped_counted : length old + r.entries + h ≡ entry_count w
        dropped_counted =
            omega (
              arith,
              held_counted w b ok,
              left_counted,
              drain_drops (λ x. expired (limits_of w).ttl now x) i cache.held,
            )

        pub left_few : r.entries ≤ entry_count w - h
        left_few = omega (arith, dropped_counted)

        -- the figures of the header that is written
        abbrev figures : HeaderFigures
        figures = record {
          cached = cached_word w;
          dropped = raised (dropped_word w) (entry_count w - h - r.entries);
          total = r.bytes - m;
          templates = r.records;
          entries = r.entries;
          chance = c;
        }

        cache_is : cache_of (table_with (limits_of w) figures.cached figures.dropped figures.total r.records
            (records_from w₂ p (r.records + c)) es) b ≡ (drained i now cache).cache
        unfolding drained
        cache_is =
            let left : entry_count w - h - r.entries ≡ length old = omega (arith, dropped_counted) in
            let es₁ = entries_from w₁ entries_at r.entries in
            let rs = records_from w₂ p (r.records + c) in
            let held : templates_at b es (take r.records rs) ≡ without i cache.held =
            rw (first_records w₂ p r.records c, rows.held, rows.entries)
            (Out.out_templates w b i now legal taken) in
            let chance : chance_at b es (drop r.records rs) ≡ chance_of i live =
            rw rows.entries rows.chance ∙ ap (chance_of i) (Out.out_live w b i now legal taken) in
            λ j. record {
              limits = limits_of w;
              cached = cached_word w;
              dropped = raised (dropped_word w) (left j);
              held = held j;
              chance = chance j;
            }

        pub drain_does : Does (drained i now) cache (areas_of w b) (count r.apart)
            (areas_of (headed (limits_of w) figures w₂) b)
        unfolding drained
        drain_does =
            let tail : drop (words_needed (limits_of w)) w₁ ≡ drop (words_needed (limits_of w)) w =
            drop_more (words_needed (limits_of w)) (p + record_words * (held_count w + chance_count w)) w₁ w
            (omega (arith, legal.templates_fit)) taken.tail in
            let more = rows.behind (words_needed (limits_of w)) (λ some. omega (
              arith,
              Out.out_fewer w b i now legal taken some,
              legal.templates_fit,
            )) in
            record {
              answer = ap count (Out.out_apart w b i now legal taken ∙ Out.out_count w b i now legal taken);
              holds = written_view w b w₂ legal figures long rows.tied rows.single placed total_right cache_is
                  (drained_within cache (legal_limited w b legal) i now);
              frame = written_frame w b w₂ legal figures long (more ∙ tail);
            }

-- A resized cache: what is left, under the new header. Assumes nothing.
use mathlib.Core.Path.{◌≡◌, sym, ap, ◌∙◌}
use mathlib.Core.List.{List, [], append-nil}
use mathlib.Core.Option.{some}
use Prim.Native.Nat.{ℕ, ◌+◌, ◌-◌, ◌≤◌, max}
use native.Mathlib.Omega.{arith}
use lib.ListN.{length, take, drop, drop_of_length-le}
use lib.Seq.{take_all}
use Rattle.areas.specs.Overwrite.{overwritten}
use Rattle.areas.proofs.Puts.{drop_more}
use Rattle.config.specs.declared.PendingFlowsConfig.{PendingFlowsConfig}
use Rattle.config.specs.Limits.{header_words, words_needed, config_number}
use Rattle.config.proofs.Limits as Config
use Rattle.table.specs.declared.Entry.{Entry}
use Rattle.table.specs.declared.TemplateRecord.{TemplateRecord}
use Rattle.table.specs.Layout.{limits_of, entry_count, entries_at, records_at}
use Rattle.table.specs.Table.{table_of, entries_from, records_from, index_from}
use Rattle.table.specs.Reads.{count_sum}
use Rattle.table.proofs.Words.{length_records, length_entries, length_index}
use Rattle.table.proofs.Facts.{LegalTable, table_says, LegalWords, words_say}
use Rattle.table_entries.proofs.Frames.{entries_above}
use Rattle.table_records.proofs.Frames.{records_above, index_above}
use Rattle.cache_model.specs.Bodies.{Template, all_bodies}
use Rattle.cache_model.specs.Cache.{Cache, count, raised}
use Rattle.cache_model.specs.Calls.{shrunk, resized_to}
use Rattle.cache_model.proofs.Drops.{resize_drops}
use Rattle.cache_model.proofs.Calls.{Limited, resized_to_within}
use Rattle.pending_flows.specs.View.{areas_of, cache_of, view}
use Rattle.pending_flows.specs.declared.header.HeaderFigures.{HeaderFigures}
use Rattle.pending_flows.specs.declared.header.Header.{Header}
use Rattle.pending_flows.specs.Header.{HoldsCache, header_of}
use Rattle.pending_flows.proofs.Questions.{header_is}
use Rattle.pending_flows.proofs.Templates.{length_all_bodies}
use Rattle.pending_flows.proofs.Weights.{counts_sum}
use Rattle.pending_flows.proofs.Figures.{held_counted}
use Rattle.pending_calls.specs.declared.removal.Removed.{Removed}
use Rattle.pending_calls.proofs.Headers.{headed, headed_flag, headed_limits, headed_length, headed_behind}
use Rattle.table_view.proofs.Tied.{Tied, legal_tied}
use Rattle.table_view.proofs.Stored.{limits_legal_lem, legal_limited, Stored, table_with, stored_view}
use Rattle.pending_resize.specs.Shrink.{table_left, Shrinks}
use Rattle.pending_resize.specs.Promises.{ResizesTo}
use Rattle.resize_steps.proofs.Rows.{Rows}
use Rattle.resize_steps.proofs.Fits.{rows_total}

module _ (l : PendingFlowsConfig) (w b : List ℕ) {h : Header} (cached : HoldsCache h w (length b))
    (accepted : config_number l (length b) (length w) ≡ 0) where
  old : LegalWords w (length b)
  old = words_say w (length b) cached.legal

  new : Config.LegalLimits l (length b) (length w)
  new = Config.limits_say l (length b) (length w) accepted

  abbrev cache : Cache
  cache = cache_of (table_of w) b

  module _ (w₁ b₁ : List ℕ) (left : Removed) (s : Shrinks l w b w₁ b₁ left) where
    abbrev k : ℕ
    k = left.records

    abbrev m : ℕ
    m = left.entries

    abbrev rs : List TemplateRecord
    rs = records_from w₁ (records_at l) k

    abbrev es : List Entry
    es = entries_from w₁ entries_at m

    abbrev is : List ℕ
    is = index_from w₁ (records_at l) k

    left_legal : LegalTable (table_left l k m w₁) is
    left_legal = table_says (table_left l k m w₁) is s.legal

    left_tied : Tied rs es is
    left_tied =
        let long = length_index w₁ (records_at l) k ∙ sym (length_records w₁ (records_at l) k) in
        rw append-nil at (legal_tied (table_left l k m w₁) is left_legal (rw append-nil long))

    left_rows : Rows (records_at l) k m l.max_total_bytes w₁
    left_rows = record {
      tied = left_tied;
      placed = left_legal.entries_placed;
      records_few = omega (arith, s.few_records, new.templates_few);
      entries_few = omega (arith, s.few_entries, new.bodies_few);
      bytes_few = new.total_small;
    }

    left_count : length (all_bodies (shrunk l cache.held).held) ≡ m
    left_count =
        ap (λ (ts : List Template). length (all_bodies ts)) (sym s.templates)
        ∙ length_all_bodies b₁ es rs left_tied.counts_right
        ∙ counts_sum rs es left_tied.labels_differ left_tied.labels_known left_tied.counts_right
        ∙ length_entries w₁ entries_at m

    long : length w₁ ≡ length w
    long = s.frame.words_long

    left_header : header_words ≤ length w₁
    left_header = omega (arith, old.header_long, long)

    module _ (handed : ℕ) (counted : handed ≡ count_sum (table_of w).handed) where
      abbrev f : HeaderFigures
      f = h.figures

      removed_count : length (shrunk l cache.held).removed + m + handed ≡ f.entries
      removed_count =
          let all : entry_count w ≡ f.entries = ap (λ (g : HeaderFigures). g.entries) (sym cached.figures) in
          omega (arith, resize_drops l cache.held, left_count, held_counted w b cached.legal, counted)

      pub left_few : m ≤ f.entries - handed
      left_few = omega (arith, removed_count)

      -- ---- under the new header

      abbrev after : ℕ → HeaderFigures
      after dropped = record {
        cached = f.cached;
        dropped = dropped;
        total = left.bytes;
        templates = k;
        entries = m;
        chance = 0;
      }

      module _ (dropped : ℕ) (w₂ : List ℕ)
          (more : dropped ≡ raised f.dropped (f.entries - handed - m))
          (written : w₂ ≡ overwritten w₁ (header_of l (after dropped))) where
        is_headed : w₂ ≡ headed l (after dropped) w₁
        unfolding overwritten
        is_headed = written

        behind : drop entries_at w₂ ≡ drop entries_at w₁
        behind = rw is_headed (headed_behind l (after dropped) w₁ entries_at (omega arith))

        stored : Stored l f.cached dropped left.bytes k m 0 rs es is w₂
        stored =
            let z : k + 0 ≡ k = omega arith in
            record {
              limits_are = rw is_headed (headed_limits l (after dropped) w₁);
              ttl_flag_lem = rw is_headed (headed_flag l (after dropped) w₁);
              cached_is = rw is_headed;
              dropped_is = rw is_headed;
              total_is = rw is_headed;
              held_are = rw is_headed;
              entries_many = rw is_headed;
              chance_is = rw is_headed;
              records_are = rw z (records_above w₂ w₁ (records_at l) k entries_at (omega arith) behind);
              index_is = rw z (index_above w₂ w₁ (records_at l) k entries_at (omega arith) behind);
              entries_are = entries_above w₂ w₁ entries_at m entries_at (omega arith) behind;
            }

        dropped_count : f.entries - handed - m ≡ length (shrunk l cache.held).removed
        dropped_count = omega (arith, removed_count)

        resized_cache : cache_of (table_with l f.cached dropped left.bytes k rs es) b₁
            ≡ (resized_to l cache (shrunk l cache.held)).cache
        unfolding resized_to
        resized_cache =
            let whole : take k rs ≡ rs = take_all k rs (omega (arith, length_records w₁ (records_at l) k)) in
            let none : drop k rs ≡ [] =
            drop_of_length-le rs {i = k} (omega (arith, length_records w₁ (records_at l) k)) in
            rw (whole, none, s.templates, more, dropped_count, header_is w (length b) cached)

        headed_long : length w₂ ≡ length w₁
        headed_long = rw is_headed (headed_length l (after dropped) w₁ (omega (arith, left_header)))

        limited : Limited (cache_of (table_with l f.cached dropped left.bytes k rs es) b₁)
        limited = rw resized_cache (resized_to_within cache (legal_limited w b old) l (limits_legal_lem new))

        bytes_long : length b₁ ≡ length b
        bytes_long = s.frame.bytes_long

        holds : view (areas_of w₂ b₁) ≡ some (resized_to l cache (shrunk l cache.held)).cache
        holds =
            let whole : take k rs ≡ rs = take_all k rs (omega (arith, length_records w₁ (records_at l) k)) in
            let legal : Config.LegalLimits l (length b₁) (length w₂) = rw (bytes_long, headed_long, long) new in
            (stored_view stored b₁ (omega arith) legal (omega (arith, left_header, headed_long)) left_tied
            left_rows.placed (s.bytes ∙ rw whole (rows_total left_rows)) limited).1
            ∙ ap some resized_cache

        pub resizes_to : ResizesTo l cache (areas_of w b) (f.entries - handed - m) (areas_of w₂ b₁)
        unfolding resized_to
        resizes_to =
            let past = max (words_needed (limits_of w)) (words_needed l) in
            record {
              answer = ap count dropped_count;
              holds = holds;
              frame = record {
                words_behind = drop_more past entries_at w₂ w₁ (omega arith) behind ∙ s.frame.words_behind;
                bytes_behind = s.frame.bytes_behind;
                words_long = headed_long ∙ long;
                bytes_long = bytes_long;
              };
            }

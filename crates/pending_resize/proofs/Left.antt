-- What a resize leaves of a well-formed cache, step by step, before the header is written. Assumes nothing.
use mathlib.Core.Path.{◌≡◌, refl, sym, ap, ◌∙◌}
use mathlib.Core.List.{List, [], append-nil}
use Prim.Native.Nat.{ℕ, ◌+◌, ◌*◌, ◌≤◌, max}
use native.Mathlib.Omega.{arith}
use lib.ListN.{length, drop, take-append-drop}
use Rattle.areas.specs.Overwrite.{moved}
use Rattle.areas.proofs.Puts.{drop_more}
use Rattle.config.specs.declared.PendingFlowsConfig.{PendingFlowsConfig}
use Rattle.config.specs.Limits.{record_words, entry_words, max_bodies, words_needed, config_number}
use Rattle.config.proofs.Limits as Config
use Rattle.table.specs.Layout.{limits_of, held_count, chance_count, entries_at, records_at}
use Rattle.table.specs.Table.{Table, table_of, entries_from, records_from, index_from, records, index, sum_lens}
use Rattle.table_entries.specs.Pack.{HoldsEntries}
use Rattle.table.proofs.Words.{length_records, length_entries}
use Rattle.table.proofs.Facts.{places_hold, LegalTable, table_holds, LegalWords, words_say}
use Rattle.table_entries.specs.Sums.{lens_sum}
use Rattle.table_entries.proofs.Lengths.{placed_wider}
use Rattle.cache_model.specs.Bodies.{Template}
use Rattle.cache_model.specs.Cache.{Cache}
use Rattle.cache_model.specs.Calls.{cut, shrunk}
use Rattle.cache_model.proofs.Limits.{Within}
use Rattle.cache_model.proofs.Calls.{Limited, limits_alone, held_within}
use Rattle.cache_model.proofs.Resizes.{shrunk_within}
use Rattle.cache_model.proofs.Shrinking.{shrunk_thinned}
use Rattle.pending_flows.specs.View.{templates_at, cache_of}
use Rattle.pending_flows.specs.declared.header.HeaderFigures.{HeaderFigures}
use Rattle.pending_flows.specs.declared.header.Header.{Header}
use Rattle.pending_flows.specs.Header.{HoldsCache}
use Rattle.pending_flows.proofs.Questions.{first_records}
use Rattle.pending_calls.specs.declared.removal.Removed.{Removed}
use Rattle.pending_calls.specs.Removal.{RowsWithin}
use Rattle.table_view.proofs.Tied.{Tied, words_tied}
use Rattle.table_view.proofs.Stored.{limits_legal_lem, legal_limited, tied_legal}
use Rattle.resize_steps.specs.Cut.{Cuts}
use Rattle.resize_steps.specs.Fit.{FitsTotal, FitsPlaces}
use Rattle.pending_resize.specs.Shrink.{Shrinks}
use Rattle.resize_steps.proofs.Rows.{Rows, lens_left}
use Rattle.resize_steps.proofs.Cuts.{cut_rows, cut_templates}
use Rattle.resize_steps.proofs.Fits.{rows_bytes, under_total, fit_rows, fit_templates}
use Rattle.resize_steps.proofs.Places.{placed_rows, placed_lens, placed_templates, placed_behind}
use Rattle.pending_resize.proofs.Moves.{records_moved, index_moved, entries_before, words_behind}

module _ (l : PendingFlowsConfig) (w b : List ℕ) {h : Header} {p : ℕ} (holds : HoldsCache h w (length b))
    (accepted : config_number l (length b) (length w) ≡ 0) (from : p ≡ records_at h.limits) where
  abbrev f : HeaderFigures
  f = h.figures

  start : p ≡ records_at (limits_of w)
  start = from ∙ ap records_at holds.limits

  old : LegalWords w (length b)
  old = words_say w (length b) holds.legal

  new : Config.LegalLimits l (length b) (length w)
  new = Config.limits_say l (length b) (length w) accepted

  pub new_few : max_bodies l ≤ 262144
  new_few = new.bodies_few

  abbrev most : ℕ
  most = (limits_of w).max_total_bytes

  abbrev cache : Cache
  cache = cache_of (table_of w) b

  lent : most ≤ length b
  lent = old.limits_legal_lem.bytes_enough

  limited : Limited cache
  limited = legal_limited w b old

  read_tied : Tied (records w) (table_of w).entries (index w)
  read_tied = rw (take-append-drop (held_count w) (records w)) at (words_tied w (length b) old)

  rows_before : Rows p (f.templates + f.chance) f.entries most w
  rows_before =
      rw (start, holds.figures)
      (record {
        tied = read_tied;
        placed = old.table_legal_lem.entries_placed;
        records_few = omega (arith, old.templates_fit, old.limits_legal_lem.templates_few);
        entries_few = omega (arith, old.entries_fit, old.limits_legal_lem.bodies_few);
        bytes_few = old.limits_legal_lem.total_small;
      })

  pub cut_fits : RowsWithin p (f.templates + f.chance) f.entries (length w)
  cut_fits =
      rw (start, holds.figures)
      (record {
        entries_below = omega (arith, old.entries_fit);
        records_within = omega (arith, old.templates_fit, old.limits_legal_lem.words_enough);
        records_few = omega (arith, old.templates_fit, old.limits_legal_lem.templates_few);
      })

  records_end : p + record_words * (f.templates + f.chance) ≤ words_needed (limits_of w)
  records_end = rw (start, holds.figures) (omega (arith, old.templates_fit))

  held_are : templates_at b (entries_from w entries_at f.entries) (records_from w p f.templates) ≡ cache.held
  held_are =
      rw (start, holds.figures)
      (ap (templates_at b (table_of w).entries) (sym (first_records w (records_at (limits_of w)) (held_count w)
      (chance_count w))))

  module _ {w₁ : List ℕ} {few : Removed} (c : Cuts l p f.templates f.chance f.entries w w₁ few) where
    rows_cut : Rows p few.records few.entries most w₁
    rows_cut = cut_rows l p f.templates f.chance f.entries most w b rows_before lent new.some_entries c

    abbrev after_cut : List Template
    after_cut = templates_at b (entries_from w₁ entries_at few.entries) (records_from w₁ p few.records)

    templates_cut : after_cut ≡ (cut l cache.held).held
    templates_cut =
        cut_templates l p f.templates f.chance f.entries most w b rows_before lent new.some_entries c
        ∙ ap (λ (ts : List Template). (cut l ts).held) held_are

    pub total_fits : RowsWithin p few.records few.entries (length w₁)
    total_fits = record {
      entries_below = omega (arith, cut_fits, c.few_entries);
      records_within = omega (arith, cut_fits, c.few_records, c.long);
      records_few = rows_cut.records_few;
    }

    pub bytes_cut : few.bytes ≡ lens_sum (entries_from w₁ entries_at few.entries)
    bytes_cut = lens_left rows_before _ _ c

    module _ {w₂ : List ℕ} {left : Removed}
        (t : FitsTotal l.max_total_bytes p few.records few.entries w₁ w₂ left) where
      rows_fit : Rows p left.records left.entries most w₂
      rows_fit = fit_rows rows_cut b lent l.max_total_bytes t

      abbrev after_fit : List Template
      after_fit = templates_at b (entries_from w₂ entries_at left.entries) (records_from w₂ p left.records)

      templates_fit : after_fit ≡ (shrunk l cache.held).held
      templates_fit =
          fit_templates rows_cut b lent l.max_total_bytes t ∙ ap (under_total l.max_total_bytes) templates_cut
          ∙ sym (shrunk_thinned l cache.held (held_within cache limited).differ new.some_entries)

      -- what is left is within the new limits
      within : Within l limits_alone [] after_fit
      within = rw templates_fit (shrunk_within l cache.held (limits_legal_lem new) (held_within cache limited))

      pub places_fit : HoldsEntries left.entries w₂ (length b)
      places_fit =
          let es = entries_from w₂ entries_at left.entries in record {
            in_words = omega (arith, total_fits, t.few_entries, t.long);
            in_bytes = places_hold 0 (length b) es (placed_wider 0 most (length b) es lent rows_fit.placed);
          }

      module _ {w₃ b₃ : List ℕ} (s : FitsPlaces l.max_total_bytes left.entries w₂ b w₃ b₃)
          (words_long : length w₃ ≡ length w₂) (bytes_long : length b₃ ≡ length b) where
        abbrev room : ℕ
        room = l.max_total_bytes

        abbrev k : ℕ
        k = left.records

        abbrev m : ℕ
        m = left.entries

        below : entries_at + entry_words * m ≤ p
        below = omega (arith, total_fits, t.few_entries)

        fits : lens_sum (entries_from w₂ entries_at m) ≤ room
        fits = omega (arith, rows_bytes rows_fit b lent, within.room)

        rows_placed : Rows p k m room w₃
        rows_placed = placed_rows rows_fit room new.total_small fits b lent below s

        abbrev after_placing : List Template
        after_placing = templates_at b₃ (entries_from w₃ entries_at m) (records_from w₃ p k)

        templates_placed : after_placing ≡ after_fit
        templates_placed = placed_templates rows_fit room new.total_small fits b lent below s

        abbrev left_table : Table
        left_table = record {
          limits = l;
          cached = 0;
          dropped = 0;
          total = sum_lens (records_from w₃ p k) (entries_from w₃ entries_at m);
          held = records_from w₃ p k;
          handed = [];
          entries = entries_from w₃ entries_at m;
        }

        table_limited : Limited (cache_of left_table b₃)
        table_limited = record { legal = limits_legal_lem new; within = rw (templates_placed, append-nil) within }

        left_legal : LegalTable left_table (index_from w₃ p k)
            × (length (records_from w₃ p k) + 0 ≤ l.max_pending_flows)
            × (length (entries_from w₃ entries_at m) ≤ max_bodies l)
        left_legal =
            tied_legal left_table b₃ (index_from w₃ p k) (rw append-nil rows_placed.tied) rows_placed.placed
            (omega (arith, bytes_long, new.bytes_enough)) refl (omega arith) table_limited

        few_records : k ≤ l.max_pending_flows
        few_records = omega (arith, left_legal.1, length_records w₃ p k)

        few_entries : m ≤ max_bodies l
        few_entries = omega (arith, left_legal.2, length_entries w₃ entries_at m)

        still_long : length w₃ ≡ length w
        still_long = words_long ∙ t.long ∙ c.long

        pub records_fit : record_words * k ≤ 8192
        records_fit = omega (arith, rows_placed.records_few)

        module _ {to : ℕ} (at : to ≡ records_at l) where
          pub move_fits : (p + record_words * k ≤ length w₃) × (to + record_words * k ≤ length w₃)
          move_fits = (
            omega (arith, total_fits, t.few_records, words_long, t.long),
            omega (arith, at, few_records, still_long, new.words_enough),
          )

          module _ {w₄ : List ℕ} (is : w₄ ≡ moved p to (record_words * k) w₃) (moved_long : length w₄ ≡ length w₃) where
            moves : w₄ ≡ moved p (records_at l) (record_words * k) w₃
            moves = is ∙ ap (λ (q : ℕ). moved p q (record_words * k) w₃) at

            target : records_at l + record_words * k ≤ length w₃
            target = omega (arith, at, move_fits.1)

            same_records : records_from w₄ (records_at l) k ≡ records_from w₃ p k
            same_records = records_moved p (records_at l) k w₃ w₄ moves move_fits.0 target

            same_index : index_from w₄ (records_at l) k ≡ index_from w₃ p k
            same_index = index_moved p (records_at l) k w₃ w₄ moves move_fits.0 target

            same_entries : entries_from w₄ entries_at m ≡ entries_from w₃ entries_at m
            same_entries =
                entries_before p (records_at l) k w₃ w₄ moves move_fits.0 target m (omega (arith, few_entries))

            -- the words past both needs
            words_past : drop (max (words_needed (limits_of w)) (words_needed l)) w₄
                ≡ drop (max (words_needed (limits_of w)) (words_needed l)) w
            words_past =
                let need = words_needed (limits_of w) in
                let need' = words_needed l in
                let past = max need need' in
                let old-need : need ≤ past = omega arith in
                let new-need : need' ≤ past = omega arith in
                words_behind p (records_at l) k w₃ w₄ moves move_fits.0 target past (omega (arith, few_records))
                ∙ drop_more past (entries_at + entry_words * m) w₃ w₂ (omega (arith, few_entries)) s.tail
                ∙ drop_more past (p + record_words * few.records) w₂ w₁ (omega (arith, records_end, c.few_records))
                t.tail
                ∙ drop_more past (p + record_words * (f.templates + f.chance)) w₁ w (omega (arith, records_end))
                c.tail

            bytes_past : drop (max most room) b₃ ≡ drop (max most room) b
            bytes_past =
                drop_more (max most room) most b₃ b (omega arith)
                (placed_behind rows_fit room new.total_small fits b lent below s)

            pub shrinks : Shrinks l w b w₄ b₃ left
            shrinks = record {
              few_records = few_records;
              few_entries = few_entries;
              bytes = lens_left rows_cut _ _ t ∙ rw (same_entries)
                  (sym (placed_lens rows_fit room new.total_small fits b lent below s));
              legal = rw (same_records, same_index, same_entries)
                  (table_holds left_table (index_from w₃ p k) left_legal.0);
              templates = rw (same_records, same_entries) (templates_placed ∙ templates_fit);
              frame = record {
                words_behind = words_past;
                bytes_behind = bytes_past;
                words_long = moved_long ∙ still_long;
                bytes_long = bytes_long;
              };
            }

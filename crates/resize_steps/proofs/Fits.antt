-- What is left of rows where they fit the new total: the last templates, and bodies that end within it.
-- Assumes nothing.
use mathlib.Core.Path.{◌≡◌, refl, ap, ◌∙◌}
use mathlib.Core.Bool.{Bool, true, false, cond}
use mathlib.Core.List.{List, []}
use Prim.Native.Nat.{ℕ, ◌≤◌, ◌<◌}
use native.Mathlib.Omega.{arith}
use lib.ListN.{length, get_or, take, drop, length-replicate, get_or-replicate, drop_of_length-le}
use Rattle.config.proofs.Lists.{All, all_map, all_both}
use Rattle.table.specs.declared.Entry.{Entry}
use Rattle.table.specs.declared.TemplateRecord.{TemplateRecord}
use Rattle.table.specs.Layout.{entries_at}
use Rattle.table.specs.Table.{entries_from, records_from, has_label, sum_lens}
use Rattle.table.proofs.Words.{length_entries}
use Rattle.table.proofs.Labels.{tally_most}
use Rattle.table_entries.specs.Sums.{lens_sum, summed}
use Rattle.table_entries.proofs.Lengths.{placed_wider, label_bytes_most}
use Rattle.table_entries.proofs.LabelSums.{summed_label}
use Rattle.table_records.specs.Choose.{skip_all}
use Rattle.table_records.proofs.Skips.{skipping_at}
use Rattle.cache_model.specs.Bodies.{Body, Template, size, sum_bodies, byte_total, keep}
use Rattle.cache_model.specs.Removal.{evictions}
use Rattle.cache_model.proofs.Thinning.{thinned, has_id}
use Rattle.pending_flows.specs.View.{bodies_at, templates_at}
use Rattle.pending_flows.proofs.Templates.{length_bodies}
use Rattle.pending_calls.specs.declared.removal.Removed.{Removed}
use Rattle.pending_calls.specs.Removal.{everything}
use Rattle.table_view.proofs.Removed.{placed_short}
use Rattle.table_view.proofs.Swept.{body_stays, Within, placed_within}
use Rattle.table_view.proofs.Summed.{label_bytes, everything_stays}
use Rattle.table_view.proofs.Totals.{lens_owned, lens_total}
use Rattle.resize_steps.specs.Removing.{zeros}
use Rattle.resize_steps.specs.Fit.{over_total, total_skips, FitsTotal}
use Rattle.resize_steps.proofs.Steps.{total_skips_long}
use Rattle.resize_steps.proofs.Rows.{Rows, rows_left, templates_left}
use Rattle.resize_steps.proofs.Chosen.{first_alike, evictions_alike}

-- the templates without the least recent ones that pass a total
abbrev pub under_total : ℕ → List Template → List Template
under_total room us = thinned (λ j bs. cond (has_id j (take (evictions room 0 us) us)) [] bs) us

module _ {p k m most : ℕ} {w : List ℕ} (h : Rows p k m most w) where
  abbrev rs : List TemplateRecord
  rs = records_from w p k

  abbrev es : List Entry
  es = entries_from w entries_at m

  -- the bytes of all entries are those of the records
  pub rows_total : lens_sum es ≡ sum_lens rs es
  rows_total = lens_owned rs es h.tied.labels_known

  module _ (b : List ℕ) (lent : most ≤ length b) where
    abbrev ts : List Template
    ts = templates_at b es rs

    within : Within (length b) es
    within = placed_within 0 (length b) es (placed_wider 0 most (length b) es lent h.placed)

    pub rows_bytes : lens_sum es ≡ byte_total ts
    rows_bytes = rows_total ∙ lens_total b rs es h.tied.labels_differ within

    short : All (λ e. e.len ≤ 18446744073709551615) es
    short = placed_short 0 most 18446744073709551615 es (omega (arith, h.bytes_few)) h.placed

    all_stay : (j : ℕ) → keep (body_stays everything j) (bodies_at b j es) ≡ bodies_at b j es
    all_stay j = everything_stays b j es within short

    sized : (j : ℕ) → j < 1024 → get_or (summed everything true zeros es) j 0 ≡ sum_bodies size (bodies_at b j es)
    sized j small =
        let bytes = label_bytes b everything j es within in
        let weighs = ap (sum_bodies size) (all_stay j) in
        let most_bytes = label_bytes_most everything j 0 most es (omega arith) h.placed in
        let capped = summed_label everything true es j small in
        omega (arith, h.bytes_few)

    -- as many records go as the model evicts templates
    over_is : (room : ℕ) → over_total room rs es ≡ evictions room 0 ts
    over_is room =
        evictions_alike b es room (summed everything true zeros es) rs (lens_sum es)
        (all_map (λ r. r.label < 1024)
        (λ r. get_or (summed everything true zeros es) r.label 0 ≡ sum_bodies size (bodies_at b r.label es))
        (λ r x. sized r.label x) rs h.tied.labels_small) rows_bytes

    module _ (room : ℕ) where
      abbrev skip : List ℕ
      skip = total_skips room rs es zeros

      abbrev leaving : ℕ
      leaving = evictions room 0 ts

      abbrev staying : ℕ → List Body → List Body
      staying j bs = cond (has_id j (take leaving ts)) [] bs

      skip_at : (j : ℕ) → j < 1024 → get_or skip j 0 ≡ cond (has_label j (take leaving rs)) skip_all 0
      unfolding total_skips
      skip_at j small =
          let long : length zeros ≡ 1024 = length-replicate {A = ℕ} 1024 0 in
          let none : get_or zeros j 0 ≡ 0 = get_or-replicate {A = ℕ} 1024 j 0 0 small in
          rw (over_is room) (skipping_at j zeros (take leaving rs) (omega arith) ∙ rw none)

      few : (j : ℕ) → length (bodies_at b j es) ≤ skip_all
      few j = omega (arith, length_bodies b j es, tally_most j es, length_entries w entries_at m, h.entries_few)

      one_stays : (r : TemplateRecord) → r.label < 1024 →
          has_label r.label (take leaving rs) ≡ has_id r.key (take leaving ts) →
          drop (get_or skip r.label 0) (keep (body_stays everything r.label) (bodies_at b r.label es))
          ≡ staying r.key (bodies_at b r.label es)
      one_stays r small alike =
          rw (skip_at r.label small, all_stay r.label, alike) (by_test (has_id r.key (take leaving ts)))
        where
          xs : List Body
          xs = bodies_at b r.label es

          by_test : (x : Bool) → drop (cond x skip_all 0) xs ≡ cond x [] xs
          by_test true = drop_of_length-le xs {i = skip_all} (few r.label)
          by_test false = refl

      long : length skip ≡ 1024
      long = total_skips_long room rs es skip refl

      module _ {w' : List ℕ} {r : Removed} (s : FitsTotal room p k m w w' r) where
        pub fit_rows : Rows p r.records r.entries most w'
        fit_rows = rows_left h everything skip s

        pub fit_templates : templates_at b (entries_from w' entries_at r.entries) (records_from w' p r.records)
            ≡ under_total room ts
        fit_templates =
            rw (s.entries, s.records)
            (templates_left h everything skip b lent long staying rs h.tied.labels_small
            (all_both {A = TemplateRecord} (λ r. r.label < 1024)
            (λ r. has_label r.label (take leaving rs) ≡ has_id r.key (take leaving ts))
            (λ r. drop (get_or skip r.label 0) (keep (body_stays everything r.label) (bodies_at b r.label es))
            ≡ staying r.key (bodies_at b r.label es)) one_stays rs h.tied.labels_small
            (first_alike b es leaving rs h.tied.keys_differ h.tied.labels_differ)))

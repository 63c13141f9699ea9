-- What a plan reads of a well-formed table: the bytes and the live bodies of the held templates. Assumes nothing.
use Rattle.std.proofs.Common.{None}
use mathlib.Core.Path.{◌≡◌, sym, ap, ◌∙◌}
use mathlib.Core.Bool.{Bool, true, false, not, cond}
use mathlib.Core.List.{List, [], ◌∷◌, ◌++◌}
use Prim.Native.Nat.{ℕ, suc, ◌+◌, ◌*◌, ◌≤◌, ◌<◌}
use native.Mathlib.Omega.{arith}
use lib.Dec.{eqb, ltb}
use lib.ListN.{length}
use borrow.Author.Tests.{eqb-true}
use Rattle.config.specs.Limits.{record_words}
use Rattle.config.proofs.Lists.{All, all_map, all_front}
use Rattle.table.specs.declared.Entry.{Entry}
use Rattle.table.specs.declared.TemplateRecord.{TemplateRecord}
use Rattle.table.specs.Layout.{limits_of, total_word, held_count, entry_count, chance_count, entries_at, records_at}
use Rattle.table.specs.Table.{table_of, index, records_from, tally}
use Rattle.table.specs.WellFormed.{well_formed}
use Rattle.table.proofs.Words.{length_entries, length_records, records_behind}
use Rattle.table.specs.Reads.{label_of, label_or_none, live_count}
use Rattle.table.proofs.Facts.{LegalWords, words_say, differ_front}
use Rattle.table_entries.specs.Sums.{summed}
use Rattle.table_entries.proofs.LabelSums.{zeros}
use Rattle.cache_model.specs.Bodies.{Template, size, sum_templates, expired}
use Rattle.cache_model.specs.Removal.{evictions}
use Rattle.pending_flows.specs.View.{templates_at}
use Rattle.pending_flows.proofs.Templates.{length_templates, live_bodies_lem}
use Rattle.pending_flows.proofs.Questions.{first_records}
use Rattle.table_view.proofs.Tied.{Tied, words_tied, front_alone}
use Rattle.table_view.proofs.Swept.{Within, placed_within}
use Rattle.table_view.proofs.Removed.{placed_short}
use Rattle.table_view.proofs.Totals.{lens_total}
use Rattle.offer_plan.specs.Plan.{live_test, live_bodies, LiveRead}
use Rattle.offer_plan.proofs.RecordReads.{Sized, Counted}
use Rattle.offer_plan.proofs.Sums.{sizes_summed, live_summed}

-- no more templates go than there are
pub evictions_few : (most more : ℕ) (ts : List Template) → evictions most more ts ≤ length ts
unfolding evictions
evictions_few most more [] = omega arith
evictions_few most more (t ∷ ts) = by_test (ltb most (sum_templates size (t ∷ ts) + more)) (evictions_few most more ts)
  where
    by_test : (x : Bool) → evictions most more ts ≤ length ts →
        cond x (suc (evictions most more ts)) 0 ≤ length (t ∷ ts)
    by_test true ih = omega arith
    by_test false ih = omega arith

module _ (w b : List ℕ) (ok : well_formed w (length b) ≡ true) where
  abbrev held : List TemplateRecord
  held = (table_of w).held

  abbrev es : List Entry
  es = (table_of w).entries

  abbrev from : ℕ
  from = records_at (limits_of w)

  legal : LegalWords w (length b)
  legal = words_say w (length b) ok

  pub rows : Tied (held ++ (table_of w).handed) es (index w)
  rows = words_tied w (length b) legal

  pub labels_small : All (λ r. r.label < 1024) held
  labels_small = all_front (λ r. r.label < 1024) held (table_of w).handed rows.labels_small

  -- the label of an id belongs to the held record with that key alone
  pub held_alone : (id : ℕ) → All (λ u. eqb (label_or_none (label_of id held)) u.label ≡ eqb id u.key) held
  held_alone id = front_alone id held (table_of w).handed rows

  -- so that it has as many live bodies as the id
  pub held_seen : (id clock m : ℕ) → m ≡ live_bodies w id clock →
      All (λ u. eqb id u.key ≡ true → m ≡ live_count (limits_of w).ttl clock u.label es) held
  held_seen id clock m seen =
      all_map (λ u. eqb (label_or_none (label_of id held)) u.label ≡ eqb id u.key) _
      (λ u alone key. seen
      ∙ ap (λ (k : ℕ). live_count (limits_of w).ttl clock k es)
      (eqb-true (label_or_none (label_of id held)) u.label (alone ∙ key))) held (held_alone id)

  pub within : Within (length b) es
  within =
      let most = (limits_of w).max_total_bytes in
      all_map (λ e. e.place + e.len ≤ most) (λ e. e.place + e.len ≤ length b)
      (λ e h. omega (arith, legal.limits_legal_lem.bytes_enough)) es
      (placed_within 0 most es legal.table_legal_lem.entries_placed)

  pub short : All (λ e. e.len ≤ 18446744073709551615) es
  short =
      let most = (limits_of w).max_total_bytes in
      placed_short 0 most 18446744073709551615 es (omega (arith, legal.limits_legal_lem.total_small))
      legal.table_legal_lem.entries_placed

  pub entries_few : length es ≤ 262144
  entries_few =
      omega (arith, length_entries w entries_at (entry_count w), legal.entries_fit, legal.limits_legal_lem.bodies_few)

  pub some_templates : 0 < (limits_of w).max_pending_flows
  some_templates = legal.limits_legal_lem.some_templates

  pub held_sized : (clock : ℕ) → Sized b es (summed (live_test None clock) true zeros es) held
  held_sized clock =
      all_map (λ r. r.label < 1024) _
      (λ r s. sizes_summed b r.label s es within short clock (limits_of w).max_total_bytes
      (omega (arith, legal.limits_legal_lem.total_small)) legal.table_legal_lem.entries_placed) held labels_small

  pub held_counted : (clock : ℕ) →
      Counted b es (λ x. not (expired (limits_of w).ttl clock x))
      (summed (live_test (limits_of w).ttl clock) false zeros
      es) held
  held_counted clock =
      all_map (λ r. r.label < 1024) _
      (λ r s. live_summed b r.label s es within short (limits_of w).ttl clock (omega (arith, entries_few))) held
      labels_small

  pub held_read : (clock : ℕ) → LiveRead (limits_of w).ttl clock held es
  held_read clock = record {
    some = all_front (λ r. 0 < r.count) held (table_of w).handed rows.some_bodies;
    counts = all_front (λ r. r.count ≡ tally r.label es) held (table_of w).handed rows.counts_right;
    live = all_map (λ r. r.label < 1024) _
        (λ r s. live_bodies_lem b (limits_of w).ttl clock r.label es
        ∙ sym (live_summed b r.label s es within short (limits_of w).ttl clock (omega (arith, entries_few)))) held
        labels_small;
  }

  pub total_held : total_word w ≡ sum_templates size (templates_at b es held)
  total_held =
      legal.table_legal_lem.total_right
      ∙ lens_total b held es (differ_front (λ r. r.label) held (table_of w).handed rows.labels_differ) within

  -- the held records, and what is handed out
  pub held_are : records_from w from (held_count w) ≡ held
  held_are = sym (first_records w from (held_count w) (chance_count w))

  pub handed_are : records_from w (from + record_words * held_count w) (chance_count w) ≡ (table_of w).handed
  handed_are = sym (records_behind w from (held_count w) (chance_count w))

  held_long : length held ≡ held_count w
  held_long = ap length (sym held_are) ∙ length_records w from (held_count w)

  pub evicted_few : (most more : ℕ) → evictions most more (templates_at b es held) ≤ held_count w
  evicted_few most more =
      omega (arith, evictions_few most more (templates_at b es held), length_templates b es held, held_long)

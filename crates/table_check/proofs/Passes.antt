-- The three passes over a table and its index are together `table_legal`. Assumes nothing.
use mathlib.Core.Path.{◌≡◌, refl, sym, ◌∙◌}
use mathlib.Core.Bool.{Bool, true, false, ◌&&◌}
use mathlib.Core.List.{List, ◌++◌}
use Prim.Native.Nat.{ℕ, ◌≤◌, ◌<◌}
use native.Mathlib.Omega.{arith}
use lib.Dec.{ltb}
use lib.ListN.{length, get_or, replicate, length-replicate, length-map}
use borrow.Author.Tests.{ltb-true, lt-ltb}
use Rattle.config.proofs.Tests.{and_left, and_right, and_both, same_test}
use Rattle.config.proofs.Lists.{All, all_map, all_both}
use Rattle.table.specs.declared.Entry.{Entry}
use Rattle.table.specs.declared.TemplateRecord.{TemplateRecord}
use Rattle.table.specs.Table.{Table, has_label, tally, sum_lens}
use Rattle.table.specs.WellFormed.{index_rises, table_legal}
use Rattle.table.specs.Passes.{first_label}
use Rattle.table_passes.specs.Passes.{labels_below, records_pass, allowed_by}
use Rattle.table_entry_test.specs.EntriesPass.{entries_pass}
use Rattle.table.proofs.Facts.{every_says, every_holds, Differ, LegalRecord, LegalEntry, LegalTable, table_says}
use Rattle.table.proofs.Facts.{table_holds}
use Rattle.table.proofs.Draws.{sum_of, sum_zero, sum_replicate, draws, draws_exact, exact_draws}
use Rattle.table.proofs.Index.{index_differs}
use Rattle.table.proofs.Labels.{absent_says, each_label, absent_tally, sum_but, held_lens, labels_of, occurs_tally}
use Rattle.table_check.proofs.Counted.{allowed_absent, allowed_sum, records_say, records_hold}
use Rattle.table_check.proofs.Counted.{allowed_tally, LegalEntries, entries_say, entries_hold}

-- the passes with room for the allowances of n labels
module _ (n : ℕ) (t : Table) (is : List ℕ) where
  -- what the labels are allowed before the records
  abbrev no_allowance : List ℕ
  no_allowance = replicate n 0

  none_allowed : (i : ℕ) → get_or no_allowance i 0 ≡ 0
  none_allowed i = sum_zero no_allowance i (omega (arith, sum_replicate n 0))

  none_long : length no_allowance ≡ n
  none_long = length-replicate {A = ℕ} n 0

  abbrev all : List TemplateRecord
  all = t.held ++ t.handed

  abbrev full : List ℕ
  full = allowed_by no_allowance all

  abbrev out : ℕ
  out = first_label t.handed

  abbrev size : ℕ
  size = t.limits.max_entry_size_bytes

  abbrev most : ℕ
  most = t.limits.max_total_bytes

  abbrev records_test : Bool
  records_test = records_pass t.limits.max_entries_per_template (length t.entries) no_allowance 0 all

  abbrev entries_test : Bool
  entries_test = entries_pass size most out t.total 0 full 0 t.entries

  -- the passes, as the code makes them
  unfoldable pub passes : Bool
  passes = records_test && (index_rises all 0 is && entries_test)

  -- each label is allowed as many entries as it has, and each entry's label is a record's
  abbrev Counted : Type 0
  Counted = (i : ℕ) → get_or full i 0 ≡ tally i t.entries

  abbrev Known : Entry → Type 0
  Known e = has_label e.label all ≡ true

  module _ (single : length t.handed ≤ 1) where
    total_of_held : All (LegalRecord t.limits t.entries) all → Differ (λ r. r.label) all →
        All Known t.entries → sum_lens t.held t.entries ≡ sum_but out t.entries
    total_of_held legal differ known =
        held_lens t.held t.handed t.entries single differ
        (all_map (LegalRecord t.limits t.entries) (λ r. r.label < 1024)
        (λ r x. x.label_small) all legal) known

    module _ (few : n ≤ 1024) (holds : passes ≡ true) where
      records_right : records_test ≡ true
      unfolding passes
      records_right = and_left records_test _ holds

      index_right : index_rises all 0 is ≡ true
      unfolding passes
      index_right = and_left (index_rises all 0 is) _ (and_right records_test _ holds)

      entries_right : LegalEntries size most out t.total 0 full 0 t.entries
      unfolding passes
      entries_right =
          entries_say size most out t.total 0 full 0 t.entries
          (and_right (index_rises all 0 is) _ (and_right records_test _ holds))

      none_left : sum_of full ≡ length (labels_of t.entries)
      none_left =
          omega (
            arith,
            allowed_sum _ _ no_allowance 0 all records_right,
            sum_replicate n 0,
            length-map t.entries (λ (e : Entry). e.label),
          )

      counted : Counted
      counted i =
          draws_exact full (labels_of t.entries) entries_right.drawn none_left i ∙ occurs_tally i t.entries

      records_legal : All (LegalRecord t.limits t.entries) all × Differ (λ r. r.label) all
      records_legal =
          records_say t.limits _ t.entries no_allowance 0 all (omega (arith, none_long)) records_right counted

      known : All Known t.entries
      known = each_label (λ k. has_label k all ≡ true) t.entries (λ k some. by_label k some (has_label k all) refl)
        where
          by_label : (k : ℕ) → 0 < tally k t.entries → (b : Bool) → has_label k all ≡ b → b ≡ true
          by_label k some true e = refl
          by_label k some false e =
              absurd (omega (
                arith,
                counted k,
                allowed_absent no_allowance all k
                    (absent_says k all e),
                none_allowed k,
              ))

      passes_say : length is ≡ length all → LegalTable t is
      passes_say long = record {
        records_legal = records_legal.0;
        keys_differ = index_differs all is long index_right;
        labels_differ = records_legal.1;
        entries_legal = all_both Known (λ e. e.len ≤ size) (LegalEntry t.limits all)
            (λ e k s. record { label_known = k; size_legal = s }) t.entries known entries_right.short;
        entries_placed = entries_right.placed;
        total_right = omega (
          arith,
          entries_right.total_is,
          total_of_held records_legal.0 records_legal.1 known,
        );
        index_right = index_right;
      }

    module _ (bytes : most ≤ 67108864) (enough : labels_below 1024 all ≡ true → labels_below n all ≡ true)
        (legal : LegalTable t is) where
      in_room : All (λ r. r.label < length no_allowance) all
      in_room =
          rw none_long
          (every_says (λ r. ltb r.label n) (λ r. r.label < n) (λ r h. ltb-true _ _ h) all (enough (every_holds
          (λ r. ltb r.label 1024) (LegalRecord t.limits t.entries) (λ r x. lt-ltb _ _ x.label_small) all
          legal.records_legal)))

      known_there : All Known t.entries
      known_there =
          all_map (LegalEntry t.limits all) Known (λ e x. x.label_known) t.entries legal.entries_legal

      counted_there : Counted
      counted_there i =
          allowed_tally t.limits (length t.entries) t.entries no_allowance all i in_room
          legal.records_legal (λ a. none_allowed i ∙ sym (absent_tally i all t.entries a known_there))

      all_drawn : (draws full (labels_of t.entries) ≡ true) × (sum_of full ≡ length (labels_of t.entries))
      all_drawn =
          exact_draws full (labels_of t.entries) (λ i. counted_there i ∙ sym (occurs_tally i t.entries))

      entries_there : LegalEntries size most out t.total 0 full 0 t.entries
      entries_there = record {
        drawn = all_drawn.0;
        inside = omega arith;
        placed = legal.entries_placed;
        short = all_map (LegalEntry t.limits all) (λ e. e.len ≤ size) (λ e x. x.size_legal) t.entries
            legal.entries_legal;
        total_is = omega (
          arith,
          legal.total_right,
          total_of_held legal.records_legal legal.labels_differ known_there,
        );
      }

      records_there : records_test ≡ true
      records_there =
          records_hold t.limits (length t.entries) t.entries no_allowance 0 all in_room
          legal.records_legal legal.labels_differ
          (all_map (LegalRecord t.limits t.entries) (λ r. get_or no_allowance r.label 0 ≡ 0)
          (λ r x. none_allowed r.label) all legal.records_legal)
          (omega (arith, all_drawn.1, sum_replicate n 0, length-map t.entries (λ (e : Entry). e.label)))

      passes_hold : passes ≡ true
      unfolding passes
      passes_hold =
          and_both records_test _ records_there
          (and_both (index_rises all 0 is) _ legal.index_right
          (entries_hold size most out t.total bytes 0 full 0 t.entries entries_there))

    pub passes_legal : n ≤ 1024 → most ≤ 67108864 → (labels_below 1024 all ≡ true → labels_below n all ≡ true) →
        length is ≡ length all → passes ≡ table_legal t is
    passes_legal few bytes enough long =
        same_test passes (table_legal t is) (λ e. table_holds t is (passes_say few e long))
        (λ e. passes_hold bytes enough (table_says t is e))

-- The tests of the header in their order, one law for each way out, and what they leave to the passes.
-- Assumes nothing.
use Rattle.std.proofs.Common.{Result, Ok, Err}
use Rattle.std.specs.Prelude.{⊤}
use Rattle.table.specs.declared.Damaged.{Damaged}
use mathlib.Core.Path.{◌≡◌, refl, ap, sym, subst, ◌∙◌}
use mathlib.Core.Bool.{Bool, true, false, ◌&&◌, and_assoc}
use mathlib.Core.List.{List}
use Prim.Native.Nat.{ℕ, ◌+◌, ◌≤◌, ◌<◌}
use lib.Dec.{eqb, leb}
use lib.ListN.{length}
use borrow.Author.Tests.{leb-true, le-leb, lt-leb, eq-eqb}
use Rattle.config.specs.declared.PendingFlowsConfig.{PendingFlowsConfig}
use Rattle.config.specs.declared.ConfigRefusal.{ConfigRefusal}
use Rattle.config.specs.declared.ConfigRefusal.TheVariants.{NoTemplates, NoEntries, EntrySize, TotalBytes, Areas}
use Rattle.config.specs.Limits.{header_words, max_bodies, refusal_number, answer_number, config_number}
use Rattle.table.specs.Layout.{limits_of, ttl_set, held_count, chance_count}
use Rattle.table.specs.Table.{table_of, index}
use Rattle.table.specs.WellFormed.{limits_legal, flags_legal, counts_legal, table_legal, well_formed}
use Rattle.table_check.specs.Header.{HeaderLegal}
use Rattle.table_watch.specs.declared.LabelSeen.{LabelSeen}
use Rattle.table_watch.specs.Watch.{judged}
use Rattle.config.proofs.Limits.{LegalLimits, limits_say, cap_small}
use Rattle.config.proofs.Tests.{and_left, and_right, and_fails, and_holds}

refused_number : (x : ConfigRefusal) → eqb (refusal_number x) 0 ≡ false
refused_number NoTemplates = refl
refused_number NoEntries = refl
refused_number EntrySize = refl
refused_number TotalBytes = refl
refused_number Areas = refl

-- the whole test
module _ (w : List ℕ) (bytes : ℕ) where
  pub short_header : length w < header_words → false ≡ well_formed w bytes
  unfolding well_formed
  short_header h = rw (lt-leb header_words (length w) h)

  module _ (long : header_words ≤ length w) (l : PendingFlowsConfig) (is : l ≡ limits_of w) (a : Result ⊤ ConfigRefusal)
      (said : answer_number a ≡ config_number l bytes (length w)) where
    number_said : config_number (limits_of w) bytes (length w) ≡ answer_number a
    number_said = ap (λ (c : PendingFlowsConfig). config_number c bytes (length w)) (sym is) ∙ sym said

    pub limits_refused : (x : ConfigRefusal) → a ≡ Err x → false ≡ well_formed w bytes
    unfolding well_formed
    limits_refused x e =
        rw (le-leb header_words (length w) long, number_said, e, refused_number x)

    module _ (accepted : a ≡ Ok tt) where
      legal : LegalLimits l bytes (length w)
      legal = limits_say l bytes (length w) (sym said ∙ ap answer_number accepted)

      pub has_template : 0 < (limits_of w).max_pending_flows
      has_template = subst (λ (c : PendingFlowsConfig). 0 < c.max_pending_flows) is legal.some_templates

      pub few_bodies : max_bodies (limits_of w) ≤ 262144
      few_bodies = subst (λ (c : PendingFlowsConfig). max_bodies c ≤ 262144) is legal.bodies_few

      -- the header's first tests hold, and leave it to the others
      left_to : (r : Bool) → r ≡ flags_legal w && counts_legal w && table_legal (table_of w) (index w) →
          r ≡ well_formed w bytes
      unfolding well_formed
      left_to r e =
          and_holds r (leb header_words (length w)) _ (le-leb header_words (length w) long)
          (and_holds r (limits_legal w bytes) _ (eq-eqb _ _ (number_said ∙ ap answer_number accepted))
          (e ∙ and_assoc (flags_legal w) (counts_legal w) (table_legal (table_of w) (index w))))

      module _ (t : Bool) (told : t ≡ flags_legal w && counts_legal w) where
        pub counts_wrong : t ≡ false → false ≡ well_formed w bytes
        counts_wrong e = left_to false (and_fails (flags_legal w && counts_legal w) _ (sym told ∙ e))

        module _ (holds : t ≡ true) where
          table_decides : table_legal (table_of w) (index w) ≡ well_formed w bytes
          table_decides = left_to _ (and_holds _ (flags_legal w && counts_legal w) _ (sym told ∙ holds) refl)

          pub table_seen : (seen : LabelSeen) {r : Result LabelSeen Damaged} → r ≡ judged (table_legal (table_of w) (index w)) seen →
              r ≡ judged (well_formed w bytes) seen
          table_seen seen e = e ∙ ap (λ (t : Bool). judged t seen) table_decides

          pub header_legal : HeaderLegal l w
          header_legal =
              let both = sym told ∙ holds in
              let flags = and_left (flags_legal w) (counts_legal w) both in
              let counts = and_right (flags_legal w) (counts_legal w) both in
              let few = leb (held_count w + chance_count w) (limits_of w).max_pending_flows in
              record {
                limits_read = is;
                templates_few = legal.templates_few;
                bodies_few = legal.bodies_few;
                cap_small = cap_small l bytes (length w) legal;
                size_within = legal.size_within;
                total_small = legal.total_small;
                words_enough = legal.words_enough;
                chance_single = leb-true _ _ (and_right (leb (ttl_set w) 1) _ flags);
                records_fit = rw is (leb-true _ _ (and_left few _ counts));
                entries_fit = rw is (leb-true _ _ (and_right few _ counts));
              }

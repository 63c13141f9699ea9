-- The tests of the limits in their order, one law for each way out. Assumes nothing.
use Rattle.std.proofs.Common.{Result, Ok, Err}
use Rattle.std.specs.Prelude.{⊤}
use mathlib.Core.Path.{◌≡◌, refl, ap, sym, ◌∙◌}
use mathlib.Core.Bool.{Bool, true, false, cond}
use Prim.Native.Nat.{ℕ, ◌*◌, ◌≤◌, ◌<◌}
use native.Mathlib.Nat.{pos_of_ne-zero, lt_of_lt_of_le, le-mul_of_pos_right, mul_comm}
use native.Mathlib.Omega.{arith}
use lib.Dec.{eqb, leb}
use borrow.Author.Tests.{eq-eqb, ne_eqb, lt-ltb, le-ltb}
use Rattle.config.specs.declared.PendingFlowsConfig.{PendingFlowsConfig}
use Rattle.config.specs.declared.ConfigRefusal.{ConfigRefusal}
use Rattle.config.specs.declared.ConfigRefusal.TheVariants.{NoTemplates, NoEntries, EntrySize, TotalBytes}
use Rattle.config.specs.declared.ConfigRefusal.TheVariants.{Areas}
use Rattle.config.specs.Limits.{refusal_number, answer_number, words_needed, limits_number, areas_hold, config_number}

module _ (c : PendingFlowsConfig) where
  abbrev templates : ℕ
  templates = c.max_pending_flows

  abbrev entries : ℕ
  entries = c.max_entries_per_template

  abbrev size : ℕ
  size = c.max_entry_size_bytes

  abbrev total : ℕ
  total = c.max_total_bytes

  pub no_templates : templates ≡ 0 → 1 ≡ limits_number c
  unfolding limits_number
  no_templates h = rw (eq-eqb templates 0 h)

  module _ (some_templates : templates ≡ 0 → ⊥) where
    pub no_entries : entries ≡ 0 → 2 ≡ limits_number c
    unfolding limits_number
    no_entries h = rw (ne_eqb templates 0 some_templates, eq-eqb entries 0 h)

    module _ (some_entries : entries ≡ 0 → ⊥) where
      pub no_size : size ≡ 0 → 3 ≡ limits_number c
      unfolding limits_number
      no_size h = rw (ne_eqb templates 0 some_templates, ne_eqb entries 0 some_entries, eq-eqb size 0 h)

      module _ (some_size : size ≡ 0 → ⊥) where
        pub large_size : 65531 < size → 3 ≡ limits_number c
        unfolding limits_number
        large_size h =
            rw (
              ne_eqb templates 0 some_templates,
              ne_eqb entries 0 some_entries,
              ne_eqb size 0 some_size,
              lt-ltb 65531 size h,
            )

        module _ (small_size : size ≤ 65531) where
          pub no_total : total ≡ 0 → 4 ≡ limits_number c
          unfolding limits_number
          no_total h =
              rw (
                ne_eqb templates 0 some_templates,
                ne_eqb entries 0 some_entries,
                ne_eqb size 0 some_size,
                le-ltb 65531 size small_size,
                eq-eqb total 0 h,
              )

          module _ (some-total : total ≡ 0 → ⊥) where
            pub small_total : total < size → 4 ≡ limits_number c
            unfolding limits_number
            small_total h =
                rw (
                  ne_eqb templates 0 some_templates,
                  ne_eqb entries 0 some_entries,
                  ne_eqb size 0 some_size,
                  le-ltb 65531 size small_size,
                  ne_eqb total 0 some-total,
                  lt-ltb total size h,
                )

            pub within_limits : size ≤ total → 0 ≡ limits_number c
            unfolding limits_number
            within_limits h =
                rw (
                  ne_eqb templates 0 some_templates,
                  ne_eqb entries 0 some_entries,
                  ne_eqb size 0 some_size,
                  le-ltb 65531 size small_size,
                  ne_eqb total 0 some-total,
                  le-ltb total size h,
                )

  -- legal limits have a template
  pub some_template : 0 ≡ limits_number c → 0 < templates
  some_template e = pos_of_ne-zero (λ h. let z : 0 ≡ 1 = e ∙ sym (no_templates h) in omega arith)

  module _ (bytes words : ℕ) where
    pub many_templates : 1024 < templates → false ≡ areas_hold c bytes words
    unfolding areas_hold
    many_templates h = rw (lt-ltb 1024 templates h)

    module _ (few_templates : templates ≤ 1024) where
      pub many_bodies : 262144 < templates * entries → false ≡ areas_hold c bytes words
      unfolding areas_hold
      many_bodies h = rw (le-ltb 1024 templates few_templates, lt-ltb 262144 (templates * entries) h)

      -- where even one template has too many
      pub many_entries : 0 < templates → 262144 < entries → false ≡ areas_hold c bytes words
      many_entries p h = many_bodies (lt_of_lt_of_le h (rw mul_comm (le-mul_of_pos_right entries p)))

      module _ (few_bodies : templates * entries ≤ 262144) where
        pub large_total : 67108864 < total → false ≡ areas_hold c bytes words
        unfolding areas_hold
        large_total h =
            rw (
              le-ltb 1024 templates few_templates,
              le-ltb 262144 (templates * entries) few_bodies,
              lt-ltb 67108864 total h,
            )

        module _ (fair-total : total ≤ 67108864) where
          pub few_bytes : bytes < total → false ≡ areas_hold c bytes words
          unfolding areas_hold
          few_bytes h =
              rw (
                le-ltb 1024 templates few_templates,
                le-ltb 262144 (templates * entries) few_bodies,
                le-ltb 67108864 total fair-total,
                lt-ltb bytes total h,
              )

          pub by_words : {v : Bool} → total ≤ bytes → v ≡ leb (words_needed c) words → v ≡ areas_hold c bytes words
          unfolding areas_hold
          by_words h e =
              rw (
                le-ltb 1024 templates few_templates,
                le-ltb 262144 (templates * entries) few_bodies,
                le-ltb 67108864 total fair-total,
                le-ltb bytes total h,
              )
              e

    -- the answer on the limits alone is the answer, or it is left to the areas
    pub refused_limits : (a : Result ⊤ ConfigRefusal) (n : ConfigRefusal) → a ≡ Err n → answer_number a ≡ limits_number c →
        answer_number a ≡ config_number c bytes words
    unfolding config_number
    refused_limits a n e f = rw (← f, e) (by_refusal n)
      where
        by_refusal : (n : ConfigRefusal) → refusal_number n
            ≡ cond (eqb (refusal_number n) 0) (cond (areas_hold c bytes words) 0 5) (refusal_number n)
        by_refusal NoTemplates = refl
        by_refusal NoEntries = refl
        by_refusal EntrySize = refl
        by_refusal TotalBytes = refl
        by_refusal Areas = refl

    module _ (a : Result ⊤ ConfigRefusal) (accepted : a ≡ Ok tt) (said : answer_number a ≡ limits_number c) where
      none_refused : limits_number c ≡ 0
      none_refused = sym said ∙ ap answer_number accepted

      pub has_template : 0 < templates
      has_template = some_template (sym none_refused)

      pub areas_held : (v : Bool) → v ≡ areas_hold c bytes words → v ≡ true → 0 ≡ config_number c bytes words
      unfolding config_number
      areas_held v e h = rw (none_refused, ← e, h)

      pub areas_short : (v : Bool) → v ≡ areas_hold c bytes words → v ≡ false → 5 ≡ config_number c bytes words
      unfolding config_number
      areas_short v e h = rw (none_refused, ← e, h)

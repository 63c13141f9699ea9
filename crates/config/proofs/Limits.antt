-- Legal limits as plain facts: the number is 0 where they hold, and they hold where it is 0. Assumes nothing.
use mathlib.Core.Path.{◌≡◌, refl}
use mathlib.Core.Bool.{Bool, true, false, cond, false≢true}
use Prim.Native.Nat.{ℕ, suc, ◌≤◌, ◌<◌}
use native.Mathlib.Nat.{pos_of_ne-zero, le_trans, le-mul_of_pos_right, mul_comm}
use native.Mathlib.Omega.{arith}
use native.Mathlib.Decide.{ℕ_discrete}
use lib.Dec.{eqb, ltb}
use borrow.Author.Tests.{eqb-false, ltb-false, leb-true, eq-eqb, ne_eqb, le-ltb, le-leb}
use Rattle.config.specs.declared.PendingFlowsConfig.{PendingFlowsConfig}
use Rattle.config.specs.Limits.{max_bodies, words_needed, limits_number, areas_hold, config_number}

-- the limits c are legal for areas of so many bytes and words
pub record LegalLimits (c : PendingFlowsConfig) (bytes words : ℕ) : Type 0 where
  pub some_templates : 0 < c.max_pending_flows
  pub some_entries : 0 < c.max_entries_per_template
  pub some_size : 0 < c.max_entry_size_bytes
  pub size_small : c.max_entry_size_bytes ≤ 65531
  pub size_within : c.max_entry_size_bytes ≤ c.max_total_bytes
  pub templates_few : c.max_pending_flows ≤ 1024
  pub bodies_few : max_bodies c ≤ 262144
  pub total_small : c.max_total_bytes ≤ 67108864
  pub bytes_enough : c.max_total_bytes ≤ bytes
  pub words_enough : words_needed c ≤ words

-- no number, and no refusal: the test before it failed, and the later ones hold
no_number : (b : Bool) (n x : ℕ) → cond b (suc n) x ≡ 0 → (b ≡ false) × (x ≡ 0)
no_number true n x e = absurd (omega arith)
no_number false n x e = (refl, e)

no_refusal : (b x : Bool) → cond b false x ≡ true → (b ≡ false) × (x ≡ true)
no_refusal true x e = absurd (false≢true e)
no_refusal false x e = (refl, e)

both_numbers : (n m : ℕ) (h : Bool) → cond (eqb n 0) (cond h 0 (suc m)) n ≡ 0 → (n ≡ 0) × (h ≡ true)
both_numbers n m h e = by_number (ℕ_discrete n 0) h e
  where
    by_number : Dec (n ≡ 0) → (h : Bool) → cond (eqb n 0) (cond h 0 (suc m)) n ≡ 0 → (n ≡ 0) × (h ≡ true)
    by_number (no d) h f = absurd (d (rw (ne_eqb n 0 d) at f))
    by_number (yes d) true f = (d, refl)
    by_number (yes d) false f = let z : suc m ≡ 0 = rw (eq-eqb n 0 d) at f in absurd (omega arith)

module _ (c : PendingFlowsConfig) (bytes words : ℕ) where
  abbrev templates : ℕ
  templates = c.max_pending_flows

  abbrev entries : ℕ
  entries = c.max_entries_per_template

  abbrev size : ℕ
  size = c.max_entry_size_bytes

  abbrev total : ℕ
  total = c.max_total_bytes

  pub limits_say : config_number c bytes words ≡ 0 → LegalLimits c bytes words
  unfolding config_number limits_number areas_hold
  limits_say e =
      let both = both_numbers (limits_number c) 4 (areas_hold c bytes words) e in
      let no_templates = no_number (eqb templates 0) 0 _ both.0 in
      let no_entries = no_number (eqb entries 0) 1 _ no_templates.1 in
      let no_size = no_number (eqb size 0) 2 _ no_entries.1 in
      let large_size = no_number (ltb 65531 size) 2 _ no_size.1 in
      let no_total = no_number (eqb total 0) 3 _ large_size.1 in
      let small_total = no_number (ltb total size) 3 _ no_total.1 in
      let many_templates = no_refusal (ltb 1024 templates) _ both.1 in
      let many_bodies = no_refusal (ltb 262144 (max_bodies c)) _ many_templates.1 in
      let large_total = no_refusal (ltb 67108864 total) _ many_bodies.1 in
      let few_bytes = no_refusal (ltb bytes total) _ large_total.1 in
      record {
        some_templates = pos_of_ne-zero (eqb-false _ _ no_templates.0);
        some_entries = pos_of_ne-zero (eqb-false _ _ no_entries.0);
        some_size = pos_of_ne-zero (eqb-false _ _ no_size.0);
        size_small = ltb-false _ _ large_size.0;
        size_within = ltb-false _ _ small_total.0;
        templates_few = ltb-false _ _ many_templates.0;
        bodies_few = ltb-false _ _ many_bodies.0;
        total_small = ltb-false _ _ large_total.0;
        bytes_enough = ltb-false _ _ few_bytes.0;
        words_enough = leb-true _ _ few_bytes.1;
      }

  module _ (legal : LegalLimits c bytes words) where
    pub limits_hold : config_number c bytes words ≡ 0
    unfolding config_number limits_number areas_hold
    limits_hold =
        rw (
          ne_eqb templates 0 (omega arith),
          ne_eqb entries 0 (omega arith),
          ne_eqb size 0 (omega arith),
          le-ltb 65531 size legal.size_small,
          ne_eqb total 0 (omega arith),
          le-ltb total size legal.size_within,
          le-ltb 1024 templates legal.templates_few,
          le-ltb 262144 (max_bodies c) legal.bodies_few,
          le-ltb 67108864 total legal.total_small,
          le-ltb bytes total legal.bytes_enough,
          le-leb (words_needed c) words legal.words_enough,
        )

    -- one template's bodies are no more than all
    pub cap_small : entries ≤ 262144
    cap_small =
        le_trans (le-mul_of_pos_right entries legal.some_templates)
        (rw (mul_comm entries templates) legal.bodies_few)

-- The pass over the records, turn by turn. Assumes nothing.
use Rattle.std.proofs.Common.{◌≡◌, ℕ, ◌+◌, ◌*◌, ◌^◌, ◌<◌, ◌≤◌, Bool, true, false, ◌&&◌, eqb, ltb, List, [], ◌∷◌, length, drop, get_or, set, Option, Some, None, ap, refl, sym, ◌∙◌, arith, ltb-true, lt-ltb, eqb-true, leb-true, length-set}
use mathlib.Core.Bool.{false≢true}
use Rattle.std.specs.Borrow.{Bor}
use Rattle.std.specs.Slice.{IsItemAt}
use borrow.Author.Tests.{le-ltb}
use Rattle.config.proofs.Tests.{and_left, and_right}
use Rattle.table.specs.declared.TemplateRecord.{TemplateRecord}
use Rattle.table_passes.specs.Passes.{record_fresh, records_pass, allowed_by, Allowed}

pub record Fresh (cap was : ℕ) (r : TemplateRecord) : Type 0 where
  pub key_small : r.key < 65536
  pub label_free : was ≡ 0
  pub some : 0 < r.count
  pub capped : r.count ≤ cap

pub fresh_says : (cap was : ℕ) (r : TemplateRecord) → record_fresh cap was r ≡ true → Fresh cap was r
unfolding record_fresh
fresh_says cap was r e =
    let e' = and_right (ltb r.key 65536) _ e in
    let e'' = and_right (eqb was 0) _ e' in
    record {
      key_small = ltb-true _ _ (and_left (ltb r.key 65536) _ e);
      label_free = eqb-true _ _ (and_left (eqb was 0) _ e');
      some = ltb-true _ _ (and_left (ltb 0 r.count) _ e'');
      capped = leb-true _ _ (and_right (ltb 0 r.count) _ e'');
    }

-- the first i records passed: the counts of theirs sum to `sum`
pub record RecordsPassed (rs : List TemplateRecord) (cap entries : ℕ) (allow₀ allow : List ℕ) (sum i : ℕ) : Type 0
  where
    pub same_long : length allow ≡ length allow₀
    pub sum_small : sum ≤ 262144 * i
    pub test : records_pass cap entries allow sum (drop i rs) ≡ records_pass cap entries allow₀ 0 rs
    pub filled : allowed_by allow (drop i rs) ≡ allowed_by allow₀ rs

pub no_record_passed : (rs : List TemplateRecord) (cap entries : ℕ) (allow : List ℕ) →
    RecordsPassed rs cap entries allow allow 0 0
no_record_passed rs cap entries allow = record {
  same_long = refl;
  sum_small = omega arith;
  test = refl;
  filled = refl;
}

module _ {rs : List TemplateRecord} {cap entries : ℕ} {allow₀ allow : List ℕ} {sum i : ℕ}
    (inv : RecordsPassed rs cap entries allow₀ allow sum i) where
  pub records_passed : drop i rs ≡ [] → Allowed cap entries rs allow₀ allow (eqb sum entries)
  unfolding records_pass allowed_by
  records_passed none = record { test = rw none at inv.test; filled = λ _. rw none at inv.filled }

  -- the allowances matter only where the test holds
  record_fails : (allow' : List ℕ) → false ≡ records_pass cap entries allow₀ 0 rs →
      Allowed cap entries rs allow₀ allow' false
  record_fails allow' e = record { test = e; filled = λ f. absurd (false≢true f) }

  module _ (r : TemplateRecord) (some : drop i rs ≡ r ∷ drop (i + 1) rs) where
    next_test : ltb r.label (length allow) && (record_fresh cap (get_or allow r.label 0) r && records_pass cap
        entries (set allow r.label r.count) (sum + r.count) (drop (i + 1) rs)) ≡ records_pass cap entries allow₀ 0 rs
    unfolding records_pass
    next_test = rw some at inv.test

    module _ (o : Option (Bor ℕ)) (is : IsItemAt allow r.label o) where
      pub large_label : (allow' : List ℕ) → o ≡ None → Allowed cap entries rs allow₀ allow' false
      large_label allow' e = record_fails allow' (rw (le-ltb r.label (length allow) (rw e at is.3)) at next_test)

    module _ (o : Option (Bor ℕ)) (is : IsItemAt allow r.label o) {x : Bor ℕ} (found : o ≡ Some x) (t : Bool)
        (tested : t ≡ record_fresh cap x.now r) where
      small_label : r.label < length allow
      small_label = let inside = rw found at is.3 in inside.0

      told : t ≡ record_fresh cap (get_or allow r.label 0) r
      told =
          let was : x.now ≡ get_or allow r.label 0 = rw found at (is.4 (omega arith) 0) in
          tested ∙ ap (λ n. record_fresh cap n r) was

      pub not_fresh : (allow' : List ℕ) → t ≡ false → Allowed cap entries rs allow₀ allow' false
      not_fresh allow' e =
          record_fails allow' (rw (lt-ltb r.label (length allow) small_label, ← told, e) at next_test)

      module _ (holds : t ≡ true) (few : cap ≤ 262144) where
        fresh : Fresh cap (get_or allow r.label 0) r
        fresh = fresh_says cap (get_or allow r.label 0) r (sym told ∙ holds)

        pub record_passed : RecordsPassed rs cap entries allow₀ (set allow r.label r.count) (sum + r.count) (i + 1)
        unfolding allowed_by
        record_passed = let f = fresh in record {
          same_long = length-set allow r.label r.count ∙ inv.same_long;
          sum_small = omega arith;
          test = rw (lt-ltb r.label (length allow) small_label, ← told, holds) at next_test;
          filled = rw some at inv.filled;
        }

        pub count_fits : r.count < 2 ^ 32
        count_fits = let f = fresh in omega arith

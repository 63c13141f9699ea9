-- The pass over the entries, turn by turn. Assumes nothing.
use Rattle.std.proofs.Common.{◌≡◌, ℕ, ◌+◌, ◌-◌, ◌^◌, ◌<◌, ◌≤◌, Bool, true, false, ◌&&◌, eqb, leb, ltb, List, [], ◌∷◌, length, drop, get_or, set, refl, sym, ◌∙◌, arith, lt-ltb, le-leb, leb-true, eq-eqb, ne_eqb, length-set, ap, Option, Result, Ok, Err}
use mathlib.Core.Bool.{false≢true}
use Rattle.std.specs.Borrow.{Bor}
use Rattle.std.specs.Slice.{IsItemAt}
use Rattle.std.specs.Option.{option_copied, unwrap_or}
use Rattle.std.specs.Result.{IsErr, result_ok}
use Rattle.table.specs.declared.Damaged.{Damaged}
use borrow.Author.Tests.{lt-leb}
use Rattle.config.proofs.Tests.{and_left, and_right}
use Rattle.table.specs.declared.Entry.{Entry}
use Rattle.table.specs.Passes.{held_len, less_at}
use Rattle.table_watch.specs.declared.LabelSeen.{LabelSeen}
use Rattle.table_entry_test.specs.EntriesPass.{entry_fits, one_less, entries_pass}
use Rattle.table.proofs.Labels.{adds_within}

pub record Fits (size end : ℕ) (e : Entry) : Type 0 where
  pub short : e.len ≤ size
  pub above : end ≤ e.place
  pub begins : e.place ≤ 67108864

pub fits_says : (size end : ℕ) (e : Entry) → entry_fits size end e ≡ true → Fits size end e
unfolding entry_fits
fits_says size end e t =
    let t' = and_right (leb e.len size) _ t in
    record {
      short = leb-true _ _ (and_left (leb e.len size) _ t);
      above = leb-true _ _ (and_left (leb end e.place) _ t');
      begins = leb-true _ _ (and_right (leb end e.place) _ t');
    }

-- an allowance, by the test that decides
module _ (allowed : ℕ) where
  one_less_of : (allowed ≡ 0 → ⊥) → one_less allowed ≡ allowed - 1
  unfolding one_less
  one_less_of h = simp (ne_eqb allowed 0 h)

-- there is one refusal
pub refused : (r : Result LabelSeen Damaged) → IsErr r → r ≡ Err (record {})
refused (Ok s) h = absurd (false≢true h)
refused (Err d) h = refl

-- an allowance, as `get` reads it: where there is none it is 0
module _ (allow : List ℕ) (label : ℕ) (o : Option (Bor ℕ)) (r : Result (Bor ℕ) Damaged)
    (is : IsItemAt allow label o) (told : o ≡ result_ok r) where
  got : unwrap_or (option_copied (result_ok r)) 0 ≡ get_or allow label 0
  got = ap (λ x. unwrap_or (option_copied x) 0) (sym told) ∙ is.4 (omega arith) 0

  pub allowance_read : {x : Bor ℕ} → r ≡ Ok x → x.now ≡ get_or allow label 0
  allowance_read e = rw e at got

  pub no_allowance : {x : Damaged} → r ≡ Err x → 0 ≡ get_or allow label 0
  no_allowance e = rw e at got

-- the first i entries are passed: they end at `end`, and their held lengths sum to `held`
pub record EntriesPassed (es : List Entry) (size most out total : ℕ) (allow₀ allow : List ℕ) (end held i : ℕ) : Type 0
  where
    pub same_long : length allow ≡ length allow₀
    pub no_more : held ≤ end
    pub within : end ≤ 67108864 + size
    pub test : entries_pass size most out total end allow held (drop i es)
        ≡ entries_pass size most out total 0 allow₀ 0 es

module _ (es : List Entry) (size most out total : ℕ) where
  pub no_entry_passed : (allow : List ℕ) → EntriesPassed es size most out total allow allow 0 0 0
  no_entry_passed allow = record {
    same_long = refl;
    no_more = omega arith;
    within = omega arith;
    test = refl;
  }

module _ {es : List Entry} {size most out total : ℕ} {allow₀ allow : List ℕ} {end held i : ℕ}
    (inv : EntriesPassed es size most out total allow₀ allow end held i) where
  module _ (none : drop i es ≡ []) where
    last_test : leb end most && eqb held total ≡ entries_pass size most out total 0 allow₀ 0 es
    unfolding entries_pass
    last_test = rw none at inv.test

    pub ends_past : most < end → false ≡ entries_pass size most out total 0 allow₀ 0 es
    ends_past h = rw (lt-leb end most h) at last_test

    module _ (inside : end ≤ most) where
      pub total_wrong : (held ≡ total → ⊥) → false ≡ entries_pass size most out total 0 allow₀ 0 es
      total_wrong h = rw (le-leb end most inside, ne_eqb held total h) at last_test

      pub total_right : held ≡ total → true ≡ entries_pass size most out total 0 allow₀ 0 es
      total_right h = rw (le-leb end most inside, eq-eqb held total h) at last_test

  module _ {e : Entry} (some : drop i es ≡ e ∷ drop (i + 1) es) where
    next_test : ltb 0 (get_or allow e.label 0) && (entry_fits size end e && entries_pass size most out total
        (e.place + e.len) (less_at allow e.label) (held + held_len out e) (drop (i + 1) es))
        ≡ entries_pass size most out total 0 allow₀ 0 es
    unfolding entries_pass
    next_test = rw some at inv.test

    module _ {allowed : ℕ} (read : allowed ≡ get_or allow e.label 0) where
      pub none_left : allowed ≡ 0 → false ≡ entries_pass size most out total 0 allow₀ 0 es
      none_left h = rw (← read, h) at next_test

      module _ (some_left : allowed ≡ 0 → ⊥) (t : Bool) (told : t ≡ entry_fits size end e) where
        pub misplaced : t ≡ false → false ≡ entries_pass size most out total 0 allow₀ 0 es
        misplaced h = rw (← read, lt-ltb 0 allowed (omega arith), ← told, h) at next_test

        module _ (holds : t ≡ true) where
          fits_there : Fits size end e
          fits_there = fits_says size end e (sym told ∙ holds)

          pub end_fits : size ≤ 67108864 → e.place + e.len < 2 ^ 64
          end_fits m = let f = fits_there in omega arith

          pub held_fits : size ≤ 67108864 → {add : ℕ} → add ≡ held_len out e → held + add < 2 ^ 64
          held_fits m h = let f = fits_there in omega (arith, adds_within out e)

          later_test : entries_pass size most out total (e.place + e.len) (less_at allow e.label)
              (held + held_len out e) (drop (i + 1) es) ≡ entries_pass size most out total 0 allow₀ 0 es
          later_test = rw (lt-ltb 0 (get_or allow e.label 0) (omega arith), ← told, holds) at next_test

          pub entry_passed : {add less : ℕ} → add ≡ held_len out e → less ≡ one_less allowed →
              EntriesPassed es size most out total allow₀ (set allow e.label less) (e.place + e.len) (held + add)
              (i + 1)
          entry_passed added taken = let f = fits_there in record {
            same_long = length-set allow e.label _ ∙ inv.same_long;
            no_more = omega (arith, adds_within out e);
            within = omega arith;
            test = rw (added, taken, one_less_of allowed some_left, read) later_test;
          }

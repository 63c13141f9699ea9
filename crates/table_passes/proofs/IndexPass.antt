-- The pass along the index, turn by turn. Assumes nothing.
use Rattle.std.proofs.Common.{◌≡◌, ℕ, ◌+◌, ◌<◌, ◌≤◌, true, false, ◌&&◌, leb, ltb, List, [], ◌∷◌, length, drop, get_or, Option, Some, None, sym, ap, ◌∙◌, arith, lt-ltb, le-leb}
use borrow.Author.Tests.{le-ltb, lt-leb}
use Rattle.std.proofs.Math.ListN.{get_or-map}
use Rattle.table.specs.declared.TemplateRecord.{TemplateRecord}
use Rattle.std.specs.Borrow.{Bor}
use Rattle.std.specs.Slice.{IsItemAt}
use Rattle.table.proofs.Parts.{as_many}
use Rattle.table.specs.Parts.{template_of, templates_of}
use Rattle.table.specs.WellFormed.{key_at, index_rises}
use Rattle.table_passes.specs.Passes.{KeysSmall}

-- what `get` answers of the records
module _ (parts : List (List ℕ)) (i : ℕ) (o : Option (Bor (List ℕ))) (is : IsItemAt parts i o) where
  pub none_there : o ≡ None → length (templates_of parts) ≤ i
  none_there e = let past = rw e at is.3 in omega (arith, as_many template_of parts)

  module _ {x : Bor (List ℕ)} (e : o ≡ Some x) where
    pub known_there : i < length (templates_of parts)
    known_there = let inside = rw e at is.3 in omega (arith, as_many template_of parts, inside.0)

    pub key_there : {r : TemplateRecord} → r ≡ template_of x.now → r.key ≡ key_at (templates_of parts) i
    key_there read =
        let there : x.now ≡ get_or parts i [] = rw e at (is.4 (omega arith) []) in
        ap (λ (r : TemplateRecord). r.key)
        (read ∙ ap template_of there ∙ sym (get_or-map template_of parts i []))

-- the first i index words passed; the next key is `low` or more
pub record IndexPassed (rs : List TemplateRecord) (is : List ℕ) (low i : ℕ) : Type 0 where
  pub low_small : low ≤ 65536
  pub test : index_rises rs low (drop i is) ≡ index_rises rs 0 is

module _ {rs : List TemplateRecord} {is : List ℕ} {low i : ℕ} (inv : IndexPassed rs is low i) where
  pub index_passed : drop i is ≡ [] → true ≡ index_rises rs 0 is
  unfolding index_rises
  index_passed none = rw none at inv.test

  module _ (position : ℕ) (some : drop i is ≡ position ∷ drop (i + 1) is) where
    next_test : ltb position (length rs) && (leb low (key_at rs position) && index_rises rs (key_at rs position + 1)
        (drop (i + 1) is)) ≡ index_rises rs 0 is
    unfolding index_rises
    next_test = rw some at inv.test

    pub no_such_record : length rs ≤ position → false ≡ index_rises rs 0 is
    no_such_record h = rw (le-ltb position (length rs) h) at next_test

    module _ (known : position < length rs) (key : ℕ) (read : key ≡ key_at rs position) where
      key_test : leb low key && index_rises rs (key + 1) (drop (i + 1) is) ≡ index_rises rs 0 is
      key_test = rw (lt-ltb position (length rs) known, ← read) at next_test

      pub key_falls : key < low → false ≡ index_rises rs 0 is
      key_falls h = rw (lt-leb low key h) at key_test

      pub key_passed : KeysSmall rs → low ≤ key → IndexPassed rs is (key + 1) (i + 1)
      key_passed small h = record {
        low_small = omega (arith, small position known);
        test = rw (le-leb low key h) at key_test;
      }

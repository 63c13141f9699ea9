-- The passes that choose by the records: what is chosen is chosen from what is left. Assumes nothing.
use mathlib.Core.Path.{◌≡◌, refl, ◌∙◌}
use mathlib.Core.Bool.{Bool, true, false, cond}
use mathlib.Core.List.{List, [], ◌∷◌}
use Prim.Native.Nat.{ℕ, suc, ◌+◌, ◌-◌, ◌≤◌, ◌<◌}
use native.Mathlib.Omega.{arith}
use lib.Dec.{ltb}
use lib.ListN.{length, get_or, set, drop}
use borrow.Author.Tests.{lt-ltb, le-ltb}
use Rattle.std.specs.List.{filter}
use Rattle.table.specs.declared.TemplateRecord.{TemplateRecord}
use Rattle.table.specs.Parts.{template_of, templates_of}
use Rattle.table.proofs.Parts.{no_part, part_first}
use Rattle.table_records.specs.Choose.{set_each, evictions_of, live_records}

-- at the labels of the first i records is set what f says of them
pub record EachSet (f : TemplateRecord → ℕ) (parts : List (List ℕ)) (sums₀ sums : List ℕ) (i : ℕ) : Type 0 where
  pub same : set_each f sums (drop i (templates_of parts)) ≡ set_each f sums₀ (templates_of parts)

pub none_set : (f : TemplateRecord → ℕ) (parts : List (List ℕ)) (sums : List ℕ) → EachSet f parts sums sums 0
none_set f parts sums = record { same = refl }

module _ {f : TemplateRecord → ℕ} {parts : List (List ℕ)} {sums₀ sums : List ℕ} {i : ℕ}
    (inv : EachSet f parts sums₀ sums i) where
  pub all_set : length parts ≤ i → sums ≡ set_each f sums₀ (templates_of parts)
  unfolding set_each
  all_set h = rw (no_part template_of parts i h) at inv.same

  pub record_set : (r : TemplateRecord) (k : ℕ) (sums' : List ℕ) → i < length parts →
      r ≡ template_of (get_or parts i []) → k ≡ f r → sums' ≡ set sums r.label k → EachSet f parts sums₀ sums' (i + 1)
  unfolding set_each
  record_set r k sums' more is says stored = record {
    same = rw (stored, says) (rw (part_first template_of parts i r more is) at inv.same);
  }

-- the bodies beyond a cap, by what the label's count is
pub beyond_cap : (cap label count over : ℕ) (counts : List ℕ) → count ≡ get_or counts label 0 → over ≡ count - cap →
    over ≡ get_or counts label 0 - cap
beyond_cap cap label count over counts counted less = rw counted at less

-- the first i go, and then those of the ones that are left
pub record Evicted (room : ℕ) (sizes : List ℕ) (total : ℕ) (parts : List (List ℕ)) (held i : ℕ) : Type 0 where
  pub rest_go : evictions_of room sizes total (templates_of parts)
      ≡ i + evictions_of room sizes held (drop i (templates_of parts))

pub none_evicted : (room : ℕ) (sizes : List ℕ) (total : ℕ) (parts : List (List ℕ)) →
    Evicted room sizes total parts total 0
none_evicted room sizes total parts = record { rest_go = omega arith }

module _ {room : ℕ} {sizes : List ℕ} {total : ℕ} {parts : List (List ℕ)} {held i : ℕ}
    (inv : Evicted room sizes total parts held i) where
  pub all_evicted : length parts ≡ i → length parts ≡ evictions_of room sizes total (templates_of parts)
  unfolding evictions_of
  all_evicted h =
      let z : evictions_of room sizes held (drop i (templates_of parts)) ≡ 0 =
      rw (no_part template_of parts i (omega (arith, h))) in
      omega (arith, inv.rest_go)

  pub room_made : i < length parts → held ≤ room → i ≡ evictions_of room sizes total (templates_of parts)
  unfolding evictions_of
  room_made more h =
      let z : evictions_of room sizes held (drop i (templates_of parts)) ≡ 0 =
      rw (part_first template_of parts i (template_of (get_or parts i [])) more refl, le-ltb room held h) in
      omega (arith, inv.rest_go)

  pub record_evicted : (r : TemplateRecord) (size held' : ℕ) → i < length parts → room < held →
      r ≡ template_of (get_or parts i []) → size ≡ get_or sizes r.label 0 → held' ≡ held - size →
      Evicted room sizes total parts held' (i + 1)
  unfolding evictions_of
  record_evicted r size held' more h is sized less =
      let next : evictions_of room sizes held (drop i (templates_of parts))
      ≡ suc (evictions_of room sizes held' (drop (i + 1) (templates_of parts))) =
      rw (part_first template_of parts i r more is, lt-ltb room held h, less, sized) in
      record { rest_go = omega (arith, inv.rest_go) }

-- as many as are left of the records where those with no live bodies are left out
live_filtered : (live : List ℕ) (rs : List TemplateRecord) →
    length (filter (λ r. ltb 0 (get_or live r.label 0)) rs) ≡ live_records live rs
unfolding live_records
live_filtered live [] = refl
live_filtered live (r ∷ rs) = by_sum (ltb 0 (get_or live r.label 0)) (live_filtered live rs)
  where
    others : List TemplateRecord
    others = filter (λ r. ltb 0 (get_or live r.label 0)) rs

    by_sum : (t : Bool) → length others ≡ live_records live rs →
        length (cond t (r ∷ others) others) ≡ cond t 1 0 + live_records live rs
    by_sum true ih = omega (arith, ih)
    by_sum false ih = omega (arith, ih)

pub live_counted : (live : List ℕ) (rs : List TemplateRecord) (n : ℕ) →
    n ≡ length (filter (λ r. ltb 0 (get_or live r.label 0)) rs) → n ≡ live_records live rs
live_counted live rs n is = is ∙ live_filtered live rs

-- the lemmas of each pass
pub ruleset setting = (none_set, record_set, all_set)

pub ruleset evicting = (none_evicted, room_made, record_evicted, all_evicted)

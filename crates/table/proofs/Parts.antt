-- Entries and records whose words stand each by itself: those of a part of the words. Assumes nothing.
use Rattle.std.proofs.Common.{◌≡◌, ℕ, zero, suc, ◌+◌, ◌-◌, ◌<◌, ◌≤◌, List, [], ◌∷◌, length, take, drop, get_or, sym, refl, ap, ◌∙◌, arith, get_or-drop, get_or-take}
use Rattle.std.specs.Prelude.{map}
use Rattle.std.specs.Simd.{first_chunks}
use Rattle.std.proofs.lemmas.List.{drop-drop, take_rest, drop_all, drop_more, take-map, drop-map, length-map}
use Rattle.table.specs.Layout.{word}
use Rattle.table.specs.Table.{entry_at, record_at, entries_from, records_from, index_from}
use Rattle.table.specs.Parts.{entry_of, template_of, entries_of, templates_of, index_of}

-- the first chunks of more
first_of_more : {X : Type 0} (k n m : ℕ) (xs : List X) → n ≤ m → take n (first_chunks k m xs) ≡ first_chunks k n xs
first_of_more k zero m xs h = refl
first_of_more k (suc n) zero xs h = absurd (omega arith)
first_of_more k (suc n) (suc m) xs h = ap (λ ys. take k xs ∷ ys) (first_of_more k n m (drop k xs) (omega arith))

-- a word of the chunk at p
word_in : (w : List ℕ) (k p i : ℕ) → i < k → word (take k (drop p w)) i ≡ word w (p + i)
word_in w k p i h = get_or-take k (drop p w) i 0 h ∙ get_or-drop p w i 0

module _ (w : List ℕ) where
  entry_in : (p : ℕ) → entry_of (take 4 (drop p w)) ≡ entry_at w p
  entry_in p =
      let at : p + 0 ≡ p = omega arith in
      rw (
        word_in w 4 p 0 (omega arith),
        word_in w 4 p 1 (omega arith),
        word_in w 4 p 2 (omega arith),
        word_in w 4 p 3 (omega arith),
        at,
      )

  record_in : (p : ℕ) → template_of (take 8 (drop p w)) ≡ record_at w p
  record_in p =
      let at : p + 0 ≡ p = omega arith in
      rw (word_in w 8 p 0 (omega arith), word_in w 8 p 1 (omega arith), word_in w 8 p 2 (omega arith), at)

  entries_chunked : (n p : ℕ) → entries_of (first_chunks 4 n (drop p w)) ≡ entries_from w p n
  unfolding entries_from
  entries_chunked zero p = refl
  entries_chunked (suc n) p = rw (drop-drop 4 p w, entry_in p, entries_chunked n (p + 4))

  records_chunked : (n p : ℕ) → templates_of (first_chunks 8 n (drop p w)) ≡ records_from w p n
  unfolding records_from
  records_chunked zero p = refl
  records_chunked (suc n) p = rw (drop-drop 8 p w, record_in p, records_chunked n (p + 8))

  index_chunked : (n p : ℕ) → index_of (first_chunks 8 n (drop p w)) ≡ index_from w p n
  unfolding index_from
  index_chunked zero p = refl
  index_chunked (suc n) p = rw (drop-drop 8 p w, word_in w 8 p 3 (omega arith), index_chunked n (p + 8))

-- those of the first n of m chunks of what follows p
module _ (w : List ℕ) (p n m : ℕ) (parts : List (List ℕ)) (enough : n ≤ m) where
  abbrev pub behind : List ℕ
  behind = take (length w - p) (drop p w)

  pub entries_read : parts ≡ first_chunks 4 m behind → entries_of (take n parts) ≡ entries_from w p n
  entries_read are =
      rw (are, take_rest w p) (ap entries_of (first_of_more 4 n m (drop p w) enough) ∙ entries_chunked w n p)

  pub templates_read : parts ≡ first_chunks 8 m behind → templates_of (take n parts) ≡ records_from w p n
  templates_read are =
      rw (are, take_rest w p) (ap templates_of (first_of_more 8 n m (drop p w) enough) ∙ records_chunked w n p)

  pub index_read : parts ≡ first_chunks 8 m behind → index_of (take n parts) ≡ index_from w p n
  index_read are =
      rw (are, take_rest w p) (ap index_of (first_of_more 8 n m (drop p w) enough) ∙ index_chunked w n p)

-- there are as many as parts
pub as_many : {X : Type 0} (f : List ℕ → X) (parts : List (List ℕ)) → length (map f parts) ≡ length parts
as_many f parts = length-map parts f

-- those of the first n parts are the first n, and those of the others the others
pub first_parts : {X : Type 0} (f : List ℕ → X) (n : ℕ) (parts : List (List ℕ)) →
    map f (take n parts) ≡ take n (map f parts)
first_parts f n parts = sym (take-map f n parts)

pub other_parts : {X : Type 0} (f : List ℕ → X) (n : ℕ) (parts : List (List ℕ)) →
    map f (drop n parts) ≡ drop n (map f parts)
other_parts f n parts = sym (drop-map f n parts)

-- what the parts from the i-th on are: none, or the i-th and those behind it
module _ {X : Type 0} (f : List ℕ → X) (parts : List (List ℕ)) (i : ℕ) where
  pub no_part : length parts ≤ i → drop i (map f parts) ≡ []
  no_part h = drop_all i (map f parts) (omega (arith, as_many f parts))

  pub part_first : (x : X) → i < length parts → x ≡ f (get_or parts i []) →
      drop i (map f parts) ≡ x ∷ drop (i + 1) (map f parts)
  part_first x h is =
      sym (other_parts f i parts) ∙ ap (map f) (drop_more parts i [] h)
      ∙ rw (← is) (ap (λ xs. x ∷ xs) (other_parts f (i + 1) parts))

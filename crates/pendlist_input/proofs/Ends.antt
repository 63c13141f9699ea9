-- The first line of a text and its last newline, byte by byte; the first line among the lines. Assumes nothing.
use mathlib.Core.Path.{◌≡◌, refl, sym, ap, ◌∙◌}
use mathlib.Core.Bool.{Bool, true, false, cond}
use mathlib.Core.List.{List, [], ◌∷◌, ◌++◌}
use Prim.Native.Nat.{ℕ, zero, suc, ◌+◌, ◌≤◌, ◌<◌, min}
use native.Mathlib.Numerals.{add-one}
use native.Mathlib.Omega.{arith}
use lib.ListN.{length, get_or, take, drop, length-append, drop_of_length-le}
use lib.Seq.{length-take-le, take_at, drop_at, take-nil, take_all}
use lib.Dec.{eqb, ltb}
use borrow.Author.Tests.{eq-eqb, ne_eqb, ltb-false, ltb-true}
use Rattle.std.specs.Prelude.{unwrap_or, position}
use Rattle.std.specs.List.{position_or_len, IsFirstMatchOrLen}
use Rattle.std.proofs.lemmas.List.Sums.{position_or_len_is}
use Rattle.std.proofs.lemmas.List.{get_or_past}
use Rattle.std.proofs.lemmas.Bool.{false≢true}
use Rattle.std.proofs.lemmas.List.Recursion.{is_position_or_len}
use Rattle.pendlist_input.specs.Input.{lines_of, first_line, whole_lines}
use Rattle.pendlist_words.specs.Words.{longer}

pub first_within : (s : List ℕ) → length (first_line s) ≤ length s
unfolding first_line
first_within [] = omega arith
first_within (b ∷ s) = by_test (eqb b 10) (first_within s)
  where
    by_test : (q : Bool) → length (first_line s) ≤ length s → length (cond q [] (b ∷ first_line s)) ≤ suc (length s)
    by_test true h = omega arith
    by_test false h = omega arith

-- The first line ends at the first newline, or else at the text's end.
pub line_is_before : (text : List ℕ) → length (first_line text) ≡ position_or_len (λ b. eqb b 10) text
unfolding first_line
line_is_before text =
    is_position_or_len (λ s. length (first_line s)) (λ b. eqb b 10) refl (λ b s. by_test b s (eqb b 10)) text
  where
    by_test : (b : ℕ) (s : List ℕ) (q : Bool) →
        length (cond q [] (b ∷ first_line s)) ≡ cond q 0 (1 + length (first_line s))
    by_test b s true = refl
    by_test b s false = omega arith

pub end_found : (text : List ℕ) → unwrap_or (position (λ b. eqb b 10) text) (length text) ≡ length (first_line text)
end_found text = by_test (ltb (length (first_line text)) (length text)) refl
  where
    by_test : (q : Bool) → ltb (length (first_line text)) (length text) ≡ q →
        unwrap_or (position (λ b. eqb b 10) text) (length text) ≡ length (first_line text)
    by_test true e = rw (← line_is_before text, e)
    by_test false e = rw (← line_is_before text, e) (omega (arith, ltb-false _ _ e, first_within text))

-- The first line is a line, and the others follow its newline.
first_and_others : (s : List ℕ) → 0 < length s →
    lines_of s ≡ first_line s ∷ lines_of (drop (suc (length (first_line s))) s)
unfolding lines_of first_line
first_and_others [] h = absurd (omega arith)
first_and_others (b ∷ []) h = by_test (eqb b 10)
  where
    by_test : (q : Bool) →
        cond q ([] ∷ []) ((b ∷ []) ∷ [])
        ≡ cond q [] (b ∷ []) ∷ lines_of (drop (suc (length (cond q [] (b ∷ [])))) (b ∷ []))
    by_test true = refl
    by_test false = refl
first_and_others (b ∷ d ∷ s) h = by_test (eqb b 10) (first_and_others (d ∷ s) (omega arith))
  where
    by_test : (q : Bool) →
        lines_of (d ∷ s) ≡ first_line (d ∷ s) ∷ lines_of (drop (suc (length (first_line (d ∷ s)))) (d ∷ s)) →
        cond q ([] ∷ lines_of (d ∷ s)) (longer b (lines_of (d ∷ s)))
        ≡ cond q [] (b ∷ first_line (d ∷ s))
        ∷ lines_of (drop (suc (length (cond q [] (b ∷ first_line (d ∷ s))))) (b ∷ d ∷ s))
    by_test true e = refl
    by_test false e = ap (longer b) e

pub first_of_lines : (s : List ℕ) → 0 < length s →
    lines_of s ≡ first_line s ∷ lines_of (drop (length (first_line s) + 1) s)
first_of_lines s h = rw add-one (first_and_others s h)

pub first_is_front : (s : List ℕ) → take (length (first_line s)) s ≡ first_line s
unfolding first_line
first_is_front [] = refl
first_is_front (b ∷ s) = by_test (eqb b 10) (first_is_front s)
  where
    by_test : (q : Bool) → take (length (first_line s)) s ≡ first_line s →
        take (length (cond q [] (b ∷ first_line s))) (b ∷ s) ≡ cond q [] (b ∷ first_line s)
    by_test true e = refl
    by_test false e = ap (λ (l : List ℕ). b ∷ l) e

-- The last newline.
pub no_newline : (s : List ℕ) → ((k : ℕ) → k < length s → get_or s k 0 ≡ 10 → ⊥) → 0 ≡ whole_lines s
unfolding whole_lines
no_newline [] h = refl
no_newline (b ∷ s) h =
    let none : 0 ≡ whole_lines s = no_newline s (λ k l e. h (suc k) (omega arith) e) in
    rw (← none, ne_eqb b 10 (h 0 (omega arith)))

pub last_newline : (s : List ℕ) (i : ℕ) → i < length s → get_or s i 0 ≡ 10 →
    ((k : ℕ) → i < k → k < length s → get_or s k 0 ≡ 10 → ⊥) → i + 1 ≡ whole_lines s
unfolding whole_lines
last_newline [] i l e h = absurd (omega arith)
last_newline (b ∷ s) zero l e h =
    let none : 0 ≡ whole_lines s = no_newline s (λ k m f. h (suc k) (omega arith) (omega arith) f) in
    rw (← none, eq-eqb b 10 e)
last_newline (b ∷ s) (suc i) l e h =
    let more : i + 1 ≡ whole_lines s =
    last_newline s i (omega arith) e (λ k m n f. h (suc k) (omega arith) (omega arith) f) in
    rw (← more, ne_eqb (i + 1) 0 (omega arith)) (omega arith)

pub whole_within : (s : List ℕ) → whole_lines s ≤ length s
unfolding whole_lines
whole_within [] = omega arith
whole_within (b ∷ s) = by_test (eqb (whole_lines s) 0) (eqb b 10) (whole_within s)
  where
    by_test : (p q : Bool) → whole_lines s ≤ length s → cond p (cond q 1 0) (suc (whole_lines s)) ≤ suc (length s)
    by_test true true h = omega arith
    by_test true false h = omega arith
    by_test false q h = omega arith

-- the first line lies within its text
pub line_counted : (s : List ℕ) {end : ℕ} → end ≡ length (first_line s) → end ≡ length (take end s)
line_counted s {end} e = sym (length-take-le end s (rw e (first_within s)))

-- The first part of a text, up to its first newline and with it, and the rest: the part's first line is the text's.
pub record NextLine (text part rest : List ℕ) : Type 0 where
  pub lines : lines_of text ≡ first_line part ∷ lines_of rest
  pub shorter : length rest < length text

first_of_part : (s : List ℕ) (n : ℕ) → length (first_line s) < n → first_line (take n s) ≡ first_line s
unfolding first_line
first_of_part [] n h = rw take-nil
first_of_part (b ∷ s) zero h = absurd (omega arith)
first_of_part (b ∷ s) (suc n) h = by_test (eqb b 10) refl (first_of_part s n)
  where
    by_test : (q : Bool) → eqb b 10 ≡ q → (length (first_line s) < n → first_line (take n s) ≡ first_line s) →
        cond q [] (b ∷ first_line (take n s)) ≡ cond q [] (b ∷ first_line s)
    by_test true e more = refl
    by_test false e more = ap (λ (l : List ℕ). b ∷ l) (more (omega (arith, (rw e at h))))

at_most_length : (text : List ℕ) (i : ℕ) → IsFirstMatchOrLen (λ b. eqb b 10) text i → i ≤ length text
at_most_length text i first = by_test (ltb (length text) i) refl
  where
    by_test : (q : Bool) → ltb (length text) i ≡ q → i ≤ length text
    by_test true e =
        let none : eqb (get_or text (length text) 10) 10 ≡ false =
        first.0 (length text) 10 (omega arith) (ltb-true (length text) i e) in
        absurd (false≢true (sym none ∙ rw (get_or_past text (length text) 10 (omega arith))))
    by_test false e = ltb-false (length text) i e

-- as the library parts it at the newlines
pub part_is_line : (text part rest : List ℕ) (i : ℕ) → text ≡ part ++ rest → length part ≡ min (i + 1) (length text) →
    IsFirstMatchOrLen (λ b. eqb b 10) text i → 0 < length text → NextLine text part rest
part_is_line text part rest i joined long first some = by_end (ltb (length text) (i + 1)) refl
  where
    first_is : length (first_line text) ≡ i
    first_is =
        line_is_before text
        ∙ position_or_len_is (λ b. eqb b 10) text i 0 (at_most_length text i first) (λ k l. first.0 k 0 (omega arith) l) (λ l. first.1 l 0)

    front : take (length part) text ≡ part
    front = rw joined (take_at part rest (length part) refl)

    behind : drop (length part) text ≡ rest
    behind = rw joined (drop_at part rest (length part) refl)

    lengths : length text ≡ length part + length rest
    lengths = rw joined (length-append part rest)

    goes_on : first_line part ≡ first_line text → drop (length (first_line text) + 1) text ≡ rest →
        NextLine text part rest
    goes_on e f = record {
      lines = first_of_lines text some ∙ rw (f, e);
      shorter = omega (arith, lengths, long, some);
    }

    by_end : (q : Bool) → ltb (length text) (i + 1) ≡ q → NextLine text part rest
    by_end true e =
        let over : length text < i + 1 = ltb-true (length text) (i + 1) e in
        let all : length part ≡ length text = omega (arith, long) in
        let none : drop (length part) text ≡ [] = drop_of_length-le text (omega arith) in
        goes_on (ap first_line (sym front ∙ take_all (length part) text (omega arith)))
        (drop_of_length-le text (omega (arith, first_is)) ∙ sym none ∙ behind)
    by_end false e =
        let within : i + 1 ≤ length text = ltb-false (length text) (i + 1) e in
        let all : length part ≡ length (first_line text) + 1 = omega (arith, long, first_is) in
        goes_on (ap first_line (sym front) ∙ first_of_part text (length part) (omega arith)) (rw (← all) behind)

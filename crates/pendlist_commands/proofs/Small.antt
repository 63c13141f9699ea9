-- An id or a length is tested as soon as it is read: a line with a large one is malformed either way. Assumes nothing.
use Rattle.std.proofs.Common.{◌≡◌, refl, ap, ◌∙◌, Bool, true, false, cond, ℕ, List, leb}
use Rattle.std.specs.Prelude.{Option, Some, None, option_and_then}
use Rattle.pendlist_words.specs.Words.{word_at, number_of}
use Rattle.pendlist_commands.specs.declared.Command.TheVariants.{Offer, Drain}
use Rattle.pendlist_commands.specs.Commands.{small_of, within16, offer_of, drain_of}

module _ {A : Type 0} where
  nothing_tested : (n : ℕ) → ◌≡◌ {A = Option A} None (within16 n None)
  unfolding within16
  nothing_tested n = by_test (leb n 65535)
    where
      by_test : (q : Bool) → ◌≡◌ {A = Option A} None (cond q None None)
      by_test true = refl
      by_test false = refl

  -- the test comes as soon as the number is read, or behind the next number
  tested_first : (f : ℕ → Option A) (n : ℕ) → within16 n (f n) ≡ option_and_then f (within16 n (Some n))
  unfolding within16
  tested_first f n = by_test (leb n 65535)
    where
      by_test : (q : Bool) → cond q (f n) None ≡ option_and_then f (cond q (Some n) None)
      by_test true = refl
      by_test false = refl

  tested_before : (f : ℕ → Option A) (n : ℕ) (o : Option ℕ) →
      option_and_then (λ t. within16 n (f t)) o ≡ within16 n (option_and_then f o)
  tested_before f n (Some t) = refl
  tested_before f n None = nothing_tested n

  one_small : (f : ℕ → ℕ → Option A) (x z : Option ℕ) →
      option_and_then (λ i. option_and_then (λ t. within16 i (f i t)) z) x
      ≡ option_and_then (λ i. option_and_then (f i) z) (option_and_then (λ n. within16 n (Some n)) x)
  one_small f None z = refl
  one_small f (Some i) z = tested_before (f i) i z ∙ tested_first (λ n. option_and_then (f n) z) i

  two_small : (f : ℕ → ℕ → ℕ → Option A) (x y z : Option ℕ) →
      option_and_then (λ i. option_and_then (λ n. option_and_then (λ t. within16 i (within16 n (f i n t))) z) y) x
      ≡ option_and_then
      (λ i. option_and_then (λ n. option_and_then (f i n) z) (option_and_then (λ n. within16 n (Some n)) y))
      (option_and_then (λ n. within16 n (Some n)) x)
  two_small f None y z = refl
  two_small f (Some i) None z = nothing_tested i ∙ tested_first (λ i. None) i
  two_small f (Some i) (Some n) z =
      tested_before (λ t. within16 n (f i n t)) i z
      ∙ ap (within16 i) (one_small (f i) (Some n) z)
      ∙ tested_first
      (λ i. option_and_then (λ n. option_and_then (f i n) z) (option_and_then (λ n. within16 n (Some n)) (Some n)))
      i

module _ (ws : List (List ℕ)) where
  pub offer_by_words : offer_of ws
      ≡ option_and_then
      (λ i. option_and_then
      (λ n. option_and_then (λ t. Some (Offer (record { id = i; len = n; clock = t }))) (number_of (word_at 3 ws)))
      (small_of (word_at 2 ws)))
      (small_of (word_at 1 ws))
  unfolding offer_of small_of
  offer_by_words =
      two_small (λ i n t. Some (Offer (record { id = i; len = n; clock = t })))
      (number_of (word_at 1 ws)) (number_of (word_at 2 ws)) (number_of (word_at 3 ws))

  pub drain_by_words : drain_of ws
      ≡ option_and_then
      (λ i. option_and_then (λ t. Some (Drain (record { id = i; clock = t }))) (number_of (word_at 2 ws)))
      (small_of (word_at 1 ws))
  unfolding drain_of small_of
  drain_by_words =
      one_small (λ i t. Some (Drain (record { id = i; clock = t }))) (number_of (word_at 1 ws)) (number_of (word_at 2 ws))

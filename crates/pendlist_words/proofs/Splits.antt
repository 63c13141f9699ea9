-- The words of a line are its parts between blanks. Assumes nothing.
use Rattle.std.proofs.Common.{◌≡◌, refl, ap, ◌∙◌, cond, List, [], ◌∷◌, ℕ, ◌+◌, length, eqb, count_by, sym, unwrap_or}
use Rattle.std.specs.Borrow.{Bor}
use Rattle.std.specs.Prelude.{Option, Some, None, option_map}
use Rattle.std.specs.List.{slice_split, onto_first, slice_get}
use Rattle.std.proofs.lemmas.List.Splits.{length-slice_split}
use Rattle.std.proofs.lemmas.Option.{unwrap_or-slice_get}
use Rattle.pendlist_words.specs.Words.{longer, words_of, word_at}

onto_is_longer : (b : ℕ) (ws : List (List ℕ)) → onto_first b ws ≡ longer b ws
onto_is_longer b [] = refl
onto_is_longer b (w ∷ ws) = refl

pub words_are_parts : (line : List ℕ) → slice_split (λ b. eqb b 32) line ≡ words_of line
unfolding words_of
words_are_parts [] = refl
words_are_parts (b ∷ s) =
    ap (λ ws. cond (eqb b 32) ([] ∷ ws) (onto_first b ws)) (words_are_parts s)
    ∙ ap (λ ws. cond (eqb b 32) ([] ∷ words_of s) ws) (onto_is_longer b (words_of s))

pub blanks_part_words : (line : List ℕ) {n : ℕ} → n ≡ count_by (λ b. eqb b 32) line → length (words_of line) ≡ n + 1
blanks_part_words line e =
    rw e (ap length (sym (words_are_parts line)) ∙ length-slice_split (λ b. eqb b 32) line)

lent_part : (r : Option (Bor (List ℕ))) (d : Bor (List ℕ)) →
    (unwrap_or r d).now ≡ unwrap_or (option_map (λ x. x.now) r) d.now
lent_part None d = refl
lent_part (Some x) d = refl

-- word k is part k, and the empty word where there is none
pub part_is_word : (line : List ℕ) (k : ℕ) (r : Option (Bor (List ℕ))) (d : Bor (List ℕ)) → d.now ≡ [] →
    option_map (λ x. x.now) r ≡ slice_get (slice_split (λ b. eqb b 32) line) k →
    (unwrap_or r d).now ≡ word_at k (words_of line)
part_is_word line k r d none e =
    lent_part r d ∙ rw (e, none, words_are_parts line) (unwrap_or-slice_get (words_of line) k [])

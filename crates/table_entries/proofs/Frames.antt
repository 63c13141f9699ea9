-- Which entries words have, where words below or above a place are the same, and after an entry is stored.
-- Assumes nothing.
use Rattle.std.proofs.Common.{◌≡◌, ℕ, zero, suc, ◌+◌, ◌*◌, ◌<◌, ◌≤◌, List, [], ◌∷◌, ◌++◌, length, take, drop, set, refl, ap, ◌∙◌, add-zero, add-one, arith, length-set, get_or-set_other, get_or-set_same, drop-set-lt}
use lib.Seq.{take-set-le}
use Rattle.config.specs.Limits.{entry_words}
use Rattle.table.specs.declared.Entry.{Entry}
use Rattle.table.specs.Layout.{word}
use Rattle.table.specs.Table.{entry_at, entries_from}
use Rattle.table.proofs.Words.{word_below, word_above}
use Rattle.table_entries.specs.Sweep.{put_entry}

-- an entry is its four words
entry_same : (w w' : List ℕ) (p : ℕ) → ((i : ℕ) → p ≤ i → i < p + entry_words → word w i ≡ word w' i) →
    entry_at w p ≡ entry_at w' p
entry_same w w' p f =
    rw (
      f p (omega arith) (omega arith),
      f (p + 1) (omega arith) (omega arith),
      f (p + 2) (omega arith) (omega arith),
      f (p + 3) (omega arith) (omega arith),
    )

entries_same : (w w' : List ℕ) (p k : ℕ) → ((i : ℕ) → p ≤ i → i < p + entry_words * k → word w i ≡ word w' i) →
    entries_from w p k ≡ entries_from w' p k
unfolding entries_from
entries_same w w' p zero f = refl
entries_same w w' p (suc k) f =
    rw (
      entry_same w w' p (λ i a b. f i a (omega arith)),
      entries_same w w' (p + entry_words) k (λ i a b. f i (omega arith) (omega arith)),
    )

pub entry_below : (w w' : List ℕ) (p n : ℕ) → p + entry_words ≤ n → take n w ≡ take n w' → entry_at w p ≡ entry_at w' p
entry_below w w' p n h e = entry_same w w' p (λ i a b. word_below w w' n e i (omega arith))

pub entries_below : (w w' : List ℕ) (p k n : ℕ) → p + entry_words * k ≤ n → take n w ≡ take n w' →
    entries_from w p k ≡ entries_from w' p k
entries_below w w' p k n h e = entries_same w w' p k (λ i a b. word_below w w' n e i (omega arith))

pub entries_above : (w w' : List ℕ) (p k n : ℕ) → n ≤ p → drop n w ≡ drop n w' → entries_from w p k ≡ entries_from w'
    p k
entries_above w w' p k n h e = entries_same w w' p k (λ i a b. word_above w w' n e i (omega arith))

-- one entry more, behind the others
pub entries_more : (w : List ℕ) (p k : ℕ) →
    entries_from w p (k + 1) ≡ entries_from w p k ++ (entry_at w (p + entry_words * k) ∷ [])
unfolding entries_from
entries_more w p k = ap (entries_from w p) (add-one k) ∙ go p k
  where
    go : (p k : ℕ) → entries_from w p (suc k) ≡ entries_from w p k ++ (entry_at w (p + entry_words * k) ∷ [])
    go p zero = rw add-zero
    go p (suc k) =
        let e : p + entry_words + entry_words * k ≡ p + entry_words * suc k = omega arith in
        ap (λ (l : List Entry). entry_at w p ∷ l)
        (go (p + entry_words) k ∙ ap (λ (j : ℕ). entries_from w (p + entry_words) k ++ (entry_at w j ∷ [])) e)

-- an entry stored from p on
module _ (w : List ℕ) (p : ℕ) (e : Entry) where
  pub length_put : length (put_entry w p e) ≡ length w
  unfolding put_entry
  length_put = simp length-set

  pub take_put : (n : ℕ) → n ≤ p → take n (put_entry w p e) ≡ take n w
  unfolding put_entry
  take_put n h =
      rw (
        take-set-le n _ (p + 3) _ (omega arith),
        take-set-le n _ (p + 2) _ (omega arith),
        take-set-le n _ (p + 1) _ (omega arith),
        take-set-le n _ p _ (omega arith),
      )

  pub drop_put : (n : ℕ) → p + entry_words ≤ n → drop n (put_entry w p e) ≡ drop n w
  unfolding put_entry
  drop_put n h =
      rw (
        drop-set-lt n _ (p + 3) _ (omega arith),
        drop-set-lt n _ (p + 2) _ (omega arith),
        drop-set-lt n _ (p + 1) _ (omega arith),
        drop-set-lt n _ p _ (omega arith),
      )

  module _ (room : p + entry_words ≤ length w) where
    label_put : word (put_entry w p e) p ≡ e.label
    unfolding put_entry
    label_put =
        rw (
          get_or-set_other {A = ℕ} _ (p + 3) p _ 0 (λ d. omega arith),
          get_or-set_other {A = ℕ} _ (p + 2) p _ 0 (λ d. omega arith),
          get_or-set_other {A = ℕ} _ (p + 1) p _ 0 (λ d. omega arith),
          get_or-set_same w p _ 0 (omega arith),
        )

    place_put : word (put_entry w p e) (p + 1) ≡ e.place
    unfolding put_entry
    place_put =
        rw (
          get_or-set_other {A = ℕ} _ (p + 3) (p + 1) _ 0 (λ d. omega arith),
          get_or-set_other {A = ℕ} _ (p + 2) (p + 1) _ 0 (λ d. omega arith),
          get_or-set_same (set w p e.label) (p + 1) _ 0 (simp length-set (omega arith)),
        )

    len_put : word (put_entry w p e) (p + 2) ≡ e.len
    unfolding put_entry
    len_put =
        rw (
          get_or-set_other {A = ℕ} _ (p + 3) (p + 2) _ 0 (λ d. omega arith),
          get_or-set_same (set (set w p e.label) (p + 1) e.place) (p + 2) _ 0 (simp length-set (omega arith)),
        )

    clock_put : word (put_entry w p e) (p + 3) ≡ e.clock
    unfolding put_entry
    clock_put =
        get_or-set_same (set (set (set w p e.label) (p + 1) e.place) (p + 2) e.len) (p + 3) e.clock 0
        (simp length-set (omega arith))

    pub entry_put : entry_at (put_entry w p e) p ≡ e
    entry_put = rw (label_put, place_put, len_put, clock_put)

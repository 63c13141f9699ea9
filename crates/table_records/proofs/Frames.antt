-- What records and index words read, and what stores leave of them. Assumes nothing.
use mathlib.Core.Path.{◌≡◌, refl, sym, ap, ◌∙◌}
use mathlib.Core.List.{List, [], ◌∷◌, ◌++◌}
use Prim.Native.Nat.{ℕ, zero, suc, ◌+◌, ◌*◌, ◌≤◌, ◌<◌}
use native.Mathlib.Omega.{arith}
use lib.ListN.{length, set, take, drop, length-set}
use lib.Seq.{get_or-set_same, get_or-set_other, take-set-le, drop-set-lt}
use Rattle.config.specs.Limits.{record_words}
use Rattle.table.specs.declared.TemplateRecord.{TemplateRecord}
use Rattle.table.specs.Layout.{word}
use Rattle.table.specs.Table.{record_at, records_from, index_from}
use Rattle.table.proofs.Words.{word_below, word_above}
use Rattle.table_records.specs.Close.{put_record}

-- a word after a store
pub word_other : (w : List ℕ) (i j a : ℕ) → (j ≡ i → ⊥) → word (set w i a) j ≡ word w j
word_other w i j a h = get_or-set_other w i j a 0 h

pub word_same : (w : List ℕ) (i a : ℕ) → i < length w → word (set w i a) i ≡ a
word_same w i a h = get_or-set_same w i a 0 h

-- records read the first three words of each place
record_same : (w w' : List ℕ) (p : ℕ) → ((c : ℕ) → c < 3 → word w (p + c) ≡ word w' (p + c)) →
    record_at w p ≡ record_at w' p
record_same w w' p f =
    let e : word w p ≡ word w' p = (let z : p + 0 ≡ p = omega arith in rw z at (f 0 (omega arith))) in
    rw (e, f 1 (omega arith), f 2 (omega arith))

pub records_same : (w w' : List ℕ) (p k : ℕ) →
    ((i q : ℕ) → i < k → p + record_words * i ≤ q → q < p + record_words * i + 3 → word w q ≡ word w' q) →
    records_from w p k ≡ records_from w' p k
unfolding records_from
records_same w w' p zero f = refl
records_same w w' p (suc k) f =
    rw (
      record_same w w' p (λ c h. f 0 (p + c) (omega arith) (omega arith) (omega arith)),
      records_same w w' (p + record_words) k (λ i q a b d. f (i + 1) q (omega arith) (omega arith) (omega arith)),
    )

pub records_below : (w w' : List ℕ) (p k n : ℕ) → p + record_words * k ≤ n → take n w ≡ take n w' →
    records_from w p k ≡ records_from w' p k
records_below w w' p k n h e = records_same w w' p k (λ i q a b d. word_below w w' n e q (omega arith))

pub records_above : (w w' : List ℕ) (p k n : ℕ) → n ≤ p → drop n w ≡ drop n w' →
    records_from w p k ≡ records_from w' p k
records_above w w' p k n h e = records_same w w' p k (λ i q a b d. word_above w w' n e q (omega arith))

-- the index reads the fourth word of each place
pub index_same : (w w' : List ℕ) (p k : ℕ) →
    ((i q : ℕ) → i < k → q ≡ p + record_words * i + 3 → word w q ≡ word w' q) → index_from w p k ≡ index_from w' p k
unfolding index_from
index_same w w' p zero f = refl
index_same w w' p (suc k) f =
    rw (
      f 0 (p + 3) (omega arith) (omega arith),
      index_same w w' (p + record_words) k (λ i q a b. f (i + 1) q (omega arith) (omega arith)),
    )

pub index_above : (w w' : List ℕ) (p k n : ℕ) → n ≤ p → drop n w ≡ drop n w' → index_from w p k ≡ index_from w' p k
index_above w w' p k n h e = index_same w w' p k (λ i q a b. word_above w w' n e q (omega arith))

pub index_shifted : (w w' : List ℕ) (p p' k : ℕ) →
    ((i : ℕ) → i < k → word w (p + record_words * i + 3) ≡ word w' (p' + record_words * i + 3)) →
    index_from w p k ≡ index_from w' p' k
unfolding index_from
index_shifted w w' p p' zero f = refl
index_shifted w w' p p' (suc k) f = rw (here, index_shifted w w' (p + record_words) (p' + record_words) k later)
  where
    here : word w (p + 3) ≡ word w' (p' + 3)
    here =
        let e : p + record_words * 0 + 3 ≡ p + 3 = omega arith in
        let e' : p' + record_words * 0 + 3 ≡ p' + 3 = omega arith in
        ap (word w) (sym e) ∙ f 0 (omega arith) ∙ ap (word w') e'

    later : (i : ℕ) → i < k →
        word w (p + record_words + record_words * i + 3) ≡ word w' (p' + record_words + record_words * i + 3)
    later i h =
        let e : p + record_words * (i + 1) + 3 ≡ p + record_words + record_words * i + 3 = omega arith in
        let e' : p' + record_words * (i + 1) + 3 ≡ p' + record_words + record_words * i + 3 = omega arith in
        ap (word w) (sym e) ∙ f (i + 1) (omega arith) ∙ ap (word w') e'

-- some, and then more
pub records_add : (w : List ℕ) (p a b : ℕ) →
    records_from w p (a + b) ≡ records_from w p a ++ records_from w (p + record_words * a) b
unfolding records_from
records_add w p zero b =
    let e : zero + b ≡ b = omega arith in
    let f : p + record_words * zero ≡ p = omega arith in
    rw (e, f)
records_add w p (suc a) b =
    let e : suc a + b ≡ suc (a + b) = omega arith in
    let f : p + record_words + record_words * a ≡ p + record_words * suc a = omega arith in
    ap (records_from w p) e ∙ ap (λ (l : List TemplateRecord). record_at w p ∷ l)
    (records_add w (p + record_words) a b
    ∙ ap (λ (q : ℕ). records_from w (p + record_words) a ++ records_from w q b) f)

pub index_add : (w : List ℕ) (p a b : ℕ) →
    index_from w p (a + b) ≡ index_from w p a ++ index_from w (p + record_words * a) b
unfolding index_from
index_add w p zero b =
    let e : zero + b ≡ b = omega arith in
    let f : p + record_words * zero ≡ p = omega arith in
    rw (e, f)
index_add w p (suc a) b =
    let e : suc a + b ≡ suc (a + b) = omega arith in
    let f : p + record_words + record_words * a ≡ p + record_words * suc a = omega arith in
    ap (index_from w p) e ∙ ap (λ (l : List ℕ). word w (p + 3) ∷ l)
    (index_add w (p + record_words) a b ∙ ap (λ (q : ℕ). index_from w (p + record_words) a ++ index_from w q b) f)

pub records_one_more : (w : List ℕ) (p k : ℕ) →
    records_from w p (k + 1) ≡ records_from w p k ++ (record_at w (p + record_words * k) ∷ [])
unfolding records_from
records_one_more w p k = records_add w p k 1

pub index_one_more : (w : List ℕ) (p k : ℕ) →
    index_from w p (k + 1) ≡ index_from w p k ++ (word w (p + record_words * k + 3) ∷ [])
unfolding index_from
index_one_more w p k = index_add w p k 1

-- a record stored from word q on
module _ (w : List ℕ) (q : ℕ) (r : TemplateRecord) where
  pub length_put : length (put_record w q r) ≡ length w
  unfolding put_record
  length_put = simp length-set

  pub take_put : (n : ℕ) → n ≤ q → take n (put_record w q r) ≡ take n w
  unfolding put_record
  take_put n h =
      rw (
        take-set-le n _ (q + 2) _ (omega arith),
        take-set-le n _ (q + 1) _ (omega arith),
        take-set-le n _ q _ (omega arith),
      )

  pub drop_put : (n : ℕ) → q + 3 ≤ n → drop n (put_record w q r) ≡ drop n w
  unfolding put_record
  drop_put n h =
      rw (
        drop-set-lt n _ (q + 2) _ (omega arith),
        drop-set-lt n _ (q + 1) _ (omega arith),
        drop-set-lt n _ q _ (omega arith),
      )

  pub word_put : (i : ℕ) → (i ≡ q → ⊥) → (i ≡ q + 1 → ⊥) → (i ≡ q + 2 → ⊥) → word (put_record w q r) i ≡ word w i
  unfolding put_record
  word_put i a b c =
      rw (
        word_other _ (q + 2) i _ c,
        word_other _ (q + 1) i _ b,
        word_other w q i _ a,
      )

  module _ (room : q + 3 ≤ length w) where
    put_key : word (put_record w q r) q ≡ r.key
    unfolding put_record
    put_key =
        rw (
          word_other _ (q + 2) q _ (λ e. omega arith),
          word_other _ (q + 1) q _ (λ e. omega arith),
          word_same w q _ (omega arith),
        )

    put_label : word (put_record w q r) (q + 1) ≡ r.label
    unfolding put_record
    put_label =
        rw (
          word_other _ (q + 2) (q + 1) _ (λ e. omega arith),
          word_same (set w q r.key) (q + 1) _ (simp length-set (omega arith)),
        )

    put_count : word (put_record w q r) (q + 2) ≡ r.count
    unfolding put_record
    put_count =
        word_same (set (set w q r.key) (q + 1) r.label) (q + 2) r.count
        (simp length-set (omega arith))

    pub record_put : record_at (put_record w q r) q ≡ r
    record_put = rw (put_key, put_label, put_count)

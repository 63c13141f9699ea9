-- What the words say: the limits, and entries, records and index words from a place on. Assumes nothing.
use Rattle.std.proofs.Common.{Option}
use Rattle.std.proofs.Common.{◌≡◌, ℕ, zero, suc, ◌+◌, ◌-◌, ◌*◌, ◌<◌, ◌≤◌, List, [], ◌∷◌, length, take, drop, sym, refl, ap, ◌∙◌, suc-add, arith, get_or-drop, get_or-take}
use Rattle.config.specs.declared.PendingFlowsConfig.{PendingFlowsConfig}
use Rattle.config.specs.Limits.{record_words, entry_words}
use Rattle.table.specs.declared.Entry.{Entry}
use Rattle.table.specs.declared.TemplateRecord.{TemplateRecord}
use Rattle.table.specs.Layout.{word, ttl_set, ttl_of, limits_of}
use Rattle.table.specs.Table.{entry_at, record_at, entries_from, records_from, index_from}
use Rattle.table.specs.WellFormed.{key_at}

-- the limits but the time to live are words
abbrev limits_with : List ℕ → Option ℕ → PendingFlowsConfig
limits_with w t = record {
  max_pending_flows = word w 0;
  max_entries_per_template = word w 1;
  max_entry_size_bytes = word w 2;
  max_total_bytes = word w 3;
  ttl = t;
}

pub limits_read : (w : List ℕ) (t : Option ℕ) → t ≡ ttl_of (ttl_set w) (word w 5) → limits_with w t ≡ limits_of w
limits_read w t e = ap (limits_with w) e

-- words before n, and from n on
module _ (w w' : List ℕ) (n : ℕ) where
  pub word_below : take n w ≡ take n w' → (i : ℕ) → i < n → word w i ≡ word w' i
  word_below e i h = sym (get_or-take n w i 0 h) ∙ ap (λ (l : List ℕ). word l i) e ∙ get_or-take n w' i 0 h

  pub word_above : drop n w ≡ drop n w' → (i : ℕ) → n ≤ i → word w i ≡ word w' i
  word_above e i h =
      let at : n + (i - n) ≡ i = omega arith in
      ap (word w) (sym at) ∙ sym (get_or-drop n w (i - n) 0) ∙ ap (λ (l : List ℕ). word l (i - n)) e
      ∙ get_or-drop n w' (i - n) 0 ∙ ap (word w') at

-- the first, and the others; or none
module _ (w : List ℕ) (p k : ℕ) where
  pub entries_none : k ≤ 0 → entries_from w p k ≡ []
  unfolding entries_from
  entries_none h = let e : k ≡ zero = omega arith in rw e

  pub records_none : k ≤ 0 → records_from w p k ≡ []
  unfolding records_from
  records_none h = let e : k ≡ zero = omega arith in rw e

  pub index_none : k ≤ 0 → index_from w p k ≡ []
  unfolding index_from
  index_none h = let e : k ≡ zero = omega arith in rw e

  module _ (more : 0 < k) where
    one_more : k ≡ suc (k - 1)
    one_more = omega arith

    pub entries_first : (e : Entry) → e ≡ entry_at w p → entries_from w p k ≡ e ∷ entries_from w (p + entry_words)
        (k - 1)
    unfolding entries_from
    entries_first e is = ap (entries_from w p) one_more ∙ rw is

    pub records_first : (r : TemplateRecord) → r ≡ record_at w p →
        records_from w p k ≡ r ∷ records_from w (p + record_words) (k - 1)
    unfolding records_from
    records_first r is = ap (records_from w p) one_more ∙ rw is

    pub index_first : index_from w p k ≡ word w (p + 3) ∷ index_from w (p + record_words) (k - 1)
    unfolding index_from
    index_first = ap (index_from w p) one_more

pub length_entries : (w : List ℕ) (p k : ℕ) → length (entries_from w p k) ≡ k
unfolding entries_from
length_entries w p zero = refl
length_entries w p (suc k) = ap suc (length_entries w (p + entry_words) k)

pub length_records : (w : List ℕ) (p k : ℕ) → length (records_from w p k) ≡ k
unfolding records_from
length_records w p zero = refl
length_records w p (suc k) = ap suc (length_records w (p + record_words) k)

pub length_index : (w : List ℕ) (p k : ℕ) → length (index_from w p k) ≡ k
unfolding index_from
length_index w p zero = refl
length_index w p (suc k) = ap suc (length_index w (p + record_words) k)

-- a record's key is its first word
pub key_word : (w : List ℕ) (p k i : ℕ) → i < k → key_at (records_from w p k) i ≡ word w (p + record_words * i)
unfolding records_from
key_word w p zero i h = absurd (omega arith)
key_word w p (suc k) zero h = let e : p + record_words * zero ≡ p = omega arith in rw e
key_word w p (suc k) (suc i) h =
    let e : p + record_words + record_words * i ≡ p + record_words * suc i = omega arith in
    key_word w (p + record_words) k i (omega arith) ∙ ap (word w) e

-- the first of the records
pub first_records : (w : List ℕ) (p n c : ℕ) → take n (records_from w p (n + c)) ≡ records_from w p n
unfolding records_from
first_records w p zero c = refl
first_records w p (suc n) c = rw (suc-add n c, first_records w (p + record_words) n c)

-- the records behind the first n
pub records_behind : (w : List ℕ) (p n k : ℕ) →
    drop n (records_from w p (n + k)) ≡ records_from w (p + record_words * n) k
unfolding records_from
records_behind w p zero k =
    let e : p ≡ p + record_words * zero = omega arith in
    let f : zero + k ≡ k = omega arith in
    ap (records_from w p) f ∙ ap (λ (q : ℕ). records_from w q k) e
records_behind w p (suc n) k =
    let e : p + record_words + record_words * n ≡ p + record_words * suc n = omega arith in
    let f : suc n + k ≡ suc (n + k) = omega arith in
    ap (λ (j : ℕ). drop (suc n) (records_from w p j)) f ∙ records_behind w (p + record_words) n k
    ∙ ap (λ (q : ℕ). records_from w q k) e

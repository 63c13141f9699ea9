-- The passes that look something up in records or entries: what is found is found in what is left. Assumes nothing.
use Rattle.std.proofs.Common.{Option, Some, None}
use Rattle.std.proofs.Common.{◌≡◌, ℕ, ◌+◌, ◌%◌, ◌^◌, ◌≤◌, Bool, true, false, cond, eqb, List, [], ◌∷◌, drop, sym, refl, ap, ◌∙◌, arith}
use native.Mathlib.Nat.{mod-add-mod}
use Rattle.table.specs.declared.Entry.{Entry}
use Rattle.table.specs.declared.TemplateRecord.{TemplateRecord}
use Rattle.table.specs.declared.LiveFigures.{LiveFigures}
use Rattle.table.specs.Reads.{record_of, label_in, count_in, label_of, count_of, is_live, live_count, live_lens}
use Rattle.table.specs.Reads.{live_figures}

-- What is read off the record that was found.
label_in_lem : (key : ℕ) (rs : List TemplateRecord) → label_in (record_of key rs) ≡ label_of key rs
unfolding label_of
label_in_lem key [] = refl
label_in_lem key (r ∷ rs) = by_key (eqb key r.key) (label_in_lem key rs)
  where
    by_key : (b : Bool) → label_in (record_of key rs) ≡ label_of key rs →
        label_in (cond b (Some r) (record_of key rs)) ≡ cond b (Some r.label) (label_of key rs)
    by_key true ih = refl
    by_key false ih = ih

count_in_lem : (key : ℕ) (rs : List TemplateRecord) → count_in (record_of key rs) ≡ count_of key rs
unfolding count_of
count_in_lem key [] = refl
count_in_lem key (r ∷ rs) = by_key (eqb key r.key) (count_in_lem key rs)
  where
    by_key : (b : Bool) → count_in (record_of key rs) ≡ count_of key rs →
        count_in (cond b (Some r) (record_of key rs)) ≡ cond b r.count (count_of key rs)
    by_key true ih = refl
    by_key false ih = ih

module _ (key : ℕ) (rs : List TemplateRecord) {x : Option TemplateRecord} (searched : x ≡ record_of key rs) where
  pub label_told : {r : TemplateRecord} → x ≡ Some r → Some r.label ≡ label_of key rs
  label_told e = sym (ap label_in e) ∙ ap label_in searched ∙ label_in_lem key rs

  pub no_label_told : x ≡ None → None ≡ label_of key rs
  no_label_told e = sym (ap label_in e) ∙ ap label_in searched ∙ label_in_lem key rs

  pub count_read : {n : ℕ} → n ≡ count_in x → n ≡ count_of key rs
  count_read e = e ∙ ap count_in searched ∙ count_in_lem key rs

  pub count_told : {r : TemplateRecord} → x ≡ Some r → r.count ≡ count_of key rs
  count_told e = sym (ap count_in e) ∙ ap count_in searched ∙ count_in_lem key rs

  pub no_count_told : x ≡ None → 0 ≡ count_of key rs
  no_count_told e = sym (ap count_in e) ∙ ap count_in searched ∙ count_in_lem key rs

-- Summing live entries: those passed, the first i, and then those that are left.
pub record LiveSummed (ttl : Option ℕ) (clock label : ℕ) (es : List Entry) (bodies bytes i : ℕ) : Type 0 where
  -- no more are counted than passed
  pub few : bodies ≤ i
  -- the whole count is what was counted, and then what is left
  pub rest : live_count ttl clock label es ≡ bodies + live_count ttl clock label (drop i es)
  -- the lengths of those passed, without wrapping
  pub passed : ℕ
  pub wrapped : bytes ≡ passed % 2 ^ 64
  pub lens_rest : live_lens ttl clock label es ≡ passed + live_lens ttl clock label (drop i es)

module _ {ttl : Option ℕ} {clock label : ℕ} {es : List Entry} {bodies bytes i : ℕ}
    (inv : LiveSummed ttl clock label es bodies bytes i) where
  pub all_summed : drop i es ≡ [] →
      ◌≡◌ {A = LiveFigures} (record { bodies = bodies; bytes = bytes }) (live_figures ttl clock label es)
  unfolding live_count live_lens
  all_summed none =
      let count : live_count ttl clock label (drop i es) ≡ 0 = rw none in
      let lens : live_lens ttl clock label (drop i es) ≡ 0 = rw none in
      let bodies-are : bodies ≡ live_count ttl clock label es = omega (arith, inv.rest) in
      let passed-are : inv.passed ≡ live_lens ttl clock label es = omega (arith, inv.lens_rest) in
      let bytes_are : bytes ≡ live_lens ttl clock label es % 2 ^ 64 =
      inv.wrapped ∙ ap (λ (n : ℕ). n % 2 ^ 64) passed-are in
      λ j. record { bodies = bodies-are j; bytes = bytes_are j }

  module _ (e : Entry) (v : Bool) (some : drop i es ≡ e ∷ drop (i + 1) es) (test : v ≡ is_live ttl clock label e) where
    next : live_count ttl clock label (drop i es) ≡ cond v 1 0 + live_count ttl clock label (drop (i + 1) es)
    unfolding live_count
    next = rw (some, test)

    next_lens : live_lens ttl clock label (drop i es) ≡ cond v e.len 0 + live_lens ttl clock label (drop (i + 1) es)
    unfolding live_lens
    next_lens = rw (some, test)

    pub live_summed : v ≡ true → {bytes' : ℕ} → bytes' ≡ (bytes + e.len) % 2 ^ 64 →
        LiveSummed ttl clock label es (bodies + 1) bytes' (i + 1)
    live_summed h adds =
        let n = rw h at next in
        let l = rw h at next_lens in
        record {
          few = omega (arith, inv.few);
          rest = omega (arith, inv.rest);
          passed = inv.passed + e.len;
          wrapped = adds ∙ rw inv.wrapped (mod-add-mod inv.passed (2 ^ 64) e.len);
          lens_rest = omega (arith, inv.lens_rest);
        }

    pub not_summed : v ≡ false → LiveSummed ttl clock label es bodies bytes (i + 1)
    not_summed h =
        let n = rw h at next in
        let l = rw h at next_lens in
        record {
          few = omega (arith, inv.few);
          rest = omega (arith, inv.rest);
          passed = inv.passed;
          wrapped = inv.wrapped;
          lens_rest = omega (arith, inv.lens_rest);
        }

pub bodies_told : {f : LiveFigures} (ttl : Option ℕ) (clock label : ℕ) (es : List Entry) →
    f ≡ live_figures ttl clock label es → f.bodies ≡ live_count ttl clock label es
bodies_told ttl clock label es e = ap (λ (f : LiveFigures). f.bodies) e

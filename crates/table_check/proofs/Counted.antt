-- What the passes over the records and the entries say together: the allowances are the numbers of entries by label.
-- Assumes nothing.
use mathlib.Core.Path.{◌≡◌, refl, sym, ap, ◌∙◌}
use mathlib.Core.Bool.{true}
use mathlib.Core.List.{List, [], ◌∷◌}
use Prim.Native.Nat.{ℕ, ◌+◌, ◌≤◌, ◌<◌}
use native.Mathlib.Omega.{arith}
use native.Mathlib.Decide.{ℕ_discrete}
use lib.Dec.{eqb, leb, ltb}
use lib.ListN.{length, get_or, set, length-set}
use lib.Seq.{get_or-set_same, get_or-set_other}
use borrow.Author.Tests.{eqb-true, ltb-true, leb-true, eq-eqb, lt-ltb, le-leb}
use Rattle.config.specs.declared.PendingFlowsConfig.{PendingFlowsConfig}
use Rattle.config.proofs.Tests.{and_left, and_right, and_both}
use Rattle.config.proofs.Lists.{All}
use Rattle.table.specs.declared.Entry.{Entry}
use Rattle.table.specs.declared.TemplateRecord.{TemplateRecord}
use Rattle.table.specs.Table.{tally}
use Rattle.table.specs.Passes.{held_len, less_at}
use Rattle.table_passes.specs.Passes.{record_fresh, records_pass, allowed_by}
use Rattle.table_entry_test.specs.EntriesPass.{entry_fits, entries_pass}
use Rattle.table_passes.proofs.RecordsPass.{Fresh, fresh_says}
use Rattle.table_entry_test.proofs.EntriesPass.{Fits, fits_says}
use Rattle.table.proofs.Facts.{Differ, Placed, LegalRecord}
use Rattle.table.proofs.Draws.{sum_of, sum_set, draws}
use Rattle.table.proofs.Labels.{Absent, labels_of, sum_but}

-- the allowances after the records
pub allowed_absent : (allow : List ℕ) (rs : List TemplateRecord) (k : ℕ) → Absent k rs →
    get_or (allowed_by allow rs) k 0 ≡ get_or allow k 0
unfolding allowed_by
allowed_absent allow [] k a = refl
allowed_absent allow (r ∷ rs) k a =
    allowed_absent (set allow r.label r.count) rs k a.1
    ∙ get_or-set_other allow r.label k r.count 0 a.0

-- the pass over the records
module _ (cap many : ℕ) where
  pub record FirstLegal (allow : List ℕ) (sum : ℕ) (r : TemplateRecord) (rs : List TemplateRecord) : Type 0 where
    pub label_small : r.label < length allow
    pub fresh : Fresh cap (get_or allow r.label 0) r
    pub rest : records_pass cap many (set allow r.label r.count) (sum + r.count) rs ≡ true

  pub first_says : (allow : List ℕ) (sum : ℕ) (r : TemplateRecord) (rs : List TemplateRecord) →
      records_pass cap many allow sum (r ∷ rs) ≡ true → FirstLegal allow sum r rs
  unfolding records_pass
  first_says allow sum r rs t =
      let was = get_or allow r.label 0 in
      let t' = and_right (ltb r.label (length allow)) _ t in
      record {
        label_small = ltb-true _ _ (and_left (ltb r.label (length allow)) _ t);
        fresh = fresh_says cap was r (and_left (record_fresh cap was r) _ t');
        rest = and_right (record_fresh cap was r) _ t';
      }

  -- so many entries are allowed in all
  pub allowed_sum : (allow : List ℕ) (sum : ℕ) (rs : List TemplateRecord) → records_pass cap many allow sum rs ≡ true →
      sum_of (allowed_by allow rs) + sum ≡ sum_of allow + many
  unfolding records_pass allowed_by
  allowed_sum allow sum [] t = ap (λ (n : ℕ). sum_of allow + n) (eqb-true sum many t)
  allowed_sum allow sum (r ∷ rs) t =
      let next = set allow r.label r.count in
      let first : FirstLegal allow sum r rs = first_says allow sum r rs t in
      omega (
        arith,
        first.fresh,
        sum_set allow r.label r.count first.label_small,
        allowed_sum next (sum + r.count) rs first.rest,
      )

  -- a label that is allowed some is no later record's
  allowed_taken : (allow : List ℕ) (sum : ℕ) (rs : List TemplateRecord) → records_pass cap many allow sum rs ≡ true →
      (k : ℕ) → 0 < get_or allow k 0 → Absent k rs
  allowed_taken allow sum [] t k some = tt
  allowed_taken allow sum (r ∷ rs) t k some =
      let first : FirstLegal allow sum r rs = first_says allow sum r rs t in
      let d : k ≡ r.label → ⊥ = λ e. omega (arith, first.fresh, ap (λ (j : ℕ). get_or allow j 0) e) in (
        d,
        allowed_taken (set allow r.label r.count) (sum + r.count) rs first.rest k
            (omega (arith, get_or-set_other allow r.label k r.count 0 d)),
      )

module _ (l : PendingFlowsConfig) (many : ℕ) (es : List Entry) where
  abbrev cap : ℕ
  cap = l.max_entries_per_template

  pub records_say : (allow : List ℕ) (sum : ℕ) (rs : List TemplateRecord) → length allow ≤ 1024 →
      records_pass cap many allow sum rs ≡ true → ((i : ℕ) → get_or (allowed_by allow rs) i 0 ≡ tally i es) →
      All (LegalRecord l es) rs × Differ (λ r. r.label) rs
  unfolding allowed_by
  records_say allow sum [] few t f = (tt, tt)
  records_say allow sum (r ∷ rs) few t f =
      let next = set allow r.label r.count in
      let few' : length next ≤ 1024 = omega (arith, length-set allow r.label r.count) in
      let rest = records_say next (sum + r.count) rs few' first.rest f in
      ((legal, rest.0), (apart, rest.1))
    where
      first : FirstLegal cap many allow sum r rs
      first = first_says cap many allow sum r rs t

      here : get_or (set allow r.label r.count) r.label 0 ≡ r.count
      here = get_or-set_same allow r.label r.count 0 first.label_small

      apart : Absent r.label rs
      apart =
          allowed_taken cap many (set allow r.label r.count) (sum + r.count) rs first.rest r.label
          (omega (arith, here, first.fresh))

      legal : LegalRecord l es r
      legal = record {
        key_small = first.fresh.key_small;
        label_small = omega (arith, first.label_small);
        count_right = sym here ∙ sym (allowed_absent _ rs r.label apart) ∙ f r.label;
        some_bodies = first.fresh.some;
        within_cap = first.fresh.capped;
      }

  -- no label of these records is allowed any yet
  abbrev Free : List ℕ → List TemplateRecord → Type 0
  Free allow rs = All (λ r. get_or allow r.label 0 ≡ 0) rs

  free_set : (allow : List ℕ) (k v : ℕ) (rs : List TemplateRecord) → Absent k rs → Free allow rs →
      Free (set allow k v) rs
  free_set allow k v [] a z = tt
  free_set allow k v (r ∷ rs) a z =
      (get_or-set_other allow k r.label v 0 (λ e. a.0 (sym e)) ∙ z.0, free_set allow k v rs a.1 z.1)

  pub records_hold : (allow : List ℕ) (sum : ℕ) (rs : List TemplateRecord) → All (λ r. r.label < length allow) rs →
      All (LegalRecord l es) rs → Differ (λ r. r.label) rs → Free allow rs →
      sum_of (allowed_by allow rs) + sum ≡ sum_of allow + many → records_pass cap many allow sum rs ≡ true
  unfolding records_pass record_fresh allowed_by
  records_hold allow sum [] b a d z s = eq-eqb sum many (omega arith)
  records_hold allow sum (r ∷ rs) b a d z s =
      let next = set allow r.label r.count in
      let h : LegalRecord l es r = a.0 in
      and_both (ltb r.label (length allow)) _ (lt-ltb _ _ b.0)
      (and_both (record_fresh cap (get_or allow r.label 0) r) _
      (and_both (ltb r.key 65536) _ (lt-ltb _ _ h.key_small)
      (and_both (eqb (get_or allow r.label 0) 0) _ (eq-eqb _ _ z.0)
      (and_both (ltb 0 r.count) _ (lt-ltb _ _ h.some_bodies) (le-leb _ _ h.within_cap))))
      (records_hold next (sum + r.count) rs (rw (length-set allow r.label r.count) b.1) a.1 d.1
      (free_set allow r.label r.count rs d.0 z.1)
      (omega (arith, s, z.0, sum_set allow r.label r.count b.0))))

  -- each label is allowed as many entries as it has
  pub allowed_tally : (allow : List ℕ) (rs : List TemplateRecord) (i : ℕ) → All (λ r. r.label < length allow) rs →
      All (LegalRecord l es) rs → (Absent i rs → get_or allow i 0 ≡ tally i es) →
      get_or (allowed_by allow rs) i 0 ≡ tally i es
  unfolding allowed_by
  allowed_tally allow [] i b a f = f tt
  allowed_tally allow (r ∷ rs) i b a f =
      allowed_tally (set allow r.label r.count) rs i (rw (length-set allow r.label r.count) b.1) a.1
      (by_label (ℕ_discrete i r.label))
    where
      by_label : Dec (i ≡ r.label) → Absent i rs → get_or (set allow r.label r.count) i 0 ≡ tally i es
      by_label (yes e) apart = rw e (get_or-set_same allow r.label r.count 0 b.0 ∙ a.0.count_right)
      by_label (no d) apart = get_or-set_other allow r.label i r.count 0 d ∙ f (d, apart)

-- the pass over the entries
pub record LegalEntries (size most out total end : ℕ) (allow : List ℕ) (held : ℕ) (es : List Entry) : Type 0 where
  pub drawn : draws allow (labels_of es) ≡ true
  pub inside : end ≤ most
  pub placed : Placed end most es
  pub short : All (λ e. e.len ≤ size) es
  pub total_is : held + sum_but out es ≡ total

module _ (size most out total : ℕ) where
  pub entries_say : (end : ℕ) (allow : List ℕ) (held : ℕ) (es : List Entry) →
      entries_pass size most out total end allow held es ≡ true → LegalEntries size most out total end allow held es
  unfolding entries_pass draws sum_but
  entries_say end allow held [] t =
      let e : held ≡ total = eqb-true held total (and_right (leb end most) _ t) in
      record {
        drawn = refl;
        inside = leb-true end most (and_left (leb end most) _ t);
        placed = tt;
        short = tt;
        total_is = omega arith;
      }
  entries_say end allow held (e ∷ es) t =
      let some = ltb 0 (get_or allow e.label 0) in
      let t' = and_right some _ t in
      let first : Fits size end e = fits_says size end e (and_left (entry_fits size end e) _ t') in
      let t'' = and_right (entry_fits size end e) _ t' in
      let rest = entries_say (e.place + e.len) (less_at allow e.label) (held + held_len out e) es t'' in
      record {
        drawn = and_both some _ (and_left some _ t) rest.drawn;
        inside = omega (arith, first.above, rest.inside);
        placed = (first.above, rest.inside, rest.placed);
        short = (first.short, rest.short);
        total_is = omega (arith, rest.total_is);
      }

  pub entries_hold : most ≤ 67108864 → (end : ℕ) (allow : List ℕ) (held : ℕ) (es : List Entry) →
      LegalEntries size most out total end allow held es → entries_pass size most out total end allow held es ≡ true
  unfolding entries_pass draws sum_but entry_fits
  entries_hold m end allow held [] h =
      and_both (leb end most) _ (le-leb end most h.inside) (eq-eqb held total (omega (arith, h.total_is)))
  entries_hold m end allow held (e ∷ es) h =
      let next = less_at allow e.label in
      let some = ltb 0 (get_or allow e.label 0) in
      let drawn = and_left some (draws next (labels_of es)) h.drawn in
      and_both some _ drawn
      (and_both (entry_fits size end e) _
      (and_both (leb e.len size) _ (le-leb _ _ h.short.0)
      (and_both (leb end e.place) _ (le-leb _ _ h.placed.0)
      (le-leb e.place 67108864 (omega (arith, h.placed.1)))))
      (entries_hold m (e.place + e.len) next (held + held_len out e) es
      (record {
        drawn = and_right some (draws next (labels_of es)) h.drawn;
        inside = h.placed.1;
        placed = h.placed.2;
        short = h.short.1;
        total_is = omega (arith, h.total_is);
      })))

-- A well-formed table as plain facts: the test of specs/WellFormed.antt says them (`words_say`), and they say that it
-- holds (`words_hold`). Assumes nothing.
use Rattle.std.proofs.Common.{◌≡◌, ℕ, ◌+◌, ◌<◌, ◌≤◌, Bool, true, not, eqb, ltb, leb, ◌≢◌, List, [], ◌∷◌, ◌++◌, length, refl, ltb-true, lt-ltb, eq-eqb, ne_eqb, eqb-true, le-leb, leb-true}
use borrow.Author.Tests.{eqb-false, not-true}
use Rattle.std.specs.List.{list_all}
use Rattle.config.specs.declared.PendingFlowsConfig.{PendingFlowsConfig}
use Rattle.config.specs.Limits.{header_words, max_bodies}
use Rattle.table.specs.declared.Entry.{Entry}
use Rattle.table.specs.declared.TemplateRecord.{TemplateRecord}
use Rattle.table.specs.Layout.{limits_of, ttl_set, held_count, entry_count, chance_count}
use Rattle.table.specs.Table.{Table, table_of, index, has_label, tally, sum_lens}
use Rattle.table.specs.WellFormed.{all_differ, limits_legal, flags_legal, counts_legal, record_legal}
use Rattle.table.specs.WellFormed.{entry_legal, places_legal, total_right, index_rises, table_legal, well_formed}
use Rattle.config.proofs.Limits.{LegalLimits, limits_say, limits_hold}
use Rattle.config.proofs.Tests.{and_left, and_right, and_both}
use Rattle.config.proofs.Lists.{All, all_front, all_back}

-- no two records have the same figure
abbrev pub Differ : (TemplateRecord → ℕ) → List TemplateRecord → Type 0
Differ f [] = Unit {0}
Differ f (r ∷ rs) = All (λ u. f r ≢ f u) rs × Differ f rs

pub differ_front : (f : TemplateRecord → ℕ) (rs us : List TemplateRecord) → Differ f (rs ++ us) → Differ f rs
differ_front f [] us d = tt
differ_front f (r ∷ rs) us d = (all_front (λ u. f r ≢ f u) rs us d.0, differ_front f rs us d.1)

pub differ_across : (f : TemplateRecord → ℕ) (rs us : List TemplateRecord) → Differ f (rs ++ us) →
    All (λ r. All (λ u. f r ≢ f u) us) rs
differ_across f [] us d = tt
differ_across f (r ∷ rs) us d = (all_back (λ u. f r ≢ f u) rs us d.0, differ_across f rs us d.1)

-- places rise from `from` on, bodies do not overlap, and all end within `most`
abbrev pub Placed : ℕ → ℕ → List Entry → Type 0
Placed from most [] = Unit {0}
Placed from most (e ∷ es) = (from ≤ e.place) × (e.place + e.len ≤ most) × Placed (e.place + e.len) most es

pub record LegalRecord (l : PendingFlowsConfig) (es : List Entry) (r : TemplateRecord) : Type 0 where
  pub key_small : r.key < 65536
  pub label_small : r.label < 1024
  pub count_right : r.count ≡ tally r.label es
  pub some_bodies : 0 < r.count
  pub within_cap : r.count ≤ l.max_entries_per_template

pub record LegalEntry (l : PendingFlowsConfig) (rs : List TemplateRecord) (e : Entry) : Type 0 where
  pub label_known : has_label e.label rs ≡ true
  pub size_legal : e.len ≤ l.max_entry_size_bytes

pub record LegalTable (t : Table) (is : List ℕ) : Type 0 where
  pub records_legal : All (LegalRecord t.limits t.entries) (t.held ++ t.handed)
  pub keys_differ : Differ (λ r. r.key) (t.held ++ t.handed)
  pub labels_differ : Differ (λ r. r.label) (t.held ++ t.handed)
  pub entries_legal : All (LegalEntry t.limits (t.held ++ t.handed)) t.entries
  pub entries_placed : Placed 0 t.limits.max_total_bytes t.entries
  pub total_right : t.total ≡ sum_lens t.held t.entries
  pub index_right : index_rises (t.held ++ t.handed) 0 is ≡ true

pub record LegalWords (w : List ℕ) (bytes : ℕ) : Type 0 where
  pub header_long : header_words ≤ length w
  pub limits_legal_lem : LegalLimits (limits_of w) bytes (length w)
  pub ttl_flag_lem : ttl_set w ≤ 1
  pub chance_flag : chance_count w ≤ 1
  pub templates_fit : held_count w + chance_count w ≤ (limits_of w).max_pending_flows
  pub entries_fit : entry_count w ≤ max_bodies (limits_of w)
  pub table_legal_lem : LegalTable (table_of w) (index w)

pub every_says : {A : Type 0} (p : A → Bool) (P : A → Type 0) → ((x : A) → p x ≡ true → P x) → (xs : List A) →
    list_all p xs ≡ true → All P xs
every_says p P f [] e = tt
every_says p P f (x ∷ xs) e =
    (f x (and_left (p x) (list_all p xs) e), every_says p P f xs (and_right (p x) (list_all p xs) e))

pub every_holds : {A : Type 0} (p : A → Bool) (P : A → Type 0) → ((x : A) → P x → p x ≡ true) → (xs : List A) →
    All P xs → list_all p xs ≡ true
every_holds p P f [] a = refl
every_holds p P f (x ∷ xs) a = and_both (p x) (list_all p xs) (f x a.0) (every_holds p P f xs a.1)

module _ (f : TemplateRecord → ℕ) where
  abbrev differs : TemplateRecord → TemplateRecord → Bool
  differs r u = not (eqb (f r) (f u))

  pub differ_says : (rs : List TemplateRecord) → all_differ f rs ≡ true → Differ f rs
  differ_says [] e = tt
  differ_says (r ∷ rs) e = (
    every_says (differs r) (λ u. f r ≢ f u) (λ u h. eqb-false (f r) (f u) (not-true _ h)) rs
        (and_left (list_all (differs r) rs) (all_differ f rs) e),
    differ_says rs (and_right (list_all (differs r) rs) (all_differ f rs) e),
  )

  pub differ_holds : (rs : List TemplateRecord) → Differ f rs → all_differ f rs ≡ true
  differ_holds [] d = refl
  differ_holds (r ∷ rs) d =
      and_both (list_all (differs r) rs) (all_differ f rs)
      (every_holds (differs r) (λ u. f r ≢ f u) (λ u h. rw (ne_eqb (f r) (f u) h)) rs d.0) (differ_holds rs d.1)

pub places_say : (from most : ℕ) (es : List Entry) → places_legal from most es ≡ true → Placed from most es
places_say from most [] t = tt
places_say from most (e ∷ es) t =
    let t' = and_right (leb from e.place) _ t in (
      leb-true _ _ (and_left (leb from e.place) _ t),
      leb-true _ _ (and_left (leb (e.place + e.len) most) _ t'),
      places_say (e.place + e.len) most es (and_right (leb (e.place + e.len) most) _ t'),
    )

pub places_hold : (from most : ℕ) (es : List Entry) → Placed from most es → places_legal from most es ≡ true
places_hold from most [] p = refl
places_hold from most (e ∷ es) p =
    and_both (leb from e.place) _ (le-leb _ _ p.0)
    (and_both (leb (e.place + e.len) most) _ (le-leb _ _ p.1) (places_hold (e.place + e.len) most es p.2))

module _ (l : PendingFlowsConfig) (es : List Entry) (r : TemplateRecord) where
  pub record_says : record_legal l es r ≡ true → LegalRecord l es r
  record_says t =
      let t' = and_right (ltb r.key 65536) _ t in
      let t'' = and_right (ltb r.label 1024) _ t' in
      let t''' = and_right (eqb r.count (tally r.label es)) _ t'' in
      record {
        key_small = ltb-true _ _ (and_left (ltb r.key 65536) _ t);
        label_small = ltb-true _ _ (and_left (ltb r.label 1024) _ t');
        count_right = eqb-true _ _ (and_left (eqb r.count (tally r.label es)) _ t'');
        some_bodies = ltb-true _ _ (and_left (ltb 0 r.count) _ t''');
        within_cap = leb-true _ _ (and_right (ltb 0 r.count) _ t''');
      }

  pub record_holds : LegalRecord l es r → record_legal l es r ≡ true
  record_holds h =
      and_both (ltb r.key 65536) _ (lt-ltb _ _ h.key_small)
      (and_both (ltb r.label 1024) _ (lt-ltb _ _ h.label_small)
      (and_both (eqb r.count (tally r.label es)) _ (eq-eqb _ _ h.count_right)
      (and_both (ltb 0 r.count) _ (lt-ltb _ _ h.some_bodies) (le-leb _ _ h.within_cap))))

module _ (l : PendingFlowsConfig) (rs : List TemplateRecord) (e : Entry) where
  pub entry_says : entry_legal l rs e ≡ true → LegalEntry l rs e
  entry_says t = record {
    label_known = and_left (has_label e.label rs) _ t;
    size_legal = leb-true _ _ (and_right (has_label e.label rs) _ t);
  }

  pub entry_holds : LegalEntry l rs e → entry_legal l rs e ≡ true
  entry_holds h = and_both (has_label e.label rs) _ h.label_known (le-leb _ _ h.size_legal)

module _ (t : Table) (is : List ℕ) where
  abbrev all : List TemplateRecord
  all = t.held ++ t.handed

  abbrev records_test : Bool
  records_test = list_all (record_legal t.limits t.entries) all

  abbrev entries_test : Bool
  entries_test = list_all (entry_legal t.limits all) t.entries

  abbrev places_test : Bool
  places_test = places_legal 0 t.limits.max_total_bytes t.entries

  pub table_says : table_legal t is ≡ true → LegalTable t is
  table_says e =
      let keys = and_right records_test _ e in
      let labels = and_right (all_differ (λ r. r.key) all) _ keys in
      let entries = and_right (all_differ (λ r. r.label) all) _ labels in
      let places = and_right entries_test _ entries in
      let total = and_right places_test _ places in
      record {
        records_legal = every_says (record_legal t.limits t.entries) (LegalRecord t.limits t.entries)
            (record_says t.limits t.entries) all (and_left records_test _ e);
        keys_differ = differ_says (λ r. r.key) all (and_left (all_differ (λ r. r.key) all) _ keys);
        labels_differ = differ_says (λ r. r.label) all (and_left (all_differ (λ r. r.label) all) _ labels);
        entries_legal = every_says (entry_legal t.limits all) (LegalEntry t.limits all)
            (entry_says t.limits all) t.entries (and_left entries_test _ entries);
        entries_placed = places_say 0 t.limits.max_total_bytes t.entries (and_left places_test _ places);
        total_right = eqb-true _ _ (and_left (total_right t) _ total);
        index_right = and_right (total_right t) _ total;
      }

  pub table_holds : LegalTable t is → table_legal t is ≡ true
  table_holds h =
      and_both records_test _
      (every_holds (record_legal t.limits t.entries) (LegalRecord t.limits t.entries)
      (record_holds t.limits t.entries) all h.records_legal)
      (and_both (all_differ (λ r. r.key) all) _ (differ_holds (λ r. r.key) all h.keys_differ)
      (and_both (all_differ (λ r. r.label) all) _ (differ_holds (λ r. r.label) all h.labels_differ)
      (and_both entries_test _
      (every_holds (entry_legal t.limits all) (LegalEntry t.limits all) (entry_holds t.limits all)
      t.entries
      h.entries_legal)
      (and_both places_test _ (places_hold 0 t.limits.max_total_bytes t.entries h.entries_placed)
      (and_both (total_right t) _ (eq-eqb _ _ h.total_right) h.index_right)))))

module _ (w : List ℕ) (bytes : ℕ) where
  pub words_say : well_formed w bytes ≡ true → LegalWords w bytes
  unfolding well_formed
  words_say e =
      let limits = and_right (leb header_words (length w)) _ e in
      let flags = and_right (limits_legal w bytes) _ limits in
      let counts = and_right (flags_legal w) _ flags in
      let table = and_right (counts_legal w) _ counts in
      let flag = and_left (flags_legal w) _ flags in
      let count = and_left (counts_legal w) _ counts in
      let few = leb (held_count w + chance_count w) (limits_of w).max_pending_flows in
      record {
        header_long = leb-true _ _ (and_left (leb header_words (length w)) _ e);
        limits_legal_lem = limits_say (limits_of w) bytes (length w)
            (eqb-true _ _ (and_left (limits_legal w bytes) _ limits));
        ttl_flag_lem = leb-true _ _ (and_left (leb (ttl_set w) 1) _ flag);
        chance_flag = leb-true _ _ (and_right (leb (ttl_set w) 1) _ flag);
        templates_fit = leb-true _ _ (and_left few _ count);
        entries_fit = leb-true _ _ (and_right few _ count);
        table_legal_lem = table_says (table_of w) (index w) table;
      }

  pub words_hold : LegalWords w bytes → well_formed w bytes ≡ true
  unfolding well_formed
  words_hold h =
      and_both (leb header_words (length w)) _ (le-leb _ _ h.header_long)
      (and_both (limits_legal w bytes) _ (eq-eqb _ _ (limits_hold (limits_of w) bytes (length w) h.limits_legal_lem))
      (and_both (flags_legal w) _
      (and_both (leb (ttl_set w) 1) _ (le-leb _ _ h.ttl_flag_lem) (le-leb _ _ h.chance_flag))
      (and_both (counts_legal w) _
      (and_both (leb (held_count w + chance_count w) (limits_of w).max_pending_flows) _ (le-leb _ _
      h.templates_fit)
      (le-leb _ _ h.entries_fit))
      (table_holds (table_of w) (index w) h.table_legal_lem))))

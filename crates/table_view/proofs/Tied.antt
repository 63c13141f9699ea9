-- Records, entries and index that belong together, whatever the limits: what a well-formed table has, and what is left
-- of it while the entries of one label have no record yet. Assumes nothing.
use mathlib.Core.Path.{◌≡◌, refl, sym, ap, ◌∙◌}
use mathlib.Core.Bool.{true, false, ◌||◌}
use mathlib.Core.List.{List, [], ◌∷◌, ◌++◌}
use Prim.Native.Nat.{ℕ, ◌+◌, ◌≤◌, ◌<◌}
use native.Mathlib.Omega.{arith}
use lib.Dec.{eqb}
use lib.ListN.{length, take-append-drop}
use borrow.Author.Tests.{eqb-true}
use Rattle.config.proofs.Lists.{All, all_map, all_front}
use Rattle.config.proofs.Tests.{or_first, or_other}
use Rattle.table.specs.declared.Entry.{Entry}
use Rattle.table.specs.declared.TemplateRecord.{TemplateRecord}
use Rattle.table.specs.Layout.{limits_of, held_count, chance_count, records_at}
use Rattle.table.specs.Table.{Table, table_of, records, index, has_label, tally}
use Rattle.table.specs.WellFormed.{index_rises}
use Rattle.table.proofs.Words.{length_records, length_index}
use Rattle.table.proofs.Facts.{Differ, LegalRecord, LegalEntry, LegalTable, LegalWords, differ_front}
use Rattle.table.proofs.Labels.{label_says, tally_here, tally_later}
use Rattle.table.proofs.FoundLabels.{label_for, found_alone}

pub record Tied (rs : List TemplateRecord) (es : List Entry) (is : List ℕ) : Type 0 where
  pub keys_small : All (λ r. r.key < 65536) rs
  pub labels_small : All (λ r. r.label < 1024) rs
  pub counts_right : All (λ r. r.count ≡ tally r.label es) rs
  pub some_bodies : All (λ r. 0 < r.count) rs
  pub keys_differ : Differ (λ r. r.key) rs
  pub labels_differ : Differ (λ r. r.label) rs
  pub labels_known : All (λ e. has_label e.label rs ≡ true) es
  pub index_right : index_rises rs 0 is ≡ true
  pub index_long : length is ≡ length rs

-- the entries of label a have no record yet
pub record TiedApart (a : ℕ) (rs : List TemplateRecord) (es : List Entry) (is : List ℕ) : Type 0 where
  pub keys_small : All (λ r. r.key < 65536) rs
  pub labels_small : All (λ r. r.label < 1024) rs
  pub counts_right : All (λ r. r.count ≡ tally r.label es) rs
  pub some_bodies : All (λ r. 0 < r.count) rs
  pub keys_differ : Differ (λ r. r.key) rs
  pub labels_differ : Differ (λ r. r.label) rs
  pub labels_known : All (λ e. has_label e.label rs || eqb a e.label ≡ true) es
  pub entries_small : All (λ e. e.label < 1024) es
  pub label_apart : has_label a rs ≡ false
  pub index_right : index_rises rs 0 is ≡ true
  pub index_long : length is ≡ length rs

-- a well-formed table
pub legal_tied : (t : Table) (is : List ℕ) → LegalTable t is → length is ≡ length (t.held ++ t.handed) →
    Tied (t.held ++ t.handed) t.entries is
legal_tied t is h long =
    let rs = t.held ++ t.handed in
    let Legal : TemplateRecord → Type 0 = LegalRecord t.limits t.entries in
    record {
      keys_small = all_map Legal (λ r. r.key < 65536) (λ r x. x.key_small) rs h.records_legal;
      labels_small = all_map Legal (λ r. r.label < 1024) (λ r x. x.label_small) rs h.records_legal;
      counts_right = all_map Legal (λ r. r.count ≡ tally r.label t.entries) (λ r x. x.count_right) rs
          h.records_legal;
      some_bodies = all_map Legal (λ r. 0 < r.count) (λ r x. x.some_bodies) rs h.records_legal;
      keys_differ = h.keys_differ;
      labels_differ = h.labels_differ;
      labels_known = all_map (LegalEntry t.limits rs) (λ e. has_label e.label rs ≡ true)
          (λ e x. x.label_known) t.entries h.entries_legal;
      index_right = h.index_right;
      index_long = long;
    }

pub words_tied : (w : List ℕ) (n : ℕ) → LegalWords w n →
    Tied ((table_of w).held ++ (table_of w).handed) (table_of w).entries (index w)
words_tied w n h =
    let many = held_count w + chance_count w in
    let p = records_at (limits_of w) in
    legal_tied (table_of w) (index w) h.table_legal_lem
    (length_index w p many ∙ sym (length_records w p many)
    ∙ ap length (sym (take-append-drop (held_count w) (records w))))

-- of the first records, those that are held, the one with an id's label is the one with the id as its key
pub front_alone : (i : ℕ) (rs us : List TemplateRecord) {es : List Entry} {is : List ℕ} → Tied (rs ++ us) es is →
    All (λ u. eqb (label_for i rs) u.label ≡ eqb i u.key) rs
front_alone i rs us t =
    found_alone i rs (differ_front (λ r. r.key) rs us t.keys_differ)
    (differ_front (λ r. r.label) rs us t.labels_differ) (all_front (λ r. r.label < 1024) rs us t.labels_small)

-- the labels of entries are those of records
pub entries_small : (rs : List TemplateRecord) (es : List Entry) → All (λ r. r.label < 1024) rs →
    All (λ e. has_label e.label rs ≡ true) es → All (λ e. e.label < 1024) es
entries_small rs es small known =
    all_map (λ e. has_label e.label rs ≡ true) (λ e. e.label < 1024)
    (λ e h. label_says (λ k. k < 1024) e.label rs small h) es known

-- what is no label has no entries
pub none_past : (k : ℕ) (es : List Entry) → All (λ e. e.label < 1024) es → 1024 ≤ k → tally k es ≡ 0
none_past k [] h past = refl
none_past k (e ∷ es) h past = tally_later k e es (λ d. omega (arith, h.0)) ∙ none_past k es h.1 past

pub none_above : (es : List Entry) → All (λ e. e.label < 1024) es → tally 1024 es ≡ 0
none_above es h = none_past 1024 es h (omega arith)

-- where no entry has the label a, nothing is apart
pub apart_tied : {a : ℕ} {rs : List TemplateRecord} {es : List Entry} {is : List ℕ} → TiedApart a rs es is →
    tally a es ≡ 0 → Tied rs es is
apart_tied {a} {rs} {es} h none = record {
  keys_small = h.keys_small;
  labels_small = h.labels_small;
  counts_right = h.counts_right;
  some_bodies = h.some_bodies;
  keys_differ = h.keys_differ;
  labels_differ = h.labels_differ;
  labels_known = known es h.labels_known none;
  index_right = h.index_right;
  index_long = h.index_long;
}
  where
    known : (es : List Entry) → All (λ e. has_label e.label rs || eqb a e.label ≡ true) es → tally a es ≡ 0 →
        All (λ e. has_label e.label rs ≡ true) es
    known [] k z = tt
    known (e ∷ es) k z = (
      or_other (has_label e.label rs) (eqb a e.label) k.0 (λ t. other (eqb-true a e.label t)),
      known es k.1 (sym (tally_later a e es other) ∙ z),
    )
      where
        other : a ≡ e.label → ⊥
        other d = omega (arith, z, tally_here a e es d)

-- and so where a is no label
pub no_label_tied : {rs : List TemplateRecord} {es : List Entry} {is : List ℕ} → TiedApart 1024 rs es is → Tied rs es is
no_label_tied {es = es} h = apart_tied h (none_above es h.entries_small)

-- a label that no record has is apart
pub tied_apart : {a : ℕ} {rs : List TemplateRecord} {es : List Entry} {is : List ℕ} → has_label a rs ≡ false →
    Tied rs es is → TiedApart a rs es is
tied_apart {a} {rs} {es} apart h = record {
  keys_small = h.keys_small;
  labels_small = h.labels_small;
  counts_right = h.counts_right;
  some_bodies = h.some_bodies;
  keys_differ = h.keys_differ;
  labels_differ = h.labels_differ;
  labels_known = all_map (λ e. has_label e.label rs ≡ true) (λ e. has_label e.label rs || eqb a e.label ≡ true)
      (λ e x. or_first (has_label e.label rs) (eqb a e.label) x) es h.labels_known;
  entries_small = entries_small rs es h.labels_small h.labels_known;
  label_apart = apart;
  index_right = h.index_right;
  index_long = h.index_long;
}

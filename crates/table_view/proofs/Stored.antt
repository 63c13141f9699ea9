-- Tables within the limits, and words that hold one: a well-formed table stands for a cache that passes no limit, and
-- records, entries and index that belong together are well-formed where their cache passes none. Assumes nothing.
use mathlib.Core.Path.{◌≡◌, refl, sym, ap, ◌∙◌, subst}
use mathlib.Core.Logic.{◌≢◌}
use mathlib.Core.Bool.{Bool, true, false, cond}
use mathlib.Core.Option.{some}
use mathlib.Core.List.{List, [], ◌∷◌, ◌++◌}
use Prim.Native.Nat.{ℕ, ◌+◌, ◌*◌, ◌≤◌, ◌<◌}
use native.Mathlib.Nat.{mul-le-mul_right}
use native.Mathlib.Omega.{arith}
use lib.Dec.{eqb}
use lib.ListN.{length, take, drop, length-append, take-append-drop, length-drop}
use lib.Seq.{length-take-le}
use borrow.Author.Tests.{eq-eqb}
use Rattle.config.specs.declared.PendingFlowsConfig.{PendingFlowsConfig}
use Rattle.config.specs.Limits.{header_words, max_bodies}
use Rattle.config.proofs.Limits as Config
use Rattle.config.proofs.Lists.{All, all_map, all_both}
use Rattle.table.specs.declared.Entry.{Entry}
use Rattle.table.specs.declared.TemplateRecord.{TemplateRecord}
use Rattle.table.specs.Layout.{limits_of, ttl_set, cached_word, dropped_word, total_word, held_count, entry_count}
use Rattle.table.specs.Layout.{chance_count, entries_at, records_at}
use Rattle.table.specs.Table.{Table, table_of, entries_from, records_from, index_from, records, index, has_label, tally}
use Rattle.table.specs.Table.{sum_lens}
use Rattle.table.specs.WellFormed.{well_formed}
use Rattle.table.specs.Reads.{count_sum}
use Rattle.table.proofs.Words.{length_entries, length_records}
use Rattle.table.proofs.Facts.{Differ, Placed, LegalRecord, LegalEntry, LegalTable}
use Rattle.table.proofs.Facts.{LegalWords, words_hold}
use Rattle.table.proofs.Labels.{label_says}
use Rattle.cache_model.specs.Bodies.{Body, Template, size, unless_empty}
use Rattle.cache_model.proofs.Parts as Parts
use Rattle.cache_model.proofs.Limits.{LegalLimits, Within}
use Rattle.cache_model.proofs.Calls.{whole, limits_alone, Limited}
use Rattle.pending_flows.specs.View.{body_at, bodies_at, template_at, templates_at, chance_at, cache_of, areas_of, view}
use Rattle.pending_flows.proofs.Templates.{length_bodies, length_templates}
use Rattle.pending_flows.proofs.Weights.{weigh_owned, weights_agree, counts_sum, len}
use Rattle.pending_flows.proofs.Figures.{sized, total_weighs}
use Rattle.table_view.proofs.Tied.{Tied}

-- ---- templates, record by record

module _ (b : List ℕ) (es : List Entry) where
  -- what may be put back is one template more
  chance_template : (handed : List TemplateRecord) → length handed ≤ 1 → All (λ r. 0 < tally r.label es) handed →
      unless_empty (chance_at b es handed).id (chance_at b es handed).bodies [] ≡ templates_at b es handed
  chance_template [] single have = refl
  chance_template (r ∷ []) single have =
      Parts.unless_empty_filled r.key (bodies_at b r.label es) []
      (omega (arith, have.0, length_bodies b r.label es))
  chance_template (r ∷ u ∷ rs) single have = absurd (omega arith)

  whole_templates : (held handed : List TemplateRecord) → length handed ≤ 1 →
      All (λ r. 0 < tally r.label es) (held ++ handed) →
      templates_at b es held ++ unless_empty (chance_at b es handed).id (chance_at b es handed).bodies []
      ≡ templates_at b es (held ++ handed)
  whole_templates [] handed single have = chance_template handed single have
  whole_templates (r ∷ held) handed single have =
      ap (λ (ts : List Template). template_at b es r ∷ ts) (whole_templates held handed single have.1)

  all_templates : (P : Template → Type 0) (rs : List TemplateRecord) → All (λ r. P (template_at b es r)) rs →
      All P (templates_at b es rs)
  all_templates P [] a = tt
  all_templates P (r ∷ rs) a = (a.0, all_templates P rs a.1)

  all_records : (P : Template → Type 0) (rs : List TemplateRecord) → All P (templates_at b es rs) →
      All (λ r. P (template_at b es r)) rs
  all_records P [] a = tt
  all_records P (r ∷ rs) a = (a.0, all_records P rs a.1)

  pub ids_differ : (rs : List TemplateRecord) → Differ (λ r. r.key) rs → Parts.Differ (templates_at b es rs)
  ids_differ [] d = tt
  ids_differ (r ∷ rs) d = (all_templates (λ t. r.key ≢ t.id) rs d.0, ids_differ rs d.1)

-- ---- bodies, entry by entry

module _ (b : List ℕ) where
  all_bodies_lem : (P : Body → Type 0) (k : ℕ) (es : List Entry) → All (λ e. P (body_at b e)) es →
      All P (bodies_at b k es)
  all_bodies_lem P k [] a = tt
  all_bodies_lem P k (e ∷ es) a = by_label (eqb k e.label) (all_bodies_lem P k es a.1)
    where
      by_label : (x : Bool) → All P (bodies_at b k es) →
          All P (cond x (body_at b e ∷ bodies_at b k es) (bodies_at b k es))
      by_label true ih = (a.0, ih)
      by_label false ih = ih

  -- what holds of each record's bodies holds of each entry's, where the entries have records
  all_entries : (P : Body → Type 0) (rs : List TemplateRecord) (es : List Entry) →
      All (λ e. has_label e.label rs ≡ true) es → All (λ r. All P (bodies_at b r.label es)) rs →
      All (λ e. P (body_at b e)) es
  all_entries P rs [] known a = tt
  all_entries P rs (e ∷ es) known a = (
    here (label_says (λ k. All P (bodies_at b k (e ∷ es))) e.label rs a known.0),
    all_entries P rs es known.1 (all_map _ _ (λ r x. later (eqb r.label e.label) r.label x) rs a),
  )
    where
      here : All P (bodies_at b e.label (e ∷ es)) → P (body_at b e)
      here x = (rw (eq-eqb e.label e.label refl) at x).0

      later : (x : Bool) (k : ℕ) → All P (cond x (body_at b e ∷ bodies_at b k es) (bodies_at b k es)) →
          All P (bodies_at b k es)
      later true k a = a.1
      later false k a = a

-- bodies that do not overlap are together no longer than the place they lie in
owned_within : (rs : List TemplateRecord) (from most : ℕ) (es : List Entry) → from ≤ most → Placed from most es →
    from + weigh_owned len rs es ≤ most
unfolding weigh_owned
owned_within rs from most [] h p = omega arith
owned_within rs from most (e ∷ es) h p =
    by_label (has_label e.label rs) (owned_within rs (e.place + e.len) most es p.1 p.2)
  where
    by_label : (x : Bool) → e.place + e.len + weigh_owned len rs es ≤ most →
        from + (cond x e.len 0 + weigh_owned len rs es) ≤ most
    by_label true ih = omega (arith, p.0)
    by_label false ih = omega (arith, p.0)

-- ---- a well-formed table stands for a cache that passes no limit

-- all records, those of what is handed out behind the others
abbrev all : Table → List TemplateRecord
all t = t.held ++ t.handed

module _ (t : Table) (b : List ℕ) where
  abbrev templates : List Template
  templates = templates_at b t.entries (all t)

  abbrev Counted : TemplateRecord → Type 0
  Counted r = r.count ≡ tally r.label t.entries

  -- the cache's templates, what may be put back counted, are those of all records
  whole_is : length t.handed ≤ 1 → All Counted (all t) → All (λ r. 0 < r.count) (all t) →
      whole (cache_of t b) ≡ templates
  whole_is single counts have =
      whole_templates b t.entries t.held t.handed single
      (all_both Counted _ (λ r. 0 < tally r.label t.entries) (λ r x y. omega arith) (all t) counts have)

  module _ (is : List ℕ) (h : LegalTable t is) (lent : t.limits.max_total_bytes ≤ length b) where
    abbrev Legal : TemplateRecord → Type 0
    Legal = LegalRecord t.limits t.entries

    each : (P : Template → Type 0) → ((r : TemplateRecord) → Legal r → P (template_at b t.entries r)) →
        All P templates
    each P f = all_templates b t.entries P (all t) (all_map Legal _ f (all t) h.records_legal)

    table_within : length t.held + length t.handed ≤ t.limits.max_pending_flows →
        Within t.limits limits_alone [] templates
    table_within few =
        let es = t.entries in
        let rs = all t in
        let most = t.limits.max_entries_per_template in
        let room = t.limits.max_total_bytes in
        let sizes = sized b 0 room es lent h.entries_placed in
        let Small : Body → Type 0 = λ x. size x ≤ t.limits.max_entry_size_bytes in
        let small : All (λ e. Small (body_at b e)) es =
        all_both _ _ (λ e. Small (body_at b e)) (λ e x y. omega (arith, x.size_legal)) es h.entries_legal sizes in
        record {
          few = omega (arith, length_templates b es rs, length-append t.held t.handed);
          caps = each (λ u. length u.bodies ≤ most)
              (λ r x. omega (arith, x.count_right, x.within_cap, length_bodies b r.label es));
          small = each (λ u. All Small u.bodies) (λ r x. all_bodies_lem b Small r.label es small);
          room = omega (
            arith,
            total_weighs b es rs sizes,
            weights_agree len rs es h.labels_differ,
            owned_within rs 0 room es (omega arith) h.entries_placed,
          );
          differ = ids_differ b es rs h.keys_differ;
          filled = each (λ u. 0 < length u.bodies)
              (λ r x. omega (arith, x.count_right, x.some_bodies, length_bodies b r.label es));
          followed = each (λ u. Unit {0}) (λ r x. tt);
        }

    pub table_limited : LegalLimits t.limits → length t.handed ≤ 1 →
        length t.held + length t.handed ≤ t.limits.max_pending_flows → Limited (cache_of t b)
    table_limited legal single few = record {
      legal = legal;
      within = rw
          (whole_is single (all_map Legal Counted (λ r x. x.count_right) (all t) h.records_legal)
          (all_map Legal (λ r. 0 < r.count) (λ r x. x.some_bodies) (all t) h.records_legal)) (table_within few);
    }

pub limits_legal_lem : {l : PendingFlowsConfig} {bytes words : ℕ} → Config.LegalLimits l bytes words → LegalLimits l
limits_legal_lem h = record { templates = h.some_templates; entries = h.some_entries; entry = h.size_within }

pub legal_limited : (w b : List ℕ) → LegalWords w (length b) → Limited (cache_of (table_of w) b)
legal_limited w b h =
    let n = held_count w in
    let rs = records w in
    let many = length_records w (records_at (limits_of w)) (n + chance_count w) in
    let behind = length-drop n rs in
    table_limited (table_of w) b (index w) h.table_legal_lem h.limits_legal_lem.bytes_enough
    (limits_legal_lem h.limits_legal_lem) (omega (arith, h.chance_flag))
    (omega (arith, h.templates_fit, length-take-le n rs (omega arith)))

-- ---- and what belongs together is well-formed where its cache passes none

legal_records : (l : PendingFlowsConfig) (es : List Entry) (rs : List TemplateRecord) → All (λ r. r.key < 65536) rs →
    All (λ r. r.label < 1024) rs → All (λ r. r.count ≡ tally r.label es) rs → All (λ r. 0 < r.count) rs →
    All (λ r. r.count ≤ l.max_entries_per_template) rs → All (LegalRecord l es) rs
legal_records l es [] keys labels counts have caps = tt
legal_records l es (r ∷ rs) keys labels counts have caps = (
  record {
    key_small = keys.0;
    label_small = labels.0;
    count_right = counts.0;
    some_bodies = have.0;
    within_cap = caps.0;
  },
  legal_records l es rs keys.1 labels.1 counts.1 have.1 caps.1,
)

counts_within : (cap : ℕ) (rs : List TemplateRecord) → All (λ r. r.count ≤ cap) rs → count_sum rs ≤ length rs * cap
unfolding count_sum
counts_within cap [] h = omega arith
counts_within cap (r ∷ rs) h = omega (arith, h.0, counts_within cap rs h.1)

module _ (t : Table) (b is : List ℕ) (tied : Tied (t.held ++ t.handed) t.entries is)
    (placed : Placed 0 t.limits.max_total_bytes t.entries)
    (lent : t.limits.max_total_bytes ≤ length b) (total : t.total ≡ sum_lens t.held t.entries)
    (single : length t.handed ≤ 1) (limited : Limited (cache_of t b)) where
  within : Within t.limits limits_alone [] (templates t b)
  within = rw (whole_is t b single tied.counts_right tied.some_bodies) at limited.within

  caps : All (λ r. r.count ≤ t.limits.max_entries_per_template) (all t)
  caps =
      let es = t.entries in
      let most = t.limits.max_entries_per_template in
      all_both _ _ (λ r. r.count ≤ most) (λ r x y. omega (arith, length_bodies b r.label es)) (all t)
      tied.counts_right (all_records b es (λ u. length u.bodies ≤ most) (all t) within.caps)

  short : All (λ e. e.len ≤ t.limits.max_entry_size_bytes) t.entries
  short =
      let es = t.entries in
      let Small : Body → Type 0 = λ x. size x ≤ t.limits.max_entry_size_bytes in
      all_both _ _ (λ e. e.len ≤ t.limits.max_entry_size_bytes) (λ e x y. omega arith) es
      (sized b 0 t.limits.max_total_bytes es lent placed)
      (all_entries b Small (all t) es tied.labels_known
      (all_records b es (λ u. All Small u.bodies) (all t) within.small))

  pub tied_legal : LegalTable t is × (length t.held + length t.handed ≤ t.limits.max_pending_flows)
      × (length t.entries ≤ max_bodies t.limits)
  tied_legal =
      let es = t.entries in
      let few : length (all t) ≤ t.limits.max_pending_flows =
      omega (arith, within.few, length_templates b es (all t)) in (
        record {
          records_legal = legal_records t.limits es (all t) tied.keys_small tied.labels_small
              tied.counts_right tied.some_bodies caps;
          keys_differ = tied.keys_differ;
          labels_differ = tied.labels_differ;
          entries_legal = all_both _ _ (LegalEntry t.limits (all t))
              (λ e x y. record { label_known = x; size_legal = y }) es tied.labels_known short;
          entries_placed = placed;
          total_right = total;
          index_right = tied.index_right;
        },
        omega (arith, length-append t.held t.handed),
        omega (
          arith,
          counts_sum (all t) es tied.labels_differ tied.labels_known tied.counts_right,
          counts_within t.limits.max_entries_per_template (all t) caps,
          mul-le-mul_right t.limits.max_entries_per_template few,
        ),
      )

-- ---- words that hold a table

-- n held records and c handed-out ones, with m entries
pub record Stored (l : PendingFlowsConfig) (cached dropped total n m c : ℕ) (rs : List TemplateRecord)
    (es : List Entry) (is w : List ℕ) : Type 0 where
  pub limits_are : limits_of w ≡ l
  pub ttl_flag_lem : ttl_set w ≤ 1
  pub cached_is : cached_word w ≡ cached
  pub dropped_is : dropped_word w ≡ dropped
  pub total_is : total_word w ≡ total
  pub held_are : held_count w ≡ n
  pub entries_many : entry_count w ≡ m
  pub chance_is : chance_count w ≡ c
  pub records_are : records_from w (records_at l) (n + c) ≡ rs
  pub index_is : index_from w (records_at l) (n + c) ≡ is
  pub entries_are : entries_from w entries_at m ≡ es

abbrev pub table_with : PendingFlowsConfig → ℕ → ℕ → ℕ → ℕ → List TemplateRecord → List Entry → Table
table_with l cached dropped total n rs es = record {
  limits = l;
  cached = cached;
  dropped = dropped;
  total = total;
  held = take n rs;
  handed = drop n rs;
  entries = es;
}

module _ {l : PendingFlowsConfig} {cached dropped total n m c : ℕ} {rs : List TemplateRecord} {es : List Entry}
    {is w : List ℕ} (s : Stored l cached dropped total n m c rs es is w) where
  abbrev table : Table
  table = table_with l cached dropped total n rs es

  from_limits : records_at (limits_of w) ≡ records_at l
  from_limits = ap records_at s.limits_are

  many : held_count w + chance_count w ≡ n + c
  many = omega (arith, s.held_are, s.chance_is)

  records_read : records w ≡ rs
  records_read =
      ap (λ (p : ℕ). records_from w p (held_count w + chance_count w)) from_limits
      ∙ ap (records_from w (records_at l)) many ∙ s.records_are

  pub stored_index : index w ≡ is
  stored_index =
      ap (λ (p : ℕ). index_from w p (held_count w + chance_count w)) from_limits
      ∙ ap (index_from w (records_at l)) many ∙ s.index_is

  entries_read : entries_from w entries_at (entry_count w) ≡ es
  entries_read = ap (entries_from w entries_at) s.entries_many ∙ s.entries_are

  pub stored_table : table_of w ≡ table
  stored_table = λ i. record {
    limits = s.limits_are i;
    cached = s.cached_is i;
    dropped = s.dropped_is i;
    total = s.total_is i;
    held = take (s.held_are i) (records_read i);
    handed = drop (s.held_are i) (records_read i);
    entries = entries_read i;
  }

  stored_many : length rs ≡ n + c
  stored_many = ap length (sym s.records_are) ∙ length_records w (records_at l) (n + c)

  module _ (b : List ℕ) (single : c ≤ 1) (legal : Config.LegalLimits l (length b) (length w))
      (header : header_words ≤ length w) (tied : Tied rs es is) (placed : Placed 0 l.max_total_bytes es)
      (total_right : total ≡ sum_lens (take n rs) es) (limited : Limited (cache_of table b)) where
    holds : LegalTable table is × (length (take n rs) + length (drop n rs) ≤ l.max_pending_flows) ×
        (length es ≤ max_bodies l)
    holds =
        tied_legal table b is (rw (take-append-drop n rs) tied) placed legal.bytes_enough total_right
        (omega (arith, stored_many, length-drop n rs)) limited

    words_legal : LegalWords w (length b)
    words_legal =
        let long : length (take n rs) ≡ n = length-take-le n rs (omega (arith, stored_many)) in
        let rest : length (drop n rs) ≡ c = omega (arith, stored_many, length-drop n rs) in
        let entries : length es ≡ m = ap length (sym s.entries_are) ∙ length_entries w entries_at m in
        record {
          header_long = header;
          limits_legal_lem = subst (λ (k : PendingFlowsConfig). Config.LegalLimits k (length b) (length w))
              (sym s.limits_are) legal;
          ttl_flag_lem = s.ttl_flag_lem;
          chance_flag = omega (arith, s.chance_is);
          templates_fit = omega (
            arith,
            holds.1,
            s.held_are,
            s.chance_is,
            ap (λ (k : PendingFlowsConfig). k.max_pending_flows) s.limits_are,
          );
          entries_fit = omega (arith, holds.2, s.entries_many, ap max_bodies s.limits_are);
          table_legal_lem = subst (λ (u : Table). LegalTable u (index w)) (sym stored_table)
              (subst (LegalTable table) (sym stored_index) holds.0);
        }

    pub stored_view : (well_formed w (length b) ≡ true) × (view (areas_of w b) ≡ some (cache_of table b))
    unfolding view
    stored_view =
        let ok : well_formed w (length b) ≡ true = words_hold w (length b) words_legal in
        (ok, rw ok (ap (λ (u : Table). some (cache_of u b)) stored_table))

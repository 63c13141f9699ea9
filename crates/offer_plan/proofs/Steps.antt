-- The steps by which a plan is made, from what their callees ensure. Assumes nothing.
use Rattle.std.proofs.Common.{Option, None}
use mathlib.Core.Path.{◌≡◌, refl, sym, ap, ◌∙◌}
use mathlib.Core.Bool.{Bool, true, false}
use mathlib.Core.List.{List, [], ◌∷◌}
use Prim.Native.Nat.{ℕ, ◌+◌, ◌*◌, ◌-◌, ◌≤◌, ◌<◌}
use native.Mathlib.Omega.{arith}
use lib.Dec.{leb, ltb}
use lib.ListN.{length, get_or}
use borrow.Author.Tests.{leb-true, lt-ltb, le-ltb, le-leb, lt-leb}
use Rattle.std.proofs.lemmas.Bool.{false≢true}
use Rattle.config.specs.declared.PendingFlowsConfig.{PendingFlowsConfig}
use Rattle.config.specs.Limits.{record_words, entry_words, max_bodies}
use Rattle.config.proofs.Lists.{All, all_both}
use Rattle.table.specs.declared.Entry.{Entry}
use Rattle.table.specs.declared.TemplateRecord.{TemplateRecord}
use Rattle.table.specs.Layout.{entries_at, records_at}
use Rattle.table.specs.Table.{table_of, entries_from, records_from, tally}
use Rattle.table.specs.Parts.{template_of, entries_of, templates_of}
use Rattle.table.specs.Passes.{label_of_first}
use Rattle.table.specs.WellFormed.{well_formed}
use Rattle.table.specs.Reads.{record_of, label_in, label_of, live_count}
use Rattle.table.proofs.Parts.{as_many}
use Rattle.table_entries.specs.declared.StayTest.{StayTest}
use Rattle.table_entries.specs.Sums.{summed}
use Rattle.table_entries.proofs.LabelSums.{zeros}
use Rattle.table_records.specs.Choose.{evictions_of, live_records, label_of_first_live}
use Rattle.cache_model.specs.Bodies.{size, sum_templates}
use Rattle.cache_model.specs.Removal.{evictions}
use Rattle.pending_flows.specs.declared.header.HeaderFigures.{HeaderFigures}
use Rattle.pending_flows.specs.declared.header.Header.{Header}
use Rattle.pending_flows.specs.Header.{HoldsCache}
use Rattle.pending_flows.specs.View.{cache_of, templates_at}
use Rattle.pending_flows.proofs.Questions as Questions
use Rattle.table_view.proofs.AllStay.{all_live}
use Rattle.table_view.proofs.Swept.{Within}
use Rattle.offer_plan.specs.declared.plan.Decision.{Decision}
use Rattle.offer_plan.specs.Plan.{live_test, lens_of, first_reaches, live_sums, live_found, LiveSeen, LiveRead}
use Rattle.offer_plan.specs.Plan.{live_at, others_fill, first_evicted, first_of_full, Decides}
use Rattle.offer_plan.proofs.RecordReads.{evictions_read, none_evicted, first_size, one_evicted}
use Rattle.offer_plan.proofs.Live.{label_is, seen_is}
use Rattle.offer_plan.proofs.Reaches.{lens_read}
use Rattle.offer_plan.proofs.Tables.{within, held_sized, total_held, held_are}

-- ---- the least recent live template

-- where each record has live bodies, it is the first
module _ (live : List ℕ) where
  all_counted : (rs : List TemplateRecord) → All (λ r. 0 < get_or live r.label 0) rs → live_records live rs ≡ length rs
  unfolding live_records
  all_counted [] a = refl
  all_counted (r ∷ rs) a =
      let ih = all_counted rs a.1 in rw (lt-ltb 0 (get_or live r.label 0) a.0) (omega (arith, ih))

  first_found : (rs : List TemplateRecord) → All (λ r. 0 < get_or live r.label 0) rs →
      label_of_first_live live rs ≡ label_of_first rs
  first_found [] a = refl
  first_found (r ∷ rs) a = rw (lt-ltb 0 (get_or live r.label 0) a.0) refl

-- with no time to live each has
pub oldest_of_all : (l : PendingFlowsConfig) (clock : ℕ) (es : List Entry) (rs : List TemplateRecord) (k : Option ℕ) →
    l.ttl ≡ None → LiveRead l.ttl clock rs es → k ≡ first_of_full l.max_pending_flows rs →
    k ≡ first_evicted l.max_pending_flows (live_sums l.ttl clock es) rs
oldest_of_all l clock es rs k none reads first =
    rw (all_counted live rs some, first_found live rs some) first
  where
    live : List ℕ
    live = live_sums l.ttl clock es

    some : All (λ r. 0 < get_or live r.label 0) rs
    some =
        all_both (λ r. (0 < r.count) × (r.count ≡ tally r.label es))
        (λ r. live_count l.ttl clock r.label es ≡ get_or live r.label 0) _
        (λ r a b.
        let all : live_count l.ttl clock r.label es ≡ tally r.label es =
        rw none (all_live clock r.label es) in omega (arith, a.0, a.1, b, all)) rs
        (all_both (λ r. 0 < r.count) (λ r. r.count ≡ tally r.label es) _ (λ r a b. (a, b)) rs
        reads.some reads.counts)
        reads.live

-- with the live bodies of each label summed
pub oldest_found : (l : PendingFlowsConfig) (clock : ℕ) (es : List Entry) (rs : List TemplateRecord) (sums : List ℕ)
    (k : Option ℕ) (q : StayTest) → q ≡ live_test l.ttl clock → sums ≡ summed q false zeros es →
    k ≡ first_evicted l.max_pending_flows sums rs →
    k ≡ first_evicted l.max_pending_flows (live_sums l.ttl clock es) rs
oldest_found l clock es rs sums k q tests counted first =
    let is : sums ≡ live_sums l.ttl clock es = counted ∙ rw tests refl in
    rw is at first

-- ---- the decision: of the id's m live bodies h are found

module _ (l : PendingFlowsConfig) (id clock : ℕ) (es : List Entry) (parts : List (List ℕ))
    (x : Option TemplateRecord) (m h : ℕ) (reads : LiveRead l.ttl clock (templates_of parts) es)
    (seen : LiveSeen id m l.ttl clock (templates_of parts) es) (found : x ≡ record_of id (templates_of parts))
    (read : h ≡ live_found m x)
  where
    abbrev rs : List TemplateRecord
    rs = templates_of parts

    abbrev live : List ℕ
    live = live_sums l.ttl clock es

    here : live_at live (label_of id rs) ≡ h
    here = sym (read ∙ seen_is reads id found m seen)

    pub full_decided : 0 < h → l.max_entries_per_template ≤ h → Decides l id live rs Decision.Full
    full_decided some cap =
        let tested : ltb 0 h ≡ true = lt-ltb 0 h some in
        let capped : leb l.max_entries_per_template h ≡ true = le-leb l.max_entries_per_template h cap in
        record { full = rw (here, tested, capped); all = rw (here, tested); first = refl }

    pub held_decided : 0 < h → h < l.max_entries_per_template → Decides l id live rs Decision.Room
    held_decided some below =
        let tested : ltb 0 h ≡ true = lt-ltb 0 h some in
        let capped : leb l.max_entries_per_template h ≡ false = lt-leb l.max_entries_per_template h below in
        record { full = rw (here, tested, capped); all = rw (here, tested); first = refl }

    module _ (none : h ≤ 0) (t : Bool) (tested : t ≡ others_fill (label_in x) (length parts) l.max_pending_flows) where
      no_bodies : ltb 0 h ≡ false
      no_bodies = le-ltb 0 h none

      filled : others_fill (label_of id rs) (length rs) l.max_pending_flows ≡ t
      filled = rw (as_many template_of parts, ← label_is reads id found) (sym tested)

      pub new_decided : t ≡ false →
          Decides l id live rs Decision.Room
      new_decided e = record {
        full = rw (here, no_bodies);
        all = rw (here, no_bodies, filled, e);
        first = refl;
      }

      pub new_full_decided : (k : Option ℕ) → t ≡ true → k ≡ first_evicted l.max_pending_flows live rs →
          Decides l id live rs (Decision.NoRoom k)
      new_full_decided k e oldest = record {
        full = rw (here, no_bodies);
        all = rw (here, no_bodies, filled, e);
        first = oldest;
      }

-- the first record's bodies have as many bytes as they reach
first_reached : (b : List ℕ) (es : List Entry) → Within (length b) es → (least : ℕ) (rs : List TemplateRecord) →
    first_reaches least rs es ≡ true → least ≤ first_size b es rs
first_reached b es within least [] h = absurd (false≢true h)
first_reached b es within least (r ∷ rs) h =
    omega (arith, leb-true least (lens_of r.label es) h, lens_read b r.label es within)

-- ---- the evictions, with the header that was read

module _ (w b : List ℕ) {h : Header} (holds : HoldsCache h w (length b)) where
  abbrev l : PendingFlowsConfig
  l = h.limits

  abbrev f : HeaderFigures
  f = h.figures

  ok : well_formed w (length b) ≡ true
  ok = holds.legal

  pub entries_within : entries_at + entry_words * h.figures.entries ≤ length w
  entries_within = rw holds.figures (Questions.entries_within w (length b) ok)

  pub bodies_few : max_bodies h.limits ≤ 262144
  bodies_few = Questions.bodies_few w (length b) ok l holds.limits

  pub records_within : (p : ℕ) → p ≡ records_at h.limits → p + record_words * h.figures.templates ≤ length w
  records_within p e = rw holds.figures (Questions.records_within w (length b) ok l p holds.limits e)

  module _ (len : ℕ) (fits : len ≤ l.max_total_bytes) where
    pub room_already : f.total ≤ l.max_total_bytes - len →
        0 ≡ evictions l.max_total_bytes len (cache_of (table_of w) b).held
    room_already room =
        none_evicted b (table_of w).entries l.max_total_bytes len (table_of w).held fits
        (omega (arith, total_held w b ok, ap (λ (g : HeaderFigures). g.total) holds.figures))

    -- by the parts of the words, one for each entry and for each held record
    module _ (parts rows : List (List ℕ)) (entries : entries_of parts ≡ entries_from w entries_at f.entries)
        (p : ℕ) (from : p ≡ records_at l) (templates : templates_of rows ≡ records_from w p f.templates) where
      entries_are : entries_of parts ≡ (table_of w).entries
      entries_are = entries ∙ rw holds.figures refl

      held_rows : templates_of rows ≡ (table_of w).held
      held_rows =
          templates ∙ rw (holds.figures, from ∙ ap records_at holds.limits) (held_are w b ok)

      pub room_made : (n room : ℕ) → room ≡ l.max_total_bytes - len →
          n ≡ evictions_of room (summed (live_test None 0) true zeros (entries_of parts)) f.total
          (templates_of rows) →
          n ≡ evictions l.max_total_bytes len (cache_of (table_of w) b).held
      room_made n room left evicted =
          evicted ∙ rw (left, entries_are, held_rows, holds.figures)
          (evictions_read b (table_of w).entries l.max_total_bytes len _ _ (table_of w).held fits
          (held_sized w b ok 0) (total_held w b ok))

      -- where the first template's bytes are at least those that are over, it makes room
      pub one_makes_room : (t : Bool) → l.max_total_bytes - len < f.total →
          t ≡ first_reaches (f.total - (l.max_total_bytes - len)) (templates_of rows) (entries_of parts) → t ≡ true →
          1 ≡ evictions l.max_total_bytes len (cache_of (table_of w) b).held
      one_makes_room t full read reached =
          let enough =
          first_reached b (table_of w).entries (within w b ok) (f.total - (l.max_total_bytes - len)) (table_of w).held
          (sym (rw (entries_are, held_rows) at read) ∙ reached) in
          let all : f.total ≡ sum_templates size (templates_at b (table_of w).entries (table_of w).held) =
          ap (λ (g : HeaderFigures). g.total) holds.figures ∙ total_held w b ok in
          one_evicted b (table_of w).entries l.max_total_bytes len (table_of w).held fits
          (omega (arith, all)) (omega (arith, all, enough))

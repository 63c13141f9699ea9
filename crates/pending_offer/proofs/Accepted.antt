-- The rows once an accepted body is stored: they belong together, pass no limit, and stand for what the definition
-- leaves. Assumes nothing.
use mathlib.Core.Path.{◌≡◌, refl, sym, ap, ◌∙◌, subst}
use mathlib.Core.Logic.{◌≢◌}
use mathlib.Core.Bool.{Bool, true, false, ◌||◌, cond}
use mathlib.Core.List.{List, [], ◌∷◌, ◌++◌, append-nil}
use Prim.Native.Nat.{ℕ, ◌+◌, ◌^◌, ◌≤◌, ◌<◌}
use native.Mathlib.Omega.{arith}
use lib.Dec.{eqb}
use lib.ListN.{length, drop, length-append, length-map}
use borrow.Author.Tests.{eqb-true, eq-eqb, ne_eqb}
use Rattle.areas.specs.Overwrite.{put_at}
use Rattle.areas.proofs.Puts.{length_put, drop_put_from}
use Rattle.config.specs.Limits.{max_bodies}
use Rattle.config.proofs.Lists.{All, all_map}
use Rattle.table.specs.declared.Entry.{Entry}
use Rattle.table.specs.declared.TemplateRecord.{TemplateRecord}
use Rattle.table.specs.Layout.{limits_of, entries_at, records_at}
use Rattle.table.specs.Table.{Table, table_of, entries_from, records_from, index_from, has_label, tally, sum_lens}
use Rattle.table.specs.Reads.{label_or_none}
use Rattle.table.proofs.Words.{length_records, length_entries}
use Rattle.table.proofs.Facts.{Placed, LegalWords, words_say}
use Rattle.table.proofs.Labels.{absent_says}
use Rattle.table_entries.specs.Sums.{lens_sum}
use Rattle.table_entries.specs.Pack.{packed_end}
use Rattle.table_entries.proofs.Lengths.{lens_more, placed_wider}
use Rattle.table_entries.proofs.Packed.{packed_end_lem}
use Rattle.table_records.specs.Add.{inserted}
use Rattle.table_records.proofs.AddedIndex.{index_after_adding}
use Rattle.cache_model.specs.Bodies.{Body, Template, size, sum_bodies, sum_templates, bodies_of}
use Rattle.cache_model.specs.Offer.{settled}
use Rattle.cache_model.proofs.Weights.{sum_append, sum_templates_lem}
use Rattle.cache_model.proofs.Calls.{Limited}
use Rattle.cache_model.proofs.Thinning.{thinned}
use Rattle.pending_flows.specs.declared.header.Header.{Header}
use Rattle.pending_flows.specs.Header.{HoldsCache}
use Rattle.pending_flows.specs.View.{cache_of, bodies_at, template_at, templates_at}
use Rattle.table_view.proofs.Tied.{Tied, TiedApart}
use Rattle.table_view.proofs.Swept.{placed_within}
use Rattle.table_view.proofs.Closed.{templates_append, same_templates}
use Rattle.table_view.proofs.Totals.{lens_owned, lens_total}
use Rattle.table_view.proofs.Appended.{appended_placed, appended_bodies}
use Rattle.table_view.proofs.Added.{has_last, differ_last, new_record, added_tied, appended_tally, appended_apart}
use Rattle.table_view.proofs.Added.{same_tally, same_labels_apart}
use Rattle.table_view.proofs.Stored.{tied_legal}
use Rattle.pending_calls.specs.declared.removal.Removed.{Removed}
use Rattle.offer_plan.specs.declared.plan.OfferPlan.{OfferPlan}
use Rattle.offer_plan.specs.Plan.{Plans}
use Rattle.pending_offer.specs.Promises.{body_of}
use Rattle.offer_steps.specs.Room.{room_entries, room_bytes, room_place, new_entry, ChoosesLabel}
use Rattle.offer_steps.proofs.Rooms.{Room, room_made}
use Rattle.planned_removal.specs.Planned.{RemovesPlanned}
use Rattle.pending_offer.proofs.Settled.{outcome, settled_limited}
use Rattle.pending_offer.proofs.Left.{left_placed, left_bytes}
use Rattle.pending_offer.proofs.Outcomes.{leaves, others, accepted_held}
use Rattle.pending_offer.proofs.Labels.{Chosen, others_left, fresh_left, few_left, label_chosen}

-- an entry whose label is a record's, or the one apart, has a record once the label has one
known_more : (a : ℕ) (rs : List TemplateRecord) (r : TemplateRecord) → r.label ≡ a → (e : Entry) →
    has_label e.label rs || eqb a e.label ≡ true → has_label e.label (rs ++ (r ∷ [])) ≡ true
known_more a rs r is e known = has_last e.label rs r ∙ by_label (has_label e.label rs) known
  where
    by_label : (t : Bool) → t || eqb a e.label ≡ true → t || eqb e.label r.label ≡ true
    by_label true k = refl
    by_label false k = eq-eqb e.label r.label (sym (is ∙ eqb-true a e.label k))

-- the lengths of all entries are the bytes of the records' templates and of the bodies apart
lens_apart : {a : ℕ} {rs : List TemplateRecord} {es : List Entry} {is : List ℕ} (b : List ℕ) (most : ℕ) →
    TiedApart a rs es is → Placed 0 most es → most ≤ length b →
    lens_sum es ≡ sum_templates size (templates_at b es rs) + sum_bodies size (bodies_at b a es)
lens_apart {a} {rs} {es} b most h placed lent =
    let r : TemplateRecord = record { key = 0; label = a; count = 0 } in
    let apart = all_map (λ u. a ≢ u.label) (λ u. u.label ≢ a) (λ u d e. d (sym e)) rs
    (absent_says a rs h.label_apart) in
    let known = all_map _ (λ e. has_label e.label (rs ++ (r ∷ [])) ≡ true) (known_more a rs r refl) es
    h.labels_known in
    let total : lens_sum es ≡ sum_templates size (templates_at b es (rs ++ (r ∷ []))) =
    lens_owned (rs ++ (r ∷ [])) es known
    ∙ lens_total b (rs ++ (r ∷ [])) es (differ_last (λ u. u.label) rs r apart h.labels_differ)
    (placed_within 0 (length b) es (placed_wider 0 most (length b) es lent placed)) in
    omega (
      arith,
      ap (sum_templates size) (templates_append b es rs (r ∷ [])),
      sum_templates_lem size (templates_at b es rs) (template_at b es r ∷ []),
    )

-- The words w, the bytes b and their header h before the offer of a body under the id i; the plan; the words that the
-- removal leaves; the label that is chosen.
pub record Accepting (w b : List ℕ) (h : Header) (i : ℕ) (body : List ℕ) (clock : ℕ) (plan : OfferPlan) (w₁ : List ℕ)
    (left : Removed) (a : ℕ) : Type 0 where
  pub holds : HoldsCache h w (length b)
  pub id : i < 65536
  pub small : length body ≤ (limits_of w).max_entry_size_bytes
  pub plans : Plans w b i (length body) clock plan
  pub room : plan.full ≡ false
  pub removed : RemovesPlanned clock plan (label_or_none plan.label) w w₁ left
  pub long : length w₁ ≡ length w
  pub label : ChoosesLabel plan.label (records_from w₁ (records_at h.limits) left.records) a

module _ {w b : List ℕ} {h : Header} {i : ℕ} {body : List ℕ} {clock : ℕ} {plan : OfferPlan} {w₁ : List ℕ}
    {left : Removed} {a : ℕ} (known : Accepting w b h i body clock plan w₁ left a) where
  legal : LegalWords w (length b)
  legal = words_say w (length b) known.holds.legal

  abbrev most : ℕ
  most = (limits_of w).max_total_bytes

  abbrev x : Body
  x = body_of body clock

  abbrev ts : List Template
  ts = (cache_of (table_of w) b).held

  -- what the plan leaves of the id's bodies, and what it leaves of the other ids' templates
  abbrev own : List Body
  own = leaves w b known.holds.legal i x known.small i (bodies_of i ts)

  abbrev rest : List Template
  rest = thinned (others w b known.holds.legal i x known.small) ts

  abbrev newest : Template
  newest = record { id = i; bodies = own ++ (x ∷ []) }

  -- what is held afterwards by the definition
  abbrev held : List Template
  held = (outcome w b known.holds.legal i x known.small).left.held

  held_is : held ≡ rest ++ (newest ∷ [])
  held_is = accepted_held w b known.holds.legal i x known.small known.plans known.room

  -- the rows that the removal leaves
  abbrev es : List Entry
  es = entries_from w₁ entries_at left.entries

  abbrev rs : List TemplateRecord
  rs = records_from w₁ (records_at (limits_of w)) left.records

  abbrev is : List ℕ
  is = index_from w₁ (records_at (limits_of w)) left.records

  pub placed_before : Placed 0 most es
  placed_before = left_placed w b known.holds.legal i clock (length body) (label_or_none plan.label) known.plans known.removed

  pub chosen : Chosen (records_at (limits_of w)) left w₁ b own a
  chosen = label_chosen w b known.holds.legal i x known.small known.plans known.room known.removed
      (rw known.holds.limits at known.label)

  rest_is : templates_at b es rs ≡ rest
  rest_is = others_left w b known.holds.legal i x known.small known.plans known.room known.removed

  fresh : All (λ u. u.key ≢ i) rs
  fresh = fresh_left w b known.holds.legal i x known.small known.plans known.room known.removed

  pub records_few : left.records < (limits_of w).max_pending_flows
  records_few = few_left w b known.holds.legal i x known.small known.plans known.room known.removed

  -- all bodies together leave room for the new one
  pub body_room : packed_end 0 es + length body ≤ most
  unfolding settled
  body_room =
      omega (
        arith,
        (settled_limited w b known.holds.legal i x known.small).within.room,
        packed_end_lem 0 es,
        lens_apart b most chosen.tied placed_before legal.limits_legal_lem.bytes_enough,
        ap (sum_templates size) rest_is,
        ap (sum_bodies size) chosen.bodies,
        ap (sum_templates size) held_is,
        sum_templates_lem size held [],
        sum_templates_lem size rest (newest ∷ []),
        sum_append size own (x ∷ []),
      )

  bytes_are : left.bytes ≡ lens_sum es
  bytes_are = left_bytes w b known.holds.legal i clock (length body) (label_or_none plan.label) known.plans known.removed

  pub total_fits : left.bytes + length body < 2 ^ 64
  total_fits = omega (arith, bytes_are, packed_end_lem 0 es, body_room, legal.limits_legal_lem.total_small)

  -- the rows with the body behind the others, and its template's record newest
  abbrev place : ℕ
  place = room_place (length body) most es

  abbrev roomy : List ℕ
  roomy = room_bytes (length body) most es b

  abbrev roomy_entries : List Entry
  roomy_entries = room_entries (length body) most es

  abbrev e : Entry
  e = new_entry (limits_of w) a body clock es

  abbrev entries_after : List Entry
  entries_after = roomy_entries ++ (e ∷ [])

  abbrev bytes_after : List ℕ
  bytes_after = put_at place body roomy

  abbrev r : TemplateRecord
  r = record { key = i; label = a; count = left.apart + 1 }

  abbrev index_after : List ℕ
  index_after = inserted rs i left.records is

  made : Room (length body) most es b roomy_entries roomy place
  made = room_made (length body) most es b placed_before legal.limits_legal_lem.bytes_enough body_room

  apart_before : TiedApart a rs roomy_entries is
  apart_before = same_labels_apart es roomy_entries made.same_labels chosen.tied

  apart_after : TiedApart a rs entries_after is
  apart_after = appended_apart apart_before e refl chosen.below

  counts : left.apart + 1 ≡ tally a entries_after
  counts =
      omega (
        arith,
        chosen.count,
        appended_tally apart_before e refl,
        same_tally es roomy_entries made.same_labels a,
      )

  -- the lengths before, and the body's
  pub lens_after : left.bytes + length body ≡ lens_sum entries_after
  lens_after = omega (arith, bytes_are, made.same_lens, lens_more roomy_entries e)

  -- as many entries as before, and one
  pub one_more : length entries_after ≡ left.entries + 1
  one_more =
      let same : length roomy_entries ≡ length es =
      sym (length-map roomy_entries _) ∙ ap length made.same_labels ∙ length-map es _ in
      omega (arith, length-append roomy_entries (e ∷ []), length_entries w₁ entries_at left.entries)

  pub tied_after : Tied (rs ++ (r ∷ [])) entries_after index_after
  tied_after =
      let n : length rs ≡ left.records = length_records w₁ (records_at (limits_of w)) left.records in
      let new = new_record i a entries_after in
      let same : new ≡ r = λ j. record { key = i; label = a; count = sym counts j } in
      let index = index_after_adding rs new is chosen.tied.index_right
      (all_map (λ u. u.key ≢ i) (λ u. i ≢ u.key) (λ u d f. d (sym f)) rs fresh) in
      subst (λ (u : TemplateRecord). Tied (rs ++ (u ∷ [])) entries_after index_after) same
      (subst (λ (k : ℕ). Tied (rs ++ (new ∷ [])) entries_after (inserted rs i k is)) n
      (added_tied apart_after i known.id chosen.below fresh (omega (arith, counts)) index.0
      (omega (arith, index.1, chosen.tied.index_long, length-append rs (new ∷ [])))))

  pub placed_after : Placed 0 most entries_after
  placed_after = appended_placed 0 most roomy_entries e made.placed (omega arith) made.fits

  body_within : place + length body ≤ length roomy
  body_within = omega (arith, made.fits, made.long, legal.limits_legal_lem.bytes_enough)

  pub bytes_long : length bytes_after ≡ length b
  bytes_long = length_put place body roomy body_within ∙ made.long

  pub bytes_behind : drop most bytes_after ≡ drop most b
  bytes_behind = drop_put_from place body roomy body_within most made.fits ∙ made.behind

  -- the bodies of a label then
  bodies_after : (k : ℕ) → bodies_at bytes_after k entries_after ≡ bodies_at b k es ++ cond (eqb k a) (x ∷ []) []
  bodies_after k =
      appended_bodies roomy body k roomy_entries e refl body_within made.placed ∙ rw (made.same_bodies k)

  pub held_after : templates_at bytes_after entries_after (rs ++ (r ∷ [])) ≡ held
  held_after =
      let rest-same : templates_at bytes_after entries_after rs ≡ templates_at b es rs =
      same_templates bytes_after b entries_after es rs
      (all_map {A = TemplateRecord} (λ u. a ≢ u.label)
      (λ u. bodies_at bytes_after u.label entries_after ≡ bodies_at b u.label es)
      (λ u d. bodies_after u.label
      ∙ rw (ne_eqb u.label a (λ f. d (sym f))) (append-nil (bodies_at b u.label es)))
      rs (absent_says a rs chosen.tied.label_apart)) in
      let own-more : bodies_at bytes_after a entries_after ≡ own ++ (x ∷ []) =
      bodies_after a ∙ rw (eq-eqb a a refl, chosen.bodies) in
      templates_append bytes_after entries_after rs (r ∷ []) ∙ rw (rest-same, own-more, rest_is) (sym held_is)

  -- so the limits leave room for it
  abbrev table : Table
  table = record {
    limits = limits_of w;
    cached = 0;
    dropped = 0;
    total = sum_lens (rs ++ (r ∷ [])) entries_after;
    held = rs ++ (r ∷ []);
    handed = [];
    entries = entries_after;
  }

  table_limited : Limited (cache_of table bytes_after)
  unfolding settled
  table_limited =
      let after = settled_limited w b known.holds.legal i x known.small in
      record { legal = after.legal; within = rw held_after after.within }

  pub entries_few : left.entries < max_bodies (limits_of w)
  entries_few =
      let tied : Tied ((rs ++ (r ∷ [])) ++ []) entries_after index_after =
      rw (append-nil (rs ++ (r ∷ []))) tied_after in
      let lent : most ≤ length bytes_after = omega (arith, bytes_long, legal.limits_legal_lem.bytes_enough) in
      let holds = tied_legal table bytes_after index_after tied placed_after lent refl (omega arith) table_limited in
      omega (arith, holds.2, one_more)

-- An accepted offer, from the steps of the code: the removal, the label, the body, the header. Assumes nothing.
use mathlib.Core.Path.{◌≡◌, sym, ◌∙◌, subst}
use mathlib.Core.List.{List}
use Prim.Native.Nat.{ℕ, ◌+◌, ◌*◌, ◌-◌, ◌^◌, ◌≤◌, ◌<◌}
use native.Mathlib.Omega.{arith}
use lib.ListN.{length, drop}
use Rattle.areas.specs.Overwrite.{overwritten}
use Rattle.areas.proofs.Puts.{drop_more}
use Rattle.config.specs.declared.PendingFlowsConfig.{PendingFlowsConfig}
use Rattle.config.specs.Limits.{header_words, record_words, words_needed}
use Rattle.table.specs.declared.TemplateRecord.{TemplateRecord}
use Rattle.table.specs.Layout.{limits_of, entries_at, records_at}
use Rattle.table.specs.Table.{table_of, entries_from, records_from}
use Rattle.table.specs.Reads.{label_or_none}
use Rattle.table.proofs.Facts.{Placed, LegalWords, words_say, places_hold}
use Rattle.cache_model.specs.Bodies.{Body, all_bodies}
use Rattle.cache_model.specs.Cache.{done}
use Rattle.cache_model.specs.Offer.{accepted, offered}
use Rattle.pending_flows.specs.View.{areas_of, cache_of, templates_at}
use Rattle.pending_flows.specs.declared.header.Header.{Header}
use Rattle.pending_flows.specs.Header.{header_of}
use Rattle.pending_calls.specs.declared.removal.Removed.{Removed}
use Rattle.pending_calls.specs.Promises.{Does}
use Rattle.pending_calls.proofs.RemovedLemmas.{TiedRows}
use Rattle.offer_plan.specs.declared.plan.OfferPlan.{OfferPlan}
use Rattle.pending_offer.specs.Promises.{body_of}
use Rattle.offer_steps.specs.Room.{RoomFor, AddsBody}
use Rattle.offer_steps.specs.Settle.{settled_figures}
use Rattle.pending_offer.proofs.Settled.{outcome, drops_counted, settled_does}
use Rattle.pending_offer.proofs.Left.{left_behind}
use Rattle.pending_offer.proofs.Outcomes.{accepted_verdict}
use Rattle.pending_offer.proofs.Accepted.{Accepting, placed_before, chosen, records_few, body_room, one_more}
use Rattle.pending_offer.proofs.Accepted.{lens_after, tied_after, placed_after, bytes_long, bytes_behind}
use Rattle.pending_offer.proofs.Accepted.{held_after, entries_few}

module _ {w b : List ℕ} {h : Header} {i : ℕ} {body : List ℕ} {clock : ℕ} {plan : OfferPlan}
    {w₁ : List ℕ} {left : Removed} {a : ℕ} (known : Accepting w b h i body clock plan w₁ left a) where
  legal : LegalWords w (length b)
  legal = words_say w (length b) known.holds.legal

  abbrev l : PendingFlowsConfig
  l = limits_of w

  abbrev x : Body
  x = body_of body clock

  -- before it is stored
  pub accepted_room : RoomFor h.limits left.records left.entries (length body) w₁ b
  accepted_room =
      let limits = sym known.holds.limits in
      subst (λ (c : PendingFlowsConfig). RoomFor c left.records left.entries (length body) w₁ b) limits
      (record {
        entries_fit = entries_few known;
        records_fit = records_few known;
        bodies_few = legal.limits_legal_lem.bodies_few;
        total_small = legal.limits_legal_lem.total_small;
        words_enough = omega (arith, known.long, legal.limits_legal_lem.words_enough);
        bytes_enough = legal.limits_legal_lem.bytes_enough;
        placed = places_hold 0 l.max_total_bytes (entries_from w₁ entries_at left.entries)
            (placed_before known);
        body_fits = body_room known;
        rises = (chosen known).tied.index_right;
      })

  pub records_fit : left.records + 1 < 2 ^ 64
  records_fit = omega (arith, records_few known, legal.limits_legal_lem.templates_few)

  pub entries_fit : left.entries + 1 < 2 ^ 64
  entries_fit = omega (arith, entries_few known, legal.limits_legal_lem.bodies_few)

  -- the record of the id, with one body more
  abbrev r : TemplateRecord
  r = record { key = i; label = a; count = left.apart + 1 }

  -- once it is stored
  module _ {w₂ b₂ : List ℕ} (long : length w₂ ≡ length w)
      (adds : AddsBody h.limits left.records left.entries r body clock w₁ b w₂ b₂) where
    added : AddsBody l left.records left.entries r body clock w₁ b w₂ b₂
    added =
        subst (λ (c : PendingFlowsConfig). AddsBody c left.records left.entries r body clock w₁ b w₂ b₂)
        known.holds.limits adds

    rows : TiedRows (records_at l) (left.records + 1) (left.entries + 1) w₂
    rows = rw (added.records, added.entries, added.index) (tied_after known)

    placed : Placed 0 l.max_total_bytes (entries_from w₂ entries_at (left.entries + 1))
    placed = rw added.entries (placed_after known)

    behind : drop (words_needed l) w₂ ≡ drop (words_needed l) w
    behind =
        drop_more (words_needed l) (records_at l + record_words * (left.records + 1)) w₂ w₁
        (omega (arith, records_few known)) added.behind
        ∙ left_behind w b known.holds.legal i clock (length body) (label_or_none plan.label) known.plans known.removed

    pub accepted_settles : header_words ≤ length w₂
    accepted_settles = omega (arith, legal.header_long)

  verdict : (outcome w b known.holds.legal i x known.small).verdict ≡ accepted
  verdict = accepted_verdict w b known.holds.legal i x known.small known.plans known.room

  -- n bodies are held before
  module _ {n : ℕ} (before : n ≡ length (all_bodies (cache_of (table_of w) b).held)) where
    counted : length (outcome w b known.holds.legal i x known.small).left.removed + left.entries ≡ n
    counted =
        omega (
          arith,
          drops_counted w b known.holds.legal i x known.small verdict _ (tied_after known) (held_after known),
          one_more known,
        )

    pub accepted_fewer : left.entries ≤ n
    accepted_fewer = omega (arith, counted)

    pub accepted_does : {w₂ b₂ w' : List ℕ} (long : length w₂ ≡ length w)
        (adds : AddsBody h.limits left.records left.entries r body clock w₁ b w₂ b₂) →
        w' ≡ overwritten w₂ (header_of h.limits (settled_figures h.figures 1 (n - left.entries)
        (left.bytes + length body) (left.records + 1) (left.entries + 1))) →
        Does (offered i x) (cache_of (table_of w) b) (areas_of w b) done (areas_of w' b₂)
    accepted_does {w₂} {b₂} {w'} long adds written =
        let k = left.records + 1 in
        let m = left.entries + 1 in
        let more = added long adds in
        let held : templates_at b₂ (entries_from w₂ entries_at m) (records_from w₂ (records_at l) k)
        ≡ (outcome w b known.holds.legal i x known.small).left.held =
        rw (more.entries, more.records, more.bytes) (held_after known) in
        let same_long : length b₂ ≡ length b = rw more.bytes (bytes_long known) in
        let same-behind : drop l.max_total_bytes b₂ ≡ drop l.max_total_bytes b =
        rw more.bytes (bytes_behind known) in
        settled_does w b known.holds.legal i x known.small verdict w₂ b₂ k m (n - left.entries)
        (left.bytes + length body) (rows long adds) (placed long adds) held
        (lens_after known ∙ rw more.entries) (omega (arith, counted)) same_long long known.holds written
        same-behind
        (behind long adds)

-- What a removal for the offered body leaves, packed or not: the same room, and the body is added to it as to what the
-- plan leaves. Assumes nothing.
use Rattle.std.proofs.Common.{Option}
use mathlib.Core.Path.{◌≡◌, sym, ap, ◌∙◌}
use mathlib.Core.Logic.{inl, inr}
use mathlib.Core.Bool.{true, false}
use mathlib.Core.List.{List}
use Prim.Native.Nat.{ℕ, ◌+◌, ◌*◌, ◌≤◌, ◌<◌}
use native.Mathlib.Omega.{arith}
use lib.ListN.{length}
use borrow.Author.Tests.{le-leb, lt-leb}
use Rattle.config.specs.declared.PendingFlowsConfig.{PendingFlowsConfig}
use Rattle.config.specs.Limits.{record_words, entry_words}
use Rattle.areas.proofs.Puts.{drop_more}
use Rattle.table.specs.declared.Entry.{Entry}
use Rattle.table.specs.declared.TemplateRecord.{TemplateRecord}
use Rattle.table.specs.Layout.{limits_of, entries_at, records_at}
use Rattle.table.specs.Table.{entries_from, records_from, index_from}
use Rattle.table.specs.Parts.{templates_of}
use Rattle.table.specs.Reads.{label_or_none}
use Rattle.table.specs.WellFormed.{well_formed}
use Rattle.table.proofs.Facts.{words_say, places_hold}
use Rattle.table_entries.specs.Pack.{last_end, packed_entries, packed_end}
use Rattle.table_entries.proofs.Packed.{packed_placed, last_packed, packed_again}
use Rattle.table_records.proofs.Frames.{records_above, index_above}
use Rattle.pending_flows.specs.declared.header.Header.{Header}
use Rattle.pending_calls.specs.declared.removal.Removed.{Removed}
use Rattle.pending_calls.proofs.RemovedLemmas.{entries_below_records}
use Rattle.offer_plan.specs.declared.plan.OfferPlan.{OfferPlan}
use Rattle.offer_plan.specs.Plan.{Plans}
use Rattle.offer_steps.specs.Room.{fits_behind, RoomFor, AddsBody, ChoosesLabel}
use Rattle.packed_removal.specs.ForBody.{PacksFor, LeftFor, RemovesForBody}
use Rattle.pending_offer.specs.Promises.{FitsEntry}
use Rattle.pending_offer.proofs.Offered.{fits_small}
use Rattle.pending_offer.proofs.Accepted.{Accepting}

-- packed for a body: m entries, with k records behind them
module _ {l : PendingFlowsConfig} {k m len : ℕ} {w b w' b' : List ℕ} {end : ℕ}
    (room : RoomFor l k m len w b) (long : length w' ≡ length w) (lent : length b' ≡ length b)
    (done : PacksFor len l.max_total_bytes m w b w' b' end) where
  abbrev most : ℕ
  most = l.max_total_bytes

  abbrev es : List Entry
  es = entries_from w entries_at m

  below : entries_at + entry_words * m ≤ records_at l
  below = omega (arith, room.entries_fit)

  same_records : records_from w' (records_at l) k ≡ records_from w (records_at l) k
  same_records = records_above w' w (records_at l) k (entries_at + entry_words * m) below done.packs.tail

  same_index : index_from w' (records_at l) k ≡ index_from w (records_at l) k
  same_index = index_above w' w (records_at l) k (entries_at + entry_words * m) below done.packs.tail

  fits : packed_end 0 es + len ≤ most
  fits = room.body_fits

  packed_room : RoomFor l k m len w' b'
  packed_room = record {
    entries_fit = room.entries_fit;
    records_fit = room.records_fit;
    bodies_few = room.bodies_few;
    total_small = room.total_small;
    words_enough = omega (arith, room.words_enough);
    bytes_enough = omega (arith, room.bytes_enough);
    placed = rw done.packs.entries
        (places_hold 0 most (packed_entries 0 es) (packed_placed 0 most es (omega (arith, fits))));
    body_fits = rw (done.packs.entries, packed_again es) fits;
    rises = rw (same_records, same_index) room.rises;
  }

  -- the body did not fit behind the last one, and now it does
  full : fits_behind len most es ≡ false
  full = lt-leb (last_end es + len) most done.past

  free : fits_behind len most (packed_entries 0 es) ≡ true
  free = le-leb (last_end (packed_entries 0 es) + len) most (omega (arith, last_packed es, fits))

module _ {l : PendingFlowsConfig} {k m : ℕ} (body : List ℕ) {w b w' b' : List ℕ} {end : ℕ}
    (room : RoomFor l k m (length body) w b) (long : length w' ≡ length w) (lent : length b' ≡ length b)
    (done : PacksFor (length body) l.max_total_bytes m w b w' b' end) where
  packed_adds : {r : TemplateRecord} {clock : ℕ} {w₂ b₂ : List ℕ} →
      AddsBody l k m r body clock w' b' w₂ b₂ → AddsBody l k m r body clock w b w₂ b₂
  packed_adds {w₂ = w₂} adds =
      let now = done.packs.entries in
      let tests = full room long lent done in
      let tests' = free room long lent done in
      let at = last_packed (entries_from w entries_at m) in
      let past = records_at l + record_words * (k + 1) in
      record {
        entries = adds.entries ∙ rw (now, tests, tests', at);
        bytes = adds.bytes ∙ rw (now, tests, tests', at, done.packs.bytes);
        records = adds.records ∙ rw (same_records room long lent done);
        index = adds.index ∙ rw (same_records room long lent done, same_index room long lent done);
        behind = adds.behind
            ∙ drop_more past (entries_at + entry_words * m) w' w (omega (arith, below room long lent done))
            done.packs.tail;
      }

-- with the limits that were read
pub left_with : {l l' : PendingFlowsConfig} → l ≡ l' → {len m : ℕ} {w b w' b' : List ℕ} {end : ℕ} →
    LeftFor len l'.max_total_bytes m w b w' b' end → LeftFor len l.max_total_bytes m w b w' b' end
left_with limits left = rw limits left

-- whether packed or not
module _ {l : PendingFlowsConfig} {k m : ℕ} (body : List ℕ) {w b w' b' : List ℕ} {end : ℕ}
    (room : RoomFor l k m (length body) w b) (long : length w' ≡ length w) (lent : length b' ≡ length b) where
  pub room_left : LeftFor (length body) l.max_total_bytes m w b w' b' end → RoomFor l k m (length body) w' b'
  room_left (inl same) = rw (same.0, same.1) room
  room_left (inr packs) = packed_room room long lent packs

  pub adds_left : LeftFor (length body) l.max_total_bytes m w b w' b' end → {r : TemplateRecord} {clock : ℕ}
      {w₂ b₂ : List ℕ} → AddsBody l k m r body clock w' b' w₂ b₂ → AddsBody l k m r body clock w b w₂ b₂
  adds_left (inl same) adds = rw (sym same.0, sym same.1) adds
  adds_left (inr packs) adds = packed_adds body room long lent packs adds

-- the label is chosen by the records, which packing leaves as they are
records_left : {len most m : ℕ} {w b w' b' : List ℕ} {end : ℕ} (p k : ℕ) → entries_at + entry_words * m ≤ p →
    LeftFor len most m w b w' b' end → records_from w' p k ≡ records_from w p k
records_left p k _ (inl same) = ap (λ (v : List ℕ). records_from v p k) same.0
records_left {m = m} {w} {w' = w'} p k room (inr packs) =
    records_above w' w p k (entries_at + entry_words * m) room packs.packs.tail

pub label_left : (w : List ℕ) (n : ℕ) (ok : well_formed w n ≡ true) {l : PendingFlowsConfig} → l ≡ limits_of w →
    {clock apart len : ℕ} {plan : OfferPlan} {b w' b' : List ℕ} {r : Removed} →
    (done : RemovesForBody clock plan apart len w b w' b' r) → {label : Option ℕ} {a : ℕ} →
    ChoosesLabel label (records_from w' (records_at l) r.records) a →
    ChoosesLabel label (records_from done.unpacked (records_at l) r.records) a
label_left w n ok {l} limits {r = r} done chosen =
    let below : entries_at + entry_words * r.entries ≤ records_at l =
    rw limits (omega (arith, done.removes.few_entries, entries_below_records w n (words_say w n ok))) in
    rw (records_left (records_at l) r.records below done.left) at chosen

-- what is known once the label is chosen
pub accepting : (w b : List ℕ) {h : Header} {i : ℕ} {body : List ℕ} {clock : ℕ} {plan : OfferPlan} {w' b' : List ℕ}
    {r : Removed} {a : ℕ} → FitsEntry h body w (length b) → i < 65536 →
    Plans w b i (length body) clock plan × (plan.full ≡ false) →
    (done : RemovesForBody clock plan (label_or_none plan.label) (length body) w b w' b' r) →
    {p : ℕ} → p ≡ records_at h.limits → (parts : List (List ℕ)) → templates_of parts ≡ records_from w' p r.records →
    ChoosesLabel plan.label (templates_of parts) a →
    Accepting w b h i body clock plan done.unpacked r a
accepting w b fits id plans done from parts rows chosen = record {
  holds = fits.cache;
  id = id;
  small = fits_small fits;
  plans = plans.0;
  room = plans.1;
  removed = done.removes;
  long = done.removes.long;
  label = label_left w (length b) fits.cache.legal fits.cache.limits done (rw (rows, from) at chosen);
}

-- A body put behind the others, from its steps: the room, the entry and its bytes, the record. Assumes nothing.
use Rattle.std.proofs.Common.{Option, Some, None}
use Rattle.std.proofs.lemmas.Option.{none-some, same_Some}
use mathlib.Core.Path.{◌≡◌, sym, ap, ◌∙◌, subst}
use mathlib.Core.Bool.{true}
use mathlib.Core.List.{List}
use Prim.Native.Nat.{ℕ, ◌+◌, ◌*◌, ◌≤◌}
use native.Mathlib.Omega.{arith}
use lib.ListN.{length}
use Rattle.config.specs.declared.PendingFlowsConfig.{PendingFlowsConfig}
use Rattle.config.specs.Limits.{record_words, entry_words}
use Rattle.areas.proofs.Puts.{drop_more}
use Rattle.table.specs.declared.TemplateRecord.{TemplateRecord}
use Rattle.table.specs.Layout.{entries_at, records_at}
use Rattle.table.specs.Table.{entries_from, records_from, index_from}
use Rattle.table.specs.WellFormed.{index_rises}
use Rattle.table.proofs.Facts.{places_say}
use Rattle.table_entries.proofs.Frames.{entries_below}
use Rattle.table_records.specs.Add.{Adds}
use Rattle.table_records.specs.Choose.{FreeLabel}
use Rattle.table_records.proofs.Frames.{records_above, index_above}
use Rattle.offer_steps.specs.Room.{MakesRoom, entry_of, StoresBody, RoomFor, AddsBody, ChoosesLabel}
use Rattle.offer_steps.proofs.Rooms.{room_made}

-- the label that is chosen
pub label_kept : (label : Option ℕ) (k : ℕ) (rs : List TemplateRecord) → label ≡ Some k → ChoosesLabel label rs k
label_kept label k rs is = rw is (record { held = λ n e. same_Some k n e; free = λ e. absurd (none-some k (sym e)) })

pub label_free : (label : Option ℕ) (free : ℕ) (rs : List TemplateRecord) → label ≡ None → FreeLabel rs free →
    ChoosesLabel label rs free
label_free label free rs none is = rw none (record { held = λ n e. absurd (none-some n e); free = λ _. is })

module _ {l : PendingFlowsConfig} {k m : ℕ} (body : List ℕ) {w b : List ℕ} (room : RoomFor l k m (length body) w b)
    {w₁ b₁ : List ℕ} {place : ℕ} (made : MakesRoom m (length body) l.max_total_bytes w b w₁ b₁ place) where
  pub body_within : place + length body ≤ length b₁
  body_within =
      let es = entries_from w entries_at m in
      let most = l.max_total_bytes in
      let left = room_made (length body) most es b (places_say 0 most es room.placed) room.bytes_enough
      room.body_fits in
      omega (arith, made.place, ap length made.bytes, left.fits, left.long, room.bytes_enough)

  module _ {a clock : ℕ} {w₂ b₂ : List ℕ} (stored : StoresBody m (entry_of a place body clock) body w₁ b₁ w₂ b₂)
      {p : ℕ} (from : p ≡ records_at l) where
    records_same : records_from w₂ (records_at l) k ≡ records_from w (records_at l) k
    records_same =
        records_above w₂ w₁ (records_at l) k (entries_at + entry_words * (m + 1)) (omega (arith, room.entries_fit))
        stored.tail
        ∙ records_above w₁ w (records_at l) k (entries_at + entry_words * m) (omega (arith, room.entries_fit))
        made.tail

    index_same : index_from w₂ (records_at l) k ≡ index_from w (records_at l) k
    index_same =
        index_above w₂ w₁ (records_at l) k (entries_at + entry_words * (m + 1)) (omega (arith, room.entries_fit))
        stored.tail
        ∙ index_above w₁ w (records_at l) k (entries_at + entry_words * m) (omega (arith, room.entries_fit)) made.tail

    pub still_rises : index_rises (records_from w₂ p k) 0 (index_from w₂ p k) ≡ true
    still_rises = rw (from, records_same, index_same) room.rises

    pub body_added : {id n : ℕ} {w₃ : List ℕ} → Adds p k (record { key = id; label = a; count = n }) w₂ w₃ →
        AddsBody l k m (record { key = id; label = a; count = n }) body clock w b w₃ b₂
    body_added {id} {n} {w₃} adds =
        let r : TemplateRecord = record { key = id; label = a; count = n } in
        let at : Adds (records_at l) k r w₂ w₃ = subst (λ (q : ℕ). Adds q k r w₂ w₃) from adds in
        let past = records_at l + record_words * (k + 1) in
        let end = entries_at + entry_words * (m + 1) in
        let entries : entries_from w₃ entries_at (m + 1) ≡ entries_from w₂ entries_at (m + 1) =
        entries_below w₃ w₂ entries_at (m + 1) (records_at l) (omega (arith, room.entries_fit)) at.head in
        record {
          entries = entries ∙ stored.entries ∙ rw (made.entries, made.place);
          bytes = stored.bytes ∙ rw (made.place, made.bytes);
          records = at.records ∙ rw records_same;
          index = at.index ∙ rw (records_same, index_same);
          behind = at.tail ∙ drop_more past end w₂ w₁ (omega (arith, room.entries_fit)) stored.tail
              ∙ drop_more past (entries_at + entry_words * m) w₁ w (omega (arith, room.entries_fit)) made.tail;
        }

-- A pass over the entries that keeps some, closes them up and packs their bodies, turn by turn, whatever tells which.
-- Assumes nothing.
use Rattle.std.proofs.Common.{◌≡◌, ℕ, ◌+◌, ◌-◌, ◌*◌, ◌^◌, ◌<◌, ◌≤◌, List, [], ◌∷◌, ◌++◌, length, take, drop, sym, refl, ap, ◌∙◌, append_assoc, append-nil, arith}
use Rattle.config.specs.Limits.{entry_words}
use Rattle.areas.specs.Overwrite.{moved}
use Rattle.areas.proofs.Moves.{length_moved, moved_none, moved_on}
use Rattle.table.specs.declared.Entry.{Entry}
use Rattle.table.specs.Layout.{entries_at}
use Rattle.table.specs.Table.{entry_at, entries_from}
use Rattle.table.proofs.Words.{entries_first, entries_none}
use Rattle.table.proofs.Facts.{Placed, places_say}
use Rattle.table_entries.specs.declared.pack.Run.{Run}
use Rattle.table_entries.specs.Pack.{packed_entries, packed_end, packed_bytes, HoldsEntries, MovesRun, ReachesTo, KeepsPacked}
use Rattle.table_entries.specs.Sweep.{put_entry}
use Rattle.table_entries.proofs.Frames.{entries_below, entries_above, entries_more, length_put, take_put}
use Rattle.table_entries.proofs.Frames.{drop_put, entry_put}
use Rattle.table_entries.proofs.Lengths.{placed_lower}
use Rattle.table_entries.proofs.Packed.{placed_at}

-- a run that is moved, and the next one
pub run_moved : (place : ℕ) (run : Run) (b b' : List ℕ) (end : ℕ) → run.to ≤ run.from →
    run.from + run.len ≤ place → place ≤ length b → MovesRun run b b' end →
    ReachesTo place run b b' (record { from = place; to = end; len = 0 })
run_moved place run b b' end down before within moves = record {
  reaches = omega arith;
  behind = omega (arith, moves.end);
  down = omega (arith, moves.end);
  bytes = sym (moved_none place end b') ∙ moves.bytes;
  length_same = ap length moves.bytes
      ∙ length_moved run.from run.to run.len b (omega arith) (omega arith);
}

-- `left` entries are left, from word `from` on; `kept` are kept and packed, up to word `to`, but that the run is still
-- to be moved. With what `keep` keeps of those that are left, they are `whole`, packed: what the pass keeps.
pub record PackedSoFar (keep : List Entry → List Entry) (whole : List Entry) (entries : ℕ) (w₀ b₀ w b : List ℕ)
    (run : Run) (kept left from to : ℕ) : Type 0 where
  pub filled : to ≡ entries_at + entry_words * kept
  pub reached : from + entry_words * left ≡ entries_at + entry_words * entries
  pub within : entries_at + entry_words * entries ≤ length w₀
  pub few : kept + left ≤ entries
  pub same_words : length w ≡ length w₀
  pub same_bytes : length b ≡ length b₀
  pub down : run.to ≤ run.from
  pub source : run.from + run.len ≤ length b
  -- the bodies that are left begin at the run's end or above
  pub placed : Placed (run.from + run.len) (length b) (entries_from w from left)
  -- what is kept of those left packs behind what is packed
  pub rest : entries_from w entries_at kept ++ packed_entries (run.to + run.len) (keep (entries_from w from left))
      ≡ packed_entries 0 whole
  pub rest_bytes : packed_bytes (run.to + run.len) (keep (entries_from w from left))
      (moved run.from run.to run.len b) ≡ packed_bytes 0 whole b₀
  pub rest_end : packed_end (run.to + run.len) (keep (entries_from w from left)) ≡ packed_end 0 whole
  pub head : take entries_at w ≡ take entries_at w₀
  pub tail : drop (entries_at + entry_words * entries) w ≡ drop (entries_at + entry_words * entries) w₀

pub none_packed : (keep : List Entry → List Entry) (entries : ℕ) (w b : List ℕ) {left : ℕ} → left ≡ entries →
    HoldsEntries entries w (length b) →
    PackedSoFar keep (keep (entries_from w entries_at entries)) entries w b w b (record { from = 0; to = 0; len = 0 })
    0 left entries_at entries_at
unfolding entries_from
none_packed keep entries w b all holds = rw all record {
  filled = refl;
  reached = refl;
  within = holds.in_words;
  few = omega arith;
  same_words = refl;
  same_bytes = refl;
  down = omega arith;
  source = omega arith;
  placed = places_say 0 (length b) (entries_from w entries_at entries) holds.in_bytes;
  rest = refl;
  rest_bytes = ap (packed_bytes 0 (keep (entries_from w entries_at entries))) (sym (moved_none 0 0 b));
  rest_end = refl;
  head = refl;
  tail = refl;
}

module _ {keep : List Entry → List Entry} {whole : List Entry} {entries : ℕ} {w₀ b₀ w b : List ℕ} {run : Run}
    {kept left from to : ℕ} (inv : PackedSoFar keep whole entries w₀ b₀ w b run kept left from to) where
  pub target_within : run.to + run.len ≤ length b
  target_within = omega (arith, inv.down, inv.source)

  pub all_packed_up : left ≤ 0 → keep [] ≡ [] → (b' : List ℕ) (end : ℕ) → MovesRun run b b' end →
      KeepsPacked whole entries w₀ b₀ w b' kept end
  unfolding packed_entries packed_bytes packed_end
  all_packed_up h none b' end moves =
      let empty : keep (entries_from w from left) ≡ [] = ap keep (entries_none w from left h) ∙ none in
      record {
        few = omega (arith, inv.few);
        entries = sym (append-nil (entries_from w entries_at kept)) ∙ (rw empty at inv.rest);
        bytes = moves.bytes ∙ (rw empty at inv.rest_bytes);
        end = moves.end ∙ (rw empty at inv.rest_end);
        head = inv.head;
        tail = inv.tail;
      }

  -- the next entry
  module _ (e : Entry) (more : 0 < left) (is : e ≡ entry_at w from) where
    abbrev later : List Entry
    later = entries_from w (from + entry_words) (left - 1)

    first : entries_from w from left ≡ e ∷ later
    first = entries_first w from left more e is

    first_placed : Placed (run.from + run.len) (length b) (e ∷ later)
    first_placed = rw first at inv.placed

    pub run_before : run.from + run.len ≤ e.place
    run_before = first_placed.0

    body_within : e.place + e.len ≤ length b
    body_within = first_placed.1

    pub place_within : e.place ≤ length b
    place_within = omega (arith, body_within)

    -- it goes
    pub entry_passed_over : (keep' : List Entry → List Entry) → ((es : List Entry) → keep (e ∷ es) ≡ keep' es) →
        {left' from' : ℕ} → left' ≡ left - 1 → from' ≡ from + entry_words →
        PackedSoFar keep' whole entries w₀ b₀ w b run kept left' from' to
    entry_passed_over keep' goes less next = rw (less, next) record {
      filled = inv.filled;
      reached = omega (arith, inv.reached);
      within = inv.within;
      few = omega (arith, inv.few);
      same_words = inv.same_words;
      same_bytes = inv.same_bytes;
      down = inv.down;
      source = inv.source;
      placed = placed_lower (run.from + run.len) (e.place + e.len) (length b) later (omega (arith, run_before))
          first_placed.2;
      rest = rw (← goes later, ← first) inv.rest;
      rest_bytes = rw (← goes later, ← first) inv.rest_bytes;
      rest_end = rw (← goes later, ← first) inv.rest_end;
      head = inv.head;
      tail = inv.tail;
    }

    module _ (b' : List ℕ) (r : Run) (up : ReachesTo e.place run b b' r) where
      pub new_place_fits : length b₀ < 2 ^ 64 → r.to + r.len < 2 ^ 64
      new_place_fits h = omega (arith, up.behind, target_within, inv.same_bytes)

      pub new_length_fits : length b₀ < 2 ^ 64 → r.len + e.len < 2 ^ 64
      new_length_fits h = omega (arith, up.reaches, body_within, inv.same_bytes)

      -- the entry stays: it is stored at `to` with its new place, and its body is moved with the run
      module _ (keep' : List Entry → List Entry) (stays : (es : List Entry) → keep (e ∷ es) ≡ e ∷ keep' es) where
        kept_first : keep (entries_from w from left) ≡ e ∷ keep' later
        kept_first = ap keep first ∙ stays later

        abbrev at : ℕ
        at = r.to + r.len

        abbrev w' : List ℕ
        w' = put_entry w to (placed_at at e)

        same_later : entries_from w' (from + entry_words) (left - 1) ≡ later
        same_later =
            entries_above w' w (from + entry_words) (left - 1) (from + entry_words) (omega arith)
            (drop_put w to (placed_at at e) (from + entry_words) (omega (arith, inv)))

        kept_more : entries_from w' entries_at (kept + 1) ≡ entries_from w entries_at kept ++ (placed_at at e ∷ [])
        kept_more =
            let here : entries_at + entry_words * kept ≡ to = sym inv.filled in
            let before : entries_from w' entries_at kept ≡ entries_from w entries_at kept =
            entries_below w' w entries_at kept to (omega (arith, inv))
            (take_put w to (placed_at at e) to (omega arith)) in
            let stored : entry_at w' (entries_at + entry_words * kept) ≡ placed_at at e =
            ap (entry_at w') here ∙ entry_put w to (placed_at at e) (omega (arith, inv)) in
            rw (entries_more w' entries_at kept, before, stored)

        packed_rest : entries_from w' entries_at (kept + 1) ++ packed_entries (at + e.len) (keep' later)
            ≡ packed_entries 0 whole
        unfolding packed_entries
        packed_rest = rw (kept_more, append_assoc) (rw (kept_first, sym up.behind) at inv.rest)

        moved_with : packed_bytes (at + e.len) (keep' later) (moved r.from r.to (r.len + e.len) b')
            ≡ packed_bytes 0 whole b₀
        unfolding packed_bytes
        moved_with =
            let s : r.from + (r.len + e.len) ≤ length b' =
            omega (arith, up.reaches, up.length_same, body_within) in
            rw (sym (moved_on r.from r.to r.len e.len b' up.down s), up.reaches, up.bytes, up.behind)
            (rw kept_first at inv.rest_bytes)

        pub entry_packed : {left' from' to' : ℕ} → left' ≡ left - 1 → from' ≡ from + entry_words →
            to' ≡ to + entry_words →
            PackedSoFar keep' whole entries w₀ b₀ (put_entry w to (placed_at (r.to + r.len) e)) b'
            (record { from = r.from; to = r.to; len = r.len + e.len }) (kept + 1) left' from' to'
        unfolding packed_end
        entry_packed less next up_to =
            let to_end : r.to + (r.len + e.len) ≡ at + e.len = omega arith in
            let from_end : r.from + (r.len + e.len) ≡ e.place + e.len = omega (arith, up.reaches) in
            rw (less, next, up_to) record {
              filled = omega (arith, inv.filled);
              reached = omega (arith, inv.reached);
              within = inv.within;
              few = omega (arith, inv.few);
              same_words = length_put w to (placed_at at e) ∙ inv.same_words;
              same_bytes = up.length_same ∙ inv.same_bytes;
              down = up.down;
              source = omega (arith, from_end, up.length_same, body_within);
              placed = rw (from_end, up.length_same, same_later) first_placed.2;
              rest = rw (to_end, same_later) packed_rest;
              rest_bytes = rw (to_end, same_later) moved_with;
              rest_end = rw (to_end, same_later) (rw (kept_first, sym up.behind) at inv.rest_end);
              head = take_put w to (placed_at at e) entries_at (omega (arith, inv.filled)) ∙ inv.head;
              tail = drop_put w to (placed_at at e) (entries_at + entry_words * entries) (omega (arith, inv)) ∙
                  inv.tail;
            }

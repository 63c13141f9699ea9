-- Room behind the bodies: from the code's test and from packing, and a body stored there. Assumes nothing.
use mathlib.Core.Path.{◌≡◌, refl, ap, ◌∙◌}
use mathlib.Core.Bool.{Bool, true, false, cond}
use mathlib.Core.List.{List, [], ◌∷◌}
use Prim.Native.Nat.{ℕ, ◌+◌, ◌*◌, ◌≤◌, ◌<◌}
use native.Mathlib.Omega.{arith}
use lib.ListN.{length, drop}
use borrow.Author.Tests.{leb-true, le-leb, lt-leb}
use Rattle.areas.specs.Overwrite.{put_at}
use Rattle.config.specs.Limits.{entry_words}
use Rattle.table.specs.declared.Entry.{Entry}
use Rattle.table.specs.Layout.{entries_at}
use Rattle.table.specs.Table.{entries_from}
use Rattle.table.specs.Parts.{entries_of}
use Rattle.table.specs.WellFormed.{places_legal}
use Rattle.table.proofs.Facts.{Placed, places_say, places_hold}
use Rattle.table.proofs.Labels.{labels_of}
use Rattle.table_entries.specs.Sums.{lens_sum}
use Rattle.table_entries.specs.Pack.{HoldsEntries, last_end, packed_entries, packed_end, packed_bytes, Packs}
use Rattle.table_entries.specs.Sweep.{put_entry}
use Rattle.table_entries.proofs.Lengths.{placed_wider, first_end_within}
use Rattle.table_entries.proofs.Frames.{entries_below, entries_more, take_put, drop_put, entry_put}
use Rattle.table_entries.proofs.Packed.{packed_placed, lens_packed}
use Rattle.pending_flows.specs.View.{bodies_at}
use Rattle.table_view.proofs.Packed.{packed_long, packed_bodies, packed_drop}
use Rattle.offer_steps.specs.Room.{fits_behind, room_entries, room_bytes, room_place, MakesRoom, StoresBody}

pub parts_legal : (most : ℕ) (es : List Entry) (parts : List (List ℕ)) → places_legal 0 most es ≡ true →
    entries_of parts ≡ es → places_legal 0 most (entries_of parts) ≡ true
parts_legal most es parts legal are = rw are legal

pub holds_wider : (m : ℕ) (w : List ℕ) (most : ℕ) → HoldsEntries m w most → (n : ℕ) → most ≤ n → HoldsEntries m w n
holds_wider m w most holds n room =
    let es = entries_from w entries_at m in
    record {
      in_words = holds.in_words;
      in_bytes = places_hold 0 n es (placed_wider 0 most n es room (places_say 0 most es holds.in_bytes));
    }

module _ (m len most : ℕ) (w b : List ℕ) where
  pub room_behind : (end : ℕ) (parts : List (List ℕ)) → entries_of parts ≡ entries_from w entries_at m →
      end ≡ last_end (entries_of parts) → end + len ≤ most → MakesRoom m len most w b w b end
  room_behind end parts are read h =
      let es = entries_from w entries_at m in
      let is : end ≡ last_end es = rw are at read in
      let t = le-leb (last_end es + len) most (omega (arith, is)) in
      record { entries = rw t; bytes = rw t; place = rw t is; head = refl; tail = refl }

  pub room_packed : (end r : ℕ) (w' b' : List ℕ) (parts : List (List ℕ)) →
      entries_of parts ≡ entries_from w entries_at m → end ≡ last_end (entries_of parts) → most < end + len →
      Packs m w b w' b' r → MakesRoom m len most w b w' b' r
  room_packed end r w' b' parts are read h p =
      let es = entries_from w entries_at m in
      let is : end ≡ last_end es = rw are at read in
      let t = lt-leb (last_end es + len) most (omega (arith, is)) in
      record {
        entries = rw t p.entries;
        bytes = rw t p.bytes;
        place = rw t p.end;
        head = p.head;
        tail = p.tail;
      }

-- an entry stored behind m others
module _ (m : ℕ) (e : Entry) (body w b : List ℕ) (room : entries_at + entry_words * (m + 1) ≤ length w) where
  pub body_stored : (w' b' : List ℕ) → w' ≡ put_entry w (entries_at + entry_words * m) e → b' ≡ put_at e.place body b →
      StoresBody m e body w b w' b'
  body_stored w' b' x y =
      let p = entries_at + entry_words * m in
      let head = take_put w p e in
      let old : entries_from (put_entry w p e) entries_at m ≡ entries_from w entries_at m =
      entries_below (put_entry w p e) w entries_at m p (omega arith) (head p (omega arith)) in
      rw x
      (record {
        entries = entries_more (put_entry w p e) entries_at m ∙ rw (old, entry_put w p e (omega arith));
        bytes = y;
        head = head entries_at (omega arith);
        tail = drop_put w p e (entries_at + entry_words * (m + 1)) (omega arith);
      })

-- up to the end of the last body
placed_last : (from most : ℕ) (es : List Entry) → Placed from most es → Placed from (last_end es) es
unfolding last_end
placed_last from most [] p = tt
placed_last from most (e ∷ []) p = (p.0, omega arith, tt)
placed_last from most (e ∷ x ∷ es) p =
    (p.0, first_end_within from most e (x ∷ es) p, placed_last (e.place + e.len) most (x ∷ es) p.2)

packed_labels : (at : ℕ) (es : List Entry) → labels_of (packed_entries at es) ≡ labels_of es
unfolding packed_entries
packed_labels at [] = refl
packed_labels at (e ∷ es) = ap (λ (ks : List ℕ). e.label ∷ ks) (packed_labels (at + e.len) es)

-- What making room leaves: the same labels, lengths and bodies, and a place for a body of this length.
pub record Room (len most : ℕ) (es : List Entry) (b : List ℕ) (es' : List Entry) (b' : List ℕ) (place : ℕ)
    : Type 0 where
  pub same_labels : labels_of es' ≡ labels_of es
  pub same_lens : lens_sum es' ≡ lens_sum es
  pub same_bodies : (k : ℕ) → bodies_at b' k es' ≡ bodies_at b k es
  pub placed : Placed 0 place es'
  pub fits : place + len ≤ most
  pub long : length b' ≡ length b
  pub behind : drop most b' ≡ drop most b

pub room_made : (len most : ℕ) (es : List Entry) (b : List ℕ) → Placed 0 most es → most ≤ length b →
    packed_end 0 es + len ≤ most →
    Room len most es b (room_entries len most es) (room_bytes len most es b) (room_place len most es)
room_made len most es b p lent room = by_test (fits_behind len most es) refl
  where
    wide : Placed 0 (length b) es
    wide = placed_wider 0 most (length b) es lent p

    by_test : (t : Bool) → fits_behind len most es ≡ t →
        Room len most es b (cond t es (packed_entries 0 es)) (cond t b (packed_bytes 0 es b))
        (cond t (last_end es) (packed_end 0 es))
    by_test true e = record {
      same_labels = refl;
      same_lens = refl;
      same_bodies = λ k. refl;
      placed = placed_last 0 most es p;
      fits = leb-true (last_end es + len) most e;
      long = refl;
      behind = refl;
    }
    by_test false e = record {
      same_labels = packed_labels 0 es;
      same_lens = lens_packed 0 es;
      same_bodies = λ k. packed_bodies k 0 0 es b (omega arith) wide;
      placed = packed_placed 0 (packed_end 0 es) es (omega arith);
      fits = room;
      long = packed_long 0 0 es b (omega arith) wide;
      behind = packed_drop 0 0 most es b (omega arith) p;
    }

-- All bodies moved down, in their order, so that each begins where the one before it ends. Assumes nothing.
use mathlib.Core.Path.{◌≡◌, refl, sym, ◌∙◌}
use mathlib.Core.Bool.{Bool, true, false}
use mathlib.Core.List.{List, [], ◌∷◌, ◌++◌}
use Prim.Native.Nat.{ℕ, ◌+◌, ◌≤◌}
use native.Mathlib.Omega.{arith}
use lib.Dec.{leb}
use lib.ListN.{length, take, drop, length-append, length-take, length-drop, drop_of_length-le}
use borrow.Author.Tests.{leb-true, leb-false}
use Rattle.areas.specs.Overwrite.{moved}
use Rattle.areas.proofs.Puts.{take_less, part_same}
use Rattle.areas.proofs.Moves.{length_moved, moved_there, take_moved, drop_moved, drop_moved_from}
use Rattle.table.specs.declared.Entry.{Entry}
use Rattle.table_entries.specs.Pack.{packed_entries, packed_bytes}
use Rattle.table.proofs.Facts.{Placed}
use Rattle.pending_flows.specs.View.{bodies_at}
use Rattle.table_view.proofs.Frames.{bodies_above}

-- the bytes after the move of one body: what is there for the bodies behind it
module _ (at from : ℕ) (e : Entry) (es : List Entry) (b : List ℕ) (low : at ≤ from)
    (p : Placed from (length b) (e ∷ es)) where
  abbrev one_moved : List ℕ
  one_moved = moved e.place at e.len b

  target : at + e.len ≤ length b
  target = omega (arith, p.0, p.1)

  moved_long : length one_moved ≡ length b
  moved_long = length_moved e.place at e.len b p.1 target

  rest_placed : Placed (e.place + e.len) (length one_moved) es
  rest_placed = rw moved_long p.2

pub packed_long : (at from : ℕ) (es : List Entry) (b : List ℕ) → at ≤ from → Placed from (length b) es →
    length (packed_bytes at es b) ≡ length b
unfolding packed_bytes
packed_long at from [] b low p = refl
packed_long at from (e ∷ es) b low p =
    packed_long (at + e.len) (e.place + e.len) es (one_moved at from e es b low p) (omega (arith, p.0))
    (rest_placed at from e es b low p)
    ∙ moved_long at from e es b low p

packed_below : (at from : ℕ) (es : List Entry) (b : List ℕ) → at ≤ from → Placed from (length b) es →
    take at (packed_bytes at es b) ≡ take at b
unfolding packed_bytes
packed_below at from [] b low p = refl
packed_below at from (e ∷ es) b low p =
    let b₁ = one_moved at from e es b low p in
    take_less at (at + e.len) (packed_bytes (at + e.len) es b₁) b₁ (omega arith)
    (packed_below (at + e.len) (e.place + e.len) es b₁ (omega (arith, p.0)) (rest_placed at from e es b low p))
    ∙ take_moved e.place at e.len b p.1 (target at from e es b low p)

pub packed_bodies : (k at from : ℕ) (es : List Entry) (b : List ℕ) → at ≤ from → Placed from (length b) es →
    bodies_at (packed_bytes at es b) k (packed_entries at es) ≡ bodies_at b k es
unfolding packed_bytes packed_entries
packed_bodies k at from [] b low p = refl
packed_bodies k at from (e ∷ es) b low p =
    let b₁ = one_moved at from e es b low p in
    let b₂ = packed_bytes (at + e.len) es b₁ in
    let room = target at from e es b low p in
    let rest = rest_placed at from e es b low p in
    let below : take (at + e.len) b₂ ≡ take (at + e.len) b₁ =
    packed_below (at + e.len) (e.place + e.len) es b₁ (omega (arith, p.0)) rest in
    let here : take e.len (drop at b₂) ≡ take e.len (drop e.place b) =
    part_same (at + e.len) at e.len b₂ b₁ below (omega arith) ∙ moved_there e.place at e.len b p.1 room in
    let behind : bodies_at b₂ k (packed_entries (at + e.len) es) ≡ bodies_at b k es =
    packed_bodies k (at + e.len) (e.place + e.len) es b₁ (omega (arith, p.0)) rest
    ∙ bodies_above (at + e.len) b₁ b k (e.place + e.len) (length b) es (omega (arith, p.0)) p.2
    (drop_moved e.place at e.len b p.1 room) in
    rw (here, behind)

-- no byte changes from where the bodies ended before
moved_short : (from to n : ℕ) (xs : List ℕ) → to ≤ from → length (moved from to n xs) ≤ length xs
unfolding moved
moved_short from to n xs down =
    omega (
      arith,
      length-append (take to xs) (take n (drop from xs) ++ drop (to + n) xs),
      length-append (take n (drop from xs)) (drop (to + n) xs),
      length-take to xs,
      length-take n (drop from xs),
      length-drop from xs,
      length-drop (to + n) xs,
    )

packed_short : (at from most : ℕ) (es : List Entry) (b : List ℕ) → at ≤ from → Placed from most es →
    length (packed_bytes at es b) ≤ length b
unfolding packed_bytes
packed_short at from most [] b low p = omega arith
packed_short at from most (e ∷ es) b low p =
    let down : at ≤ e.place = omega (arith, p.0) in
    omega (
      arith,
      packed_short (at + e.len) (e.place + e.len) most es (moved e.place at e.len b) (omega arith) p.2,
      moved_short e.place at e.len b down,
    )

drop_within : (at from most : ℕ) (es : List Entry) (b : List ℕ) → at ≤ from → most ≤ length b → Placed from most es →
    drop most (packed_bytes at es b) ≡ drop most b
unfolding packed_bytes
drop_within at from most [] b low room p = refl
drop_within at from most (e ∷ es) b low room p =
    let b₁ = moved e.place at e.len b in
    let down : at ≤ e.place = omega (arith, p.0) in
    let ends : e.place + e.len ≤ length b = omega (arith, p.1) in
    drop_within (at + e.len) (e.place + e.len) most es b₁ (omega arith)
    (omega (arith, length_moved e.place at e.len b ends (omega arith))) p.2
    ∙ drop_moved_from e.place at e.len b ends (omega arith) most (omega (arith, p.1))

pub packed_drop : (at from most : ℕ) (es : List Entry) (b : List ℕ) → at ≤ from → Placed from most es →
    drop most (packed_bytes at es b) ≡ drop most b
packed_drop at from most es b low p = by_room (leb most (length b)) refl
  where
    by_room : (x : Bool) → leb most (length b) ≡ x → drop most (packed_bytes at es b) ≡ drop most b
    by_room true t = drop_within at from most es b low (leb-true most (length b) t) p
    by_room false t =
        let short = leb-false most (length b) t in
        drop_of_length-le (packed_bytes at es b) {i = most} (omega (arith, packed_short at from most es b low p))
        ∙ sym (drop_of_length-le b {i = most} (omega arith))

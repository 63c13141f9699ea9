-- The bodies of entries, where the bytes below a place, or from it on, are the same. Assumes nothing.
use mathlib.Core.Path.{◌≡◌, refl}
use mathlib.Core.List.{List, [], ◌∷◌}
use Prim.Native.Nat.{ℕ, ◌+◌, ◌≤◌}
use native.Mathlib.Omega.{arith}
use lib.ListN.{take, drop}
use Rattle.areas.proofs.Puts.{drop_more, part_same}
use Rattle.table.specs.declared.Entry.{Entry}
use Rattle.table.proofs.Facts.{Placed}
use Rattle.pending_flows.specs.View.{bodies_at}
use Rattle.table_view.proofs.Swept.{Within}

module _ (m : ℕ) (b b' : List ℕ) where
  pub bodies_below : (k : ℕ) (es : List Entry) → Within m es → take m b ≡ take m b' →
      bodies_at b k es ≡ bodies_at b' k es
  bodies_below k [] h e = refl
  bodies_below k (x ∷ es) h e = rw (part_same m x.place x.len b b' e h.0, bodies_below k es h.1 e)

  pub bodies_above : (k from most : ℕ) (es : List Entry) → m ≤ from → Placed from most es → drop m b ≡ drop m b' →
      bodies_at b k es ≡ bodies_at b' k es
  bodies_above k from most [] l p e = refl
  bodies_above k from most (x ∷ es) l p e =
      let low : m ≤ x.place = omega (arith, p.0) in
      rw (
        drop_more x.place m b b' low e,
        bodies_above k (x.place + x.len) most es (omega arith) p.2 e,
      )

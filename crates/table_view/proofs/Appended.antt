-- One entry more behind the others, and its body's bytes behind theirs. Assumes nothing.
use mathlib.Core.Path.{◌≡◌, refl, ap, ◌∙◌}
use mathlib.Core.Bool.{Bool, true, false, cond}
use mathlib.Core.List.{List, [], ◌∷◌, ◌++◌}
use Prim.Native.Nat.{ℕ, ◌+◌, ◌≤◌}
use native.Mathlib.Omega.{arith}
use lib.Dec.{eqb}
use lib.ListN.{length, take, drop}
use Rattle.areas.specs.Overwrite.{put_at}
use Rattle.areas.proofs.Puts.{take_put, put_there}
use Rattle.table.specs.declared.Entry.{Entry}
use Rattle.table.proofs.Facts.{Placed}
use Rattle.cache_model.specs.Bodies.{Body}
use Rattle.pending_flows.specs.View.{body_at, bodies_at}
use Rattle.table_view.proofs.Swept.{placed_within}
use Rattle.table_view.proofs.Frames.{bodies_below}

pub bodies_append : (b : List ℕ) (k : ℕ) (es fs : List Entry) →
    bodies_at b k (es ++ fs) ≡ bodies_at b k es ++ bodies_at b k fs
bodies_append b k [] fs = refl
bodies_append b k (x ∷ es) fs = by_label (eqb k x.label) (bodies_append b k es fs)
  where
    by_label : (y : Bool) → bodies_at b k (es ++ fs) ≡ bodies_at b k es ++ bodies_at b k fs →
        cond y (body_at b x ∷ bodies_at b k (es ++ fs)) (bodies_at b k (es ++ fs))
        ≡ cond y (body_at b x ∷ bodies_at b k es) (bodies_at b k es) ++ bodies_at b k fs
    by_label true ih = ap (λ (l : List Body). body_at b x ∷ l) ih
    by_label false ih = ih

pub appended_placed : (from most : ℕ) (es : List Entry) (e : Entry) → Placed from e.place es → from ≤ e.place →
    e.place + e.len ≤ most → Placed from most (es ++ (e ∷ []))
appended_placed from most [] e p low high = (low, high, tt)
appended_placed from most (x ∷ es) e p low high =
    (p.0, omega (arith, p.1), appended_placed (x.place + x.len) most es e p.2 p.1 high)

pub appended_bodies : (b body : List ℕ) (k : ℕ) (es : List Entry) (e : Entry) → e.len ≡ length body →
    e.place + length body ≤ length b → Placed 0 e.place es →
    bodies_at (put_at e.place body b) k (es ++ (e ∷ []))
    ≡ bodies_at b k es ++ cond (eqb k e.label) (record { number = 0; bytes = body; clock = e.clock } ∷ []) []
appended_bodies b body k es e long room p =
    let b' = put_at e.place body b in
    let there : take e.len (drop e.place b') ≡ body = rw long (put_there e.place body b room) in
    let old : bodies_at b' k es ≡ bodies_at b k es =
    bodies_below e.place b' b k es (placed_within 0 e.place es p) (take_put e.place body b room) in
    bodies_append b' k es (e ∷ []) ∙ rw (there, old)

-- The watch for a label's live entries counts them, where no entry has what is no label. Assumes nothing.
use Rattle.std.proofs.Common.{Option, Some, None}
use mathlib.Core.Path.{◌≡◌, refl, ◌∙◌}
use mathlib.Core.Bool.{Bool, true, false, not, ◌&&◌, cond}
use mathlib.Core.List.{List, [], ◌∷◌}
use Prim.Native.Nat.{ℕ, suc, ◌+◌, ◌-◌, ◌≤◌}
use native.Mathlib.Omega.{arith}
use native.Mathlib.Decide.{ℕ_discrete, dec_le}
use lib.Dec.{eqb, leb}
use borrow.Author.Tests.{ne_eqb, le-leb, lt-leb}
use Rattle.table.specs.declared.Entry.{Entry}
use Rattle.table_watch.specs.declared.Watch.{Watch}
use Rattle.table.specs.Table.{tally}
use Rattle.table.specs.Reads.{is_live, live_count}
use Rattle.table_watch.specs.Watch.{is_watched, count_watched, watch_of, live_watch}

-- no clock reading is before 0
pub any_clock : (k nth : ℕ) (e : Entry) → is_watched (watch_of k 0 nth) e ≡ (eqb k e.label && true)
any_clock k nth e = rw (le-leb 0 e.clock (omega arith))

-- two tests that agree count alike
same_count : (v : Watch) (ttl : Option ℕ) (clock label : ℕ) (es : List Entry) →
    ((e : Entry) → is_watched v e ≡ is_live ttl clock label e) → count_watched v es ≡ live_count ttl clock label es
unfolding count_watched live_count
same_count v ttl clock label [] h = refl
same_count v ttl clock label (e ∷ es) h = rw (h e, same_count v ttl clock label es h)

-- with a TTL of 0 none is live, and none of no label is watched
none_live : (clock label : ℕ) (es : List Entry) → live_count (Some 0) clock label es ≡ 0
unfolding live_count
none_live clock label [] = refl
none_live clock label (e ∷ es) =
    rw (le-leb 0 (clock - e.clock) (omega arith), none_live clock label es) (by_label (eqb label e.label))
  where
    by_label : (b : Bool) → cond (b && false) 1 0 + 0 ≡ 0
    by_label true = refl
    by_label false = refl

watched_tally : (k nth : ℕ) (es : List Entry) → count_watched (watch_of k 0 nth) es ≡ tally k es
unfolding count_watched
watched_tally k nth [] = refl
watched_tally k nth (e ∷ es) =
    rw (any_clock k nth e, watched_tally k nth es) (by_label (eqb k e.label))
  where
    by_label : (b : Bool) → cond (b && true) 1 0 + tally k es ≡ cond b (suc (tally k es)) (tally k es)
    by_label true = omega arith
    by_label false = omega arith

-- an age below the TTL is a clock reading that is not before the oldest
oldest_live : (ttl clock c : ℕ) → (ttl ≡ 0 → ⊥) → Dec (ttl ≤ clock - c) →
    leb (clock + 1 - ttl) c ≡ not (leb ttl (clock - c))
oldest_live ttl clock c some (yes h) =
    rw (le-leb ttl (clock - c) h, lt-leb (clock + 1 - ttl) c (omega arith))
oldest_live ttl clock c some (no h) =
    rw (lt-leb ttl (clock - c) (omega arith), le-leb (clock + 1 - ttl) c (omega arith))

pub watched_live : (label : ℕ) (ttl : Option ℕ) (clock : ℕ) (es : List Entry) → tally 1024 es ≡ 0 →
    count_watched (live_watch label ttl clock) es ≡ live_count ttl clock label es
unfolding live_watch
watched_live label None clock es unused =
    same_count (watch_of label 0 0) None clock label es (λ e. any_clock label 0 e)
watched_live label (Some ttl) clock es unused = by_ttl (ℕ_discrete ttl 0)
  where
    by_ttl : Dec (ttl ≡ 0) →
        count_watched (cond (eqb ttl 0) (watch_of 1024 0 0) (watch_of label (clock + 1 - ttl) 0)) es
        ≡ live_count (Some ttl) clock label es
    by_ttl (yes z) = rw (z, none_live clock label es) (watched_tally 1024 0 es ∙ unused)
    by_ttl (no z) =
        rw (ne_eqb ttl 0 z)
        (same_count (watch_of label (clock + 1 - ttl) 0) (Some ttl) clock label es
        (λ e. rw (oldest_live ttl clock e.clock z (dec_le ttl (clock - e.clock)))))

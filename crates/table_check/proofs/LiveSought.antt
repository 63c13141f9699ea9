-- What the test shows where the live bodies of an id are sought. Assumes nothing.
use Rattle.std.proofs.Common.{Result, Ok}
use Rattle.table.specs.declared.Damaged.{Damaged}
use mathlib.Core.Path.{◌≡◌, ap, ◌∙◌}
use mathlib.Core.List.{List}
use Prim.Native.Nat.{ℕ}
use Rattle.table.specs.Layout.{limits_of}
use Rattle.table.specs.Table.{table_of, tally}
use Rattle.table.specs.WellFormed.{well_formed}
use Rattle.table.specs.Reads.{label_of, label_or_none, live_count}
use Rattle.table_watch.specs.declared.Sought.TheVariants as Sought
use Rattle.table_watch.specs.declared.LabelSeen.{LabelSeen}
use Rattle.table_watch.specs.Watch.{watch_for, seen_by}
use Rattle.table_watch.proofs.Verdicts.{is_seen}
use Rattle.table_watch.proofs.LiveWatch.{watched_live}
use Rattle.table_check.specs.Examined.{examined}

-- how many there are, where no entry has the label that is none
pub live_counted : (w : List ℕ) (n id clock : ℕ) {x : Result LabelSeen Damaged} {s : LabelSeen} →
    x ≡ examined w n (Sought.Live id clock) → x ≡ Ok s → tally 1024 (table_of w).entries ≡ 0 →
    s.live ≡ live_count (limits_of w).ttl clock (label_or_none (label_of id (table_of w).held)) (table_of w).entries
unfolding seen_by watch_for
live_counted w n id clock tested seen unused =
    ap (λ (y : LabelSeen). y.live) (is_seen (well_formed w n) _ tested seen)
    ∙ watched_live (label_or_none (label_of id (table_of w).held)) (limits_of w).ttl clock (table_of w).entries unused

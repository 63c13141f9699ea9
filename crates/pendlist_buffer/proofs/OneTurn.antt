-- A turn, from what its functions promise. Assumes nothing.
use mathlib.Core.Path.{◌≡◌, ◌∙◌}
use mathlib.Core.Bool.{Bool}
use mathlib.Core.List.{List}
use Prim.Native.Nat.{ℕ, ◌-◌, ◌≤◌}
use native.Mathlib.Omega.{arith}
use lib.ListN.{length, take, drop, length-drop}
use lib.Seq.{length-take-le, take_all, take_at}
use Rattle.std.specs.List.{copy_within}
use Rattle.pending_flows.specs.View.{Areas}
use Rattle.pendlist_texts.specs.declared.TextDone.{TextDone}
use Rattle.pendlist_texts.specs.Lists.{RunsText}
use Rattle.pendlist_turns.specs.Turns.{turn_of, Ready}
use Rattle.pendlist_buffer.specs.Buffer.{TakesTurn}

-- what is left of the bytes, brought to the front
left_moved : (there : List ℕ) (ready : ℕ) → ready ≤ length there →
    take (length there - ready) (copy_within there ready (length there) 0) ≡ drop ready there
left_moved there ready among =
    let left : length (drop ready there) ≡ length there - ready = length-drop ready there in
    let all : take (length there - ready) (drop ready there) ≡ drop ready there =
    take_all (length there - ready) (drop ready there) (omega arith) in
    take_at (take (length there - ready) (drop ready there)) _ (length there - ready)
    (length-take-le (length there - ready) (drop ready there) (omega arith)) ∙ all

pub turn_taken : (there : List ℕ) (kept : ℕ) (opened : Bool) {ready : ℕ} {done : TextDone} {a a' : Areas}
    {there' out' : List ℕ} → length there ≤ 4096 → Ready there kept ready →
    RunsText opened (take ready there) a done a' out' → there' ≡ copy_within there ready (length there) 0 →
    TakesTurn there kept opened a
    (record { kept = length there - ready; done = done }) a' there' out'
unfolding turn_of
turn_taken there kept opened {ready} {done} long right runs is = record {
  left = rw (is, ← right.count) (left_moved there ready right.among);
  among = omega arith;
  open_after = runs.open_after ∙ rw (← right.count);
  bad_after = runs.bad_after ∙ rw (← right.count);
  holds = runs.holds ∙ rw (← right.count);
  rows = runs.rows ∙ rw (← right.count);
  few_left = right.few_left;
  short = omega (arith, runs.short, length-take-le ready there right.among, right.among);
}

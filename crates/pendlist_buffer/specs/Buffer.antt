-- A turn on lent memory.
use Rattle.std.specs.Prelude.{◌≡◌, Bool, List, ℕ, ◌≤◌, eqb, length, take}
use Rattle.pendlist_lines.specs.Grammar.{longest}
use Rattle.pending_flows.specs.View.{Areas, view}
use Rattle.pendlist_turns.specs.Turns.{Standing, turn_of}
use Rattle.pendlist_buffer.specs.declared.Turn.{Turn}

-- the turn of the bytes that are there, in these areas
abbrev pub turn_in : List ℕ → (kept : ℕ) → Bool → Areas → Standing
turn_in there kept opened a =
    turn_of (length a.bytes) (length a.words) (eqb (length there) kept) there opened (view a)

-- A turn on lent memory: what is left of the bytes stands at their front, and the rows at the front of the room for
-- them, which has 107 bytes for each of 4,096 bytes.
pub record TakesTurn (there : List ℕ) (kept : ℕ) (opened : Bool) (a : Areas) (r : Turn) (a' : Areas)
    (there' out' : List ℕ) : Type 0 where
  pub left : take r.kept there' ≡ (turn_in there kept opened a).kept
  pub among : r.kept ≤ length there
  pub open_after : r.done.opened ≡ (turn_in there kept opened a).after.opened
  pub bad_after : r.done.bad ≡ (turn_in there kept opened a).after.bad
  pub holds : view a' ≡ (turn_in there kept opened a).after.holds
  pub rows : take r.done.filled out' ≡ (turn_in there kept opened a).rows
  pub few_left : r.kept ≤ longest
  pub short : r.done.filled ≤ 438272

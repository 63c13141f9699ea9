-- A list: its lines one after the other, up to the first `bad` (document 01, "Cases").
use Rattle.std.specs.Prelude.{◌≡◌, Bool, true, false, cond, List, [], ◌∷◌, ◌++◌, ℕ, ◌*◌, ◌≤◌, length, take}
use Rattle.std.proofs.Math.Option.{Option}
use Rattle.pendlist_lines.specs.Grammar.{line_of, in_order}
use Rattle.pendlist_input.specs.Input.{lines_of}
use Rattle.cache_model.specs.Cache.{Cache}
use Rattle.pending_flows.specs.View.{Areas, view}
use Rattle.pendlist_rows.specs.declared.Outcome.{Outcome}
use Rattle.pendlist_rows.specs.declared.Outcome.TheVariants.{Opened, Told, Bad}
use Rattle.pendlist_rows.specs.Text.{outcome_text}
use Rattle.pendlist_calls.specs.Steps.{Step, step_of}
use Rattle.pendlist_texts.specs.declared.TextDone.{TextDone}

abbrev pub is_bad : Outcome → Bool
is_bad Opened = false
is_bad (Told r) = false
is_bad Bad = true

-- whether a cache is open after some lines, whether they ended with `bad`, and what the areas then hold
pub record ListState : Type 0 where
  pub opened : Bool
  pub bad : Bool
  pub holds : Option Cache

-- areas of so many bytes and words
module _ (bytes words : ℕ) where
  abbrev pub line_step : List ℕ → Bool → Option Cache → Step
  line_step line opened v = step_of (in_order opened (line_of line)) bytes words v

  -- a line that is not `bad` leaves an open cache
  unfoldable pub after_lines : List (List ℕ) → Bool → Option Cache → ListState
  after_lines [] opened v = record { opened = opened; bad = false; holds = v }
  after_lines (line ∷ lines) opened v =
      let s = line_step line opened v in
      cond (is_bad s.outcome) (record { opened = opened; bad = true; holds = s.holds })
      (after_lines lines true s.holds)

  -- what is written of the lines; nothing follows `bad`
  unfoldable pub rows_of : List (List ℕ) → Bool → Option Cache → List ℕ
  rows_of [] opened v = []
  rows_of (line ∷ lines) opened v =
      let s = line_step line opened v in
      outcome_text s.outcome ++ cond (is_bad s.outcome) [] (rows_of lines true s.holds)

-- the same of the lines of a text, in these areas
abbrev pub after_text : Bool → List ℕ → Areas → ListState
after_text opened text a = after_lines (length a.bytes) (length a.words) (lines_of text) opened (view a)

abbrev pub rows_of_text : Bool → List ℕ → Areas → List ℕ
rows_of_text opened text a = rows_of (length a.bytes) (length a.words) (lines_of text) opened (view a)

-- Carrying out the lines of a text: their rows stand at the front of the room for them.
pub record RunsText (opened : Bool) (text : List ℕ) (a : Areas) (r : TextDone) (a' : Areas) (out' : List ℕ)
    : Type 0 where
  pub open_after : r.opened ≡ (after_text opened text a).opened
  pub bad_after : r.bad ≡ (after_text opened text a).bad
  pub holds : view a' ≡ (after_text opened text a).holds
  pub rows : take r.filled out' ≡ rows_of_text opened text a
  pub short : r.filled ≤ 107 * length text

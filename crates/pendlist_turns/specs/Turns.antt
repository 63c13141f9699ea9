-- The turns of an input: each carries out what is ready of the bytes that the turn before kept and of those that a
-- read brought.
use Rattle.std.specs.Prelude.{◌≡◌, Bool, true, false, cond, List, [], ◌∷◌, ◌++◌, ℕ, ◌-◌, ◌≤◌, eqb, leb, length, take, drop}
use Rattle.std.proofs.Math.Option.{Option}
use Rattle.pendlist_lines.specs.Grammar.{longest}
use Rattle.pendlist_input.specs.Input.{lines_of, whole_lines}
use Rattle.cache_model.specs.Cache.{Cache}
use Rattle.pendlist_texts.specs.Lists.{ListState, after_lines, rows_of}

-- How many of the bytes that are there are carried out: the whole lines. All of them at the end of the input, since a
-- last line needs no newline; all of them too where what follows the whole lines is too long for a line, since it is
-- malformed however it goes on.
unfoldable pub ready_of : (last : Bool) → List ℕ → ℕ
ready_of last there =
    cond last (length there)
    (cond (leb (length there - whole_lines there) longest) (whole_lines there) (length there))

-- How far a list has come: the bytes of a line that may go on, what its lines came to, and what is to be written of
-- them.
pub record Standing : Type 0 where
  pub kept : List ℕ
  pub after : ListState
  pub rows : List ℕ

-- a list of which nothing is read, in areas that hold this
abbrev pub begun : Option Cache → Standing
begun v = record { kept = []; after = record { opened = false; bad = false; holds = v }; rows = [] }

-- how far it has come with one turn more
abbrev pub with_turn : Standing → Standing → Standing
with_turn s t = record { kept = t.kept; after = t.after; rows = s.rows ++ t.rows }

-- areas of so many bytes and words
module _ (bytes words : ℕ) where
  -- a turn alone, with the bytes that are there
  unfoldable pub turn_of : (last : Bool) → List ℕ → Bool → Option Cache → Standing
  turn_of last there opened v = record {
    kept = drop (ready_of last there) there;
    after = after_lines bytes words (lines_of (take (ready_of last there) there)) opened v;
    rows = rows_of bytes words (lines_of (take (ready_of last there) there)) opened v;
  }

  -- a turn after others, with the bytes of a read; none follows `bad`
  unfoldable pub next_turn : (last : Bool) → List ℕ → Standing → Standing
  next_turn last read s =
      cond s.after.bad s
      (with_turn s (turn_of last (s.kept ++ read) s.after.opened s.after.holds))

  -- the turns of reads that brought these bytes
  unfoldable pub turns_of : List (List ℕ) → Standing → Standing
  turns_of [] s = s
  turns_of (read ∷ reads) s = turns_of reads (next_turn false read s)

  -- the turns of an input from its beginning; where its end was read, also that of the read that brought nothing
  unfoldable pub input_turns : (last : Bool) → List (List ℕ) → Option Cache → Standing
  input_turns last reads v =
      cond last (next_turn true [] (turns_of reads (begun v))) (turns_of reads (begun v))

-- what reads brought in all
unfoldable pub joined : List (List ℕ) → List ℕ
joined [] = []
joined (read ∷ reads) = read ++ joined reads

-- How many of the bytes that are there are carried out: the input has ended where no more are there than were kept.
pub record Ready (there : List ℕ) (kept r : ℕ) : Type 0 where
  pub count : r ≡ ready_of (eqb (length there) kept) there
  pub among : r ≤ length there
  pub few_left : length there - r ≤ longest

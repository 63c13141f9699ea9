-- However an input is cut into reads, its turns write the rows of its lines. Assumes nothing.
use mathlib.Core.Path.{◌≡◌, refl, sym, ap, ◌∙◌}
use mathlib.Core.Bool.{Bool, true, false, cond}
use mathlib.Core.List.{List, [], ◌∷◌, ◌++◌, append_assoc, append-nil}
use mathlib.Core.Option.{Option}
use Prim.Native.Nat.{ℕ, ◌+◌, ◌-◌, ◌<◌}
use native.Mathlib.Omega.{arith}
use lib.ListN.{length, take, drop, length-append, length-drop}
use lib.Seq.{take-length}
use lib.Dec.{leb}
use borrow.Author.Tests.{leb-false, lt-leb}
use Rattle.pendlist_input.specs.Input.{lines_of, first_line, whole_lines}
use Rattle.pendlist_input.proofs.Ends.{first_of_lines}
use Rattle.pendlist_input.proofs.Cuts.{lines_parted, rest_in_first}
use Rattle.std.specs.Prelude.{None}
use Rattle.pendlist_lines.specs.Grammar.{line_of}
use Rattle.cache_model.specs.Cache.{Cache}
use Rattle.pendlist_rows.specs.Text.{outcome_text}
use Rattle.pendlist_calls.specs.Steps.{Step, step_of}
use Rattle.pendlist_texts.specs.Lists.{is_bad, ListState, line_step, after_lines, rows_of}
use Rattle.pendlist_turns.specs.Turns.{ready_of, Standing, begun, with_turn, turn_of, next_turn, turns_of}
use Rattle.pendlist_turns.specs.Turns.{input_turns, joined}

-- a line that is too long is malformed
too_long : (line : List ℕ) → 255 < length line → line_of line ≡ None
unfolding line_of
too_long line h = rw (lt-leb (length line) 255 h)

-- What lines come to, and what is written of them.
record Carried : Type 0 where
  after : ListState
  rows : List ℕ

-- with rows before these
behind : List ℕ → Carried → Carried
behind rows c = record { after = c.after; rows = rows ++ c.rows }

so_far : Standing → Carried
so_far s = record { after = s.after; rows = s.rows }

-- areas of so many bytes and words
module _ (bytes words : ℕ) where
  carried : List (List ℕ) → Bool → Option Cache → Carried
  carried lines opened v = record {
    after = after_lines bytes words lines opened v;
    rows = rows_of bytes words lines opened v;
  }

  -- Lines behind others; none follows `bad`.
  more : Carried → List (List ℕ) → Carried
  more c lines =
      cond c.after.bad c (behind c.rows (carried lines c.after.opened c.after.holds))

  no_more : (c : Carried) (lines : List (List ℕ)) → c.after.bad ≡ true → more c lines ≡ c
  unfolding more
  no_more c lines ended = rw ended

  more_behind : (rows : List ℕ) (c : Carried) (lines : List (List ℕ)) →
      behind rows (more c lines) ≡ more (behind rows c) lines
  unfolding more behind
  more_behind rows c lines = by_end c.after.bad
    where
      next : Carried
      next = carried lines c.after.opened c.after.holds

      by_end : (q : Bool) →
          behind rows (cond q c (behind c.rows next)) ≡ cond q (behind rows c) (behind (rows ++ c.rows) next)
      by_end true = refl
      by_end false = rw append_assoc

  lines_join : (xs ys : List (List ℕ)) (opened : Bool) (v : Option Cache) →
      carried (xs ++ ys) opened v ≡ more (carried xs opened v) ys
  unfolding after_lines rows_of carried more behind
  lines_join [] ys opened v = refl
  lines_join (x ∷ xs) ys opened v = by_test (is_bad s.outcome) (lines_join xs ys true s.holds)
    where
      s : Step
      s = line_step bytes words x opened v

      -- the line and others, where it is `bad` or not
      with_line : Bool → List (List ℕ) → Carried
      with_line q lines = record {
        after =
            cond q (record { opened = opened; bad = true; holds = s.holds })
            (after_lines bytes words lines true s.holds);
        rows = outcome_text s.outcome ++ cond q [] (rows_of bytes words lines true s.holds);
      }

      by_test : (q : Bool) → carried (xs ++ ys) true s.holds ≡ more (carried xs true s.holds) ys →
          with_line q (xs ++ ys) ≡ more (with_line q xs) ys
      by_test true e = refl
      by_test false e =
          ap (behind (outcome_text s.outcome)) e
          ∙ more_behind (outcome_text s.outcome) (carried xs true s.holds) ys

  -- A line that is too long is malformed whatever it says, and nothing follows it.
  bad_at : Bool → Option Cache → Carried
  bad_at opened v = record {
    after = record { opened = opened; bad = true; holds = v };
    rows = 98 ∷ 97 ∷ 100 ∷ 10 ∷ [];
  }

  long_line : (x : List ℕ) (xs : List (List ℕ)) (opened : Bool) (v : Option Cache) → 255 < length x →
      carried (x ∷ xs) opened v ≡ bad_at opened v
  unfolding after_lines rows_of step_of carried bad_at
  long_line x xs opened v long = rw (too_long x long)

  -- Bytes of which the last are too long for a line: what follows them changes nothing.
  module _ (there : List ℕ) (opened : Bool) (v : Option Cache) (long : 255 < length there - whole_lines there) where
    whole : Carried
    whole = carried (lines_of (take (whole_lines there) there)) opened v

    last : List ℕ
    last = drop (whole_lines there) there

    last_lines : (rest : List ℕ) →
        lines_of (last ++ rest)
        ≡ first_line (last ++ rest) ∷ lines_of (drop (length (first_line (last ++ rest)) + 1) (last ++ rest))
    unfolding last
    last_lines rest =
        first_of_lines (last ++ rest)
        (omega (arith, length-append last rest, length-drop (whole_lines there) there))

    last_long : (rest : List ℕ) → 255 < length (first_line (last ++ rest))
    unfolding last
    last_long rest = omega (arith, rest_in_first there rest, length-drop (whole_lines there) there)

    ends_bad : (rest : List ℕ) →
        carried (lines_of (there ++ rest)) opened v
        ≡ cond whole.after.bad whole (behind whole.rows (bad_at whole.after.opened whole.after.holds))
    unfolding more whole last
    ends_bad rest =
        rw (lines_parted there rest)
        (lines_join (lines_of (take (whole_lines there) there)) (lines_of (last ++ rest)) opened v
        ∙ rw (last_lines rest, long_line _ _ whole.after.opened whole.after.holds (last_long rest)))

    same_however : (rest : List ℕ) →
        carried (lines_of (there ++ rest)) opened v ≡ carried (lines_of there) opened v
    same_however rest = ends_bad rest ∙ sym (rw append-nil at (ends_bad []))

    is_bad_lem : (carried (lines_of there) opened v).after.bad ≡ true
    unfolding behind bad_at
    is_bad_lem = ap (λ (c : Carried). c.after.bad) (rw append-nil at (ends_bad [])) ∙ by_whole whole.after.bad refl
      where
        by_whole : (q : Bool) → whole.after.bad ≡ q →
            (cond q whole (behind whole.rows (bad_at whole.after.opened whole.after.holds))).after.bad
            ≡ true
        by_whole true e = e
        by_whole false e = refl

  -- What a list that stands so comes to with these bytes yet.
  ahead : Standing → List ℕ → Carried
  ahead s rest = more (so_far s) (lines_of (s.kept ++ rest))

  -- A turn, and what is yet to come, are what is there and what is yet to come.
  turn_ahead : (there : List ℕ) (opened : Bool) (v : Option Cache) (rest : List ℕ) →
      carried (lines_of (there ++ rest)) opened v ≡ ahead (turn_of bytes words false there opened v) rest
  unfolding turn_of ready_of ahead so_far carried
  turn_ahead there opened v rest = by_length (leb (length there - whole_lines there) 255) refl
    where
      by_length : (q : Bool) → leb (length there - whole_lines there) 255 ≡ q →
          carried (lines_of (there ++ rest)) opened v
          ≡ more (carried (lines_of (take (cond q (whole_lines there) (length there)) there)) opened v)
          (lines_of (drop (cond q (whole_lines there) (length there)) there ++ rest))
      by_length true e =
          rw (lines_parted there rest)
          (lines_join (lines_of (take (whole_lines there) there)) (lines_of (drop (whole_lines there) there ++ rest))
          opened v)
      by_length false e =
          let long : 255 < length there - whole_lines there = leb-false (length there - whole_lines there) 255 e in
          rw (take-length there)
          (same_however there opened v long rest
          ∙ sym (no_more (carried (lines_of there) opened v) _ (is_bad_lem there opened v long)))

  -- A turn after others, and the last one.
  module _ (s : Standing) where
    next_good : (last : Bool) (read : List ℕ) → s.after.bad ≡ false →
        next_turn bytes words last read s
        ≡ with_turn s (turn_of bytes words last (s.kept ++ read) s.after.opened s.after.holds)
    unfolding next_turn
    next_good last read e = rw e

    next_bad : (last : Bool) (read : List ℕ) → s.after.bad ≡ true → next_turn bytes words last read s ≡ s
    unfolding next_turn
    next_bad last read e = rw e

    next_ahead : (read rest : List ℕ) → ahead (next_turn bytes words false read s) rest ≡ ahead s (read ++ rest)
    unfolding ahead so_far more behind
    next_ahead read rest = by_end s.after.bad refl
      where
        t : Standing
        t = turn_of bytes words false (s.kept ++ read) s.after.opened s.after.holds

        by_end : (q : Bool) → s.after.bad ≡ q →
            ahead (next_turn bytes words false read s) rest ≡ ahead s (read ++ rest)
        by_end true e =
            ap (λ (k : Standing). ahead k rest) (next_bad false read e)
            ∙ no_more (so_far s) _ e
            ∙ sym (no_more (so_far s) _ e)
        by_end false e =
            ap (λ (k : Standing). ahead k rest) (next_good false read e)
            ∙ sym (more_behind s.rows (so_far t) (lines_of (t.kept ++ rest)))
            ∙ ap (behind s.rows) (sym (turn_ahead (s.kept ++ read) s.after.opened s.after.holds rest))
            ∙ rw (append_assoc, e)

    last_ahead : so_far (next_turn bytes words true [] s) ≡ ahead s []
    unfolding ahead so_far more behind carried turn_of ready_of
    last_ahead = by_end s.after.bad refl
      where
        by_end : (q : Bool) → s.after.bad ≡ q → so_far (next_turn bytes words true [] s) ≡ ahead s []
        by_end true e = ap so_far (next_bad true [] e) ∙ sym (no_more (so_far s) _ e)
        by_end false e = rw (next_good true [] e, e, take-length)

  -- The turns of reads, and what is yet to come, are what the reads brought and what is yet to come.
  turns_ahead : (reads : List (List ℕ)) (s : Standing) (rest : List ℕ) →
      ahead (turns_of bytes words reads s) rest ≡ ahead s (joined reads ++ rest)
  unfolding turns_of joined
  turns_ahead [] s rest = refl
  turns_ahead (read ∷ reads) s rest =
      turns_ahead reads (next_turn bytes words false read s) rest
      ∙ rw append_assoc (next_ahead s read (joined reads ++ rest))

  -- However an input is cut into reads, the rows that its turns write, and what its lines come to, are those of its
  -- lines.
  module _ (reads : List (List ℕ)) (v : Option Cache) where
    input_carried : so_far (input_turns bytes words true reads v) ≡ carried (lines_of (joined reads)) false v
    unfolding input_turns ahead so_far more behind carried
    input_carried =
        last_ahead (turns_of bytes words reads (begun v))
        ∙ turns_ahead reads (begun v) []
        ∙ rw append-nil

    pub rows_of_input :
        (input_turns bytes words true reads v).rows ≡ rows_of bytes words (lines_of (joined reads)) false v
    unfolding so_far carried
    rows_of_input = ap (λ (c : Carried). c.rows) input_carried

    pub after_input :
        (input_turns bytes words true reads v).after ≡ after_lines bytes words (lines_of (joined reads)) false v
    unfolding so_far carried
    after_input = ap (λ (c : Carried). c.after) input_carried

    -- The same of an input that is not read to its end, since its list ended with `bad`, whatever follows.
    module _ (ended : (input_turns bytes words false reads v).after.bad ≡ true) (rest : List ℕ) where
      bad_carried : so_far (input_turns bytes words false reads v) ≡ carried (lines_of (joined reads ++ rest)) false v
      unfolding input_turns ahead so_far more behind carried
      bad_carried =
          sym (no_more (so_far (turns_of bytes words reads (begun v))) _ ended)
          ∙ turns_ahead reads (begun v) rest

      pub rows_to_bad :
          (input_turns bytes words false reads v).rows ≡ rows_of bytes words (lines_of (joined reads ++ rest)) false v
      unfolding so_far carried
      rows_to_bad = ap (λ (c : Carried). c.rows) bad_carried

      pub after_bad :
          (input_turns bytes words false reads v).after
          ≡ after_lines bytes words (lines_of (joined reads ++ rest)) false v
      unfolding so_far carried
      after_bad = ap (λ (c : Carried). c.after) bad_carried

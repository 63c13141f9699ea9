-- The lines of a text, one after the other, and their rows. Assumes nothing.
use mathlib.Core.Path.{◌≡◌, refl, sym, ap, ◌∙◌}
use mathlib.Core.Bool.{Bool, true, false}
use mathlib.Core.List.{List, [], ◌++◌, append_assoc, append-nil}
use Prim.Native.Nat.{ℕ, ◌+◌, ◌*◌, ◌-◌, ◌≤◌, ◌<◌}
use native.Mathlib.Omega.{arith}
use lib.ListN.{length, take}
use Rattle.pendlist_input.specs.Input.{lines_of, first_line}
use Rattle.pendlist_input.proofs.Ends.{first_is_front, NextLine}
use Rattle.std.proofs.lemmas.List.{nil_from_length}
use borrow.Rule.Slice.PartMut.{mid_of, put_mid, mid_len, same_len_mid}
use Rattle.pending_flows.specs.View.{Areas, view}
use Rattle.pendlist_rows.specs.declared.Outcome.{Outcome}
use Rattle.pendlist_rows.specs.Text.{outcome_text, Puts}
use Rattle.pendlist_rows.proofs.Texts.{put_more}
use Rattle.pendlist_calls.specs.Steps.{Step, RunsLine}
use Rattle.pendlist_texts.specs.Lists.{is_bad, ListState, line_step, after_lines, rows_of, after_text, rows_of_text}
use Rattle.pendlist_texts.specs.Lists.{RunsText}

-- The list goes on with this rest as the whole does from its front, and its rows follow those that are there.
pub record ListAhead (text : List ℕ) (opened₀ : Bool) (a₀ : Areas) (out₀ : List ℕ) (rest : List ℕ) (filled : ℕ)
    (opened : Bool) (a : Areas) (out : List ℕ) : Type 0 where
  pub ahead : after_text opened₀ text a₀
      ≡ after_lines (length a₀.bytes) (length a₀.words) (lines_of rest) opened (view a)
  pub rows : rows_of_text opened₀ text a₀
      ≡ take filled out ++ rows_of (length a₀.bytes) (length a₀.words) (lines_of rest) opened (view a)
  -- at most 107 bytes for each byte of the text that is passed
  pub few : filled + 107 * length rest ≤ 107 * length text
  pub words_long : length a.words ≡ length a₀.words
  pub bytes_long : length a.bytes ≡ length a₀.bytes
  pub out_long : length out ≡ length out₀

pub list_begins : (text : List ℕ) (opened : Bool) (a : Areas) (out : List ℕ) →
    ListAhead text opened a out text 0 opened a out
list_begins text opened a out = record {
  ahead = refl;
  rows = refl;
  few = omega arith;
  words_long = refl;
  bytes_long = refl;
  out_long = refl;
}

-- the line that the code lends
pub line_lent : (opened : Bool) (row : List ℕ) (end : ℕ) {a a' : Areas} {r : Outcome} → end ≡ length (first_line row) →
    RunsLine opened (take end row) a r a' → RunsLine opened (first_line row) a r a'
line_lent opened row end e done = rw (e, first_is_front row) at done

module _ {text rest : List ℕ} {opened₀ opened : Bool} {a₀ a : Areas} {out₀ out : List ℕ} {filled : ℕ}
    (inv : ListAhead text opened₀ a₀ out₀ rest filled opened a out) where
  -- there is room for a row
  pub row_fits : 107 * length text ≤ length out₀ → 0 < length rest →
      107 ≤ length (mid_of filled (length out - filled) out)
  row_fits room h =
      rw (mid_len filled (length out) out (omega (arith, inv.few, inv.out_long))) (omega (arith, inv.few, inv.out_long))

  pub list_over : length rest ≡ 0 →
      RunsText opened₀ text a₀ (record { opened = opened; bad = false; filled = filled }) a out
  unfolding after_lines rows_of lines_of
  list_over h =
      let none : rest ≡ [] = nil_from_length rest h in
      let all : after_text opened₀ text a₀ ≡ record { opened = opened; bad = false; holds = view a } =
      inv.ahead ∙ rw none in
      record {
        open_after = sym (ap (λ (k : ListState). k.opened) all);
        bad_after = sym (ap (λ (k : ListState). k.bad) all);
        holds = sym (ap (λ (k : ListState). k.holds) all);
        rows = sym (inv.rows ∙ rw none (append-nil (take filled out)));
        short = omega (arith, inv.few);
      }

  -- the next line, with its newline, and the others
  module _ {row rest' : List ℕ} {r : Outcome} {a' : Areas} (next : NextLine rest row rest')
      (done : RunsLine opened (first_line row) a r a') {more : ℕ} {part : List ℕ}
      (put : Puts (outcome_text r) 107 more part) (room : 107 * length text ≤ length out₀)
      (long : length part ≡ length (mid_of filled (length out - filled) out)) where
    -- the room after it
    out' : List ℕ
    out' = put_mid filled (length out - filled) out part

    -- the step, in areas of the lengths at the start
    step : Step
    step = line_step (length a₀.bytes) (length a₀.words) (first_line row) opened (view a)

    outcome_right : r ≡ step.outcome
    unfolding step
    outcome_right = done.outcome ∙ rw (inv.bytes_long, inv.words_long)

    holds_right : view a' ≡ step.holds
    unfolding step
    holds_right = done.holds ∙ rw (inv.bytes_long, inv.words_long)

    -- its row follows those that are there
    rows_with : (others : List ℕ) →
        take filled out ++ (outcome_text step.outcome ++ others) ≡ take (filled + more) out' ++ others
    unfolding out'
    rows_with others =
        let left : length part ≡ length out - filled =
        long ∙ mid_len filled (length out) out (omega arith) in
        let there : Puts (take filled out) filled filled out = record { stands = refl; short = omega arith } in
        let both : Puts (take filled out ++ outcome_text r) (filled + 107) (filled + more) out' =
        put_more out part there put (omega (arith, inv.few, inv.out_long))
        (omega (arith, put.short, next.shorter, inv.few, inv.out_long)) in
        rw (both.stands, ← outcome_right, append_assoc)

    pub list_goes_on : {bad : Bool} → length a'.words ≡ length a.words →
        length a'.bytes ≡ length a.bytes → bad ≡ is_bad r → bad ≡ false →
        ListAhead text opened₀ a₀ out₀ rest' (filled + more) true a' (put_mid filled (length out - filled) out part)
    unfolding after_lines rows_of step out'
    list_goes_on {bad} w b tested e =
        let good : is_bad step.outcome ≡ false = rw (← outcome_right) (sym tested ∙ e) in
        record {
          ahead = inv.ahead ∙ rw (next.lines, good, holds_right);
          rows = inv.rows ∙ rw (next.lines, good, holds_right) (rows_with _);
          few = omega (arith, put.short, next.shorter, inv.few);
          words_long = w ∙ inv.words_long;
          bytes_long = b ∙ inv.bytes_long;
          out_long = same_len_mid filled (length out - filled) out part long ∙ inv.out_long;
        }

    pub list_ends : {bad : Bool} → bad ≡ is_bad r → bad ≡ true →
        RunsText opened₀ text a₀ (record { opened = opened; bad = true; filled = filled + more }) a'
        (put_mid filled (length out - filled) out part)
    unfolding after_lines rows_of step out'
    list_ends {bad} tested e =
        let ends : is_bad step.outcome ≡ true = rw (← outcome_right) (sym tested ∙ e) in
        let all : after_text opened₀ text a₀ ≡ record { opened = opened; bad = true; holds = step.holds } =
        inv.ahead ∙ rw (next.lines, ends) in
        record {
          open_after = sym (ap (λ (k : ListState). k.opened) all);
          bad_after = sym (ap (λ (k : ListState). k.bad) all);
          holds = holds_right ∙ sym (ap (λ (k : ListState). k.holds) all);
          rows = sym (inv.rows ∙ rw (next.lines, ends) (rows_with [] ∙ append-nil (take (filled + more) out')));
          short = omega (arith, put.short, next.shorter, inv.few);
        }

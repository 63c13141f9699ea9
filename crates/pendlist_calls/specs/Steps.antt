-- What a line of a list comes to (document 01, "Cases").
use Rattle.std.specs.Prelude.{◌≡◌, Bool, List, ℕ, length, Option as Parsed, Some, None}
use Rattle.std.proofs.Math.Option.{Option, none, some}
use Rattle.pendlist_commands.specs.declared.Command.{Command}
use Rattle.pendlist_commands.specs.declared.Command.TheVariants as Says
use Rattle.pendlist_lines.specs.Grammar.{line_of, in_order}
use Rattle.pendlist_input.specs.Body.{ramp}
use Rattle.cache_model.specs.Cache.{Cache, Figures, Answer, done, number, count, says, shows, spans, tells}
use Rattle.cache_model.specs.Offer.{offered}
use Rattle.cache_model.specs.Calls.{drained}
use Rattle.cache_model.specs.Queries.{figures}
use Rattle.cache_model.specs.Reply.{Reply, opening, called}
use Rattle.pending_flows.specs.View.{Areas, view}
use Rattle.pending_offer.specs.Promises.{body_of}
use Rattle.pendlist_rows.specs.declared.Row.{Row}
use Rattle.pendlist_rows.specs.declared.Outcome.{Outcome}
use Rattle.pendlist_rows.specs.declared.Outcome.TheVariants.{Opened, Told, Bad}

-- "answer is 0 or the number for `o`, bodies handed out for `d`"
abbrev pub figure_of : Answer → ℕ
figure_of done = 0
figure_of (number n) = n
figure_of (count n) = n
figure_of (says b) = 0
figure_of (shows bs) = 0
figure_of (spans n) = 0
figure_of (tells f) = 0

-- "then bodies held, byte total, both counters"
abbrev pub row_of : ℕ → ℕ → Figures → Row
row_of letter n f = record {
  call = letter;
  answer = n;
  held = f.bodies;
  bytes = f.bytes;
  cached = f.cached;
  dropped = f.dropped;
}

-- the row of a call that answers this number or count and leaves this cache. Damaged areas have no figures; those of a
-- list never come to it.
unfoldable pub row_after : ℕ → ℕ → Option Cache → Outcome
row_after letter n none = Bad
row_after letter n (some c) = Told (row_of letter n (figures c))

-- what a line comes to, and what the areas then hold
pub record Step : Type 0 where
  pub outcome : Outcome
  pub holds : Option Cache

-- of a call, by its letter
abbrev pub call_step : ℕ → Reply → Step
call_step letter r = record { outcome = row_after letter (figure_of r.answer) r.holds; holds = r.holds }

-- a refused `c` is `bad`
abbrev pub open_outcome : Answer → Outcome
open_outcome done = Opened
open_outcome (number n) = Bad
open_outcome (count n) = Bad
open_outcome (says b) = Bad
open_outcome (shows bs) = Bad
open_outcome (spans n) = Bad
open_outcome (tells f) = Bad

abbrev pub open_step : Reply → Step
open_step r = record { outcome = open_outcome r.answer; holds = r.holds }

-- what is done by a line, in areas of so many bytes and words; "byte i of a body is i modulo 256"
unfoldable pub step_of : Parsed Command → (bytes words : ℕ) → Option Cache → Step
step_of (Some (Says.Open limits)) bytes words v = open_step (opening limits bytes words v)
step_of (Some (Says.Offer o)) bytes words v =
    call_step 111 (called (offered o.id (body_of (ramp 0 o.len) o.clock)) v)
step_of (Some (Says.Drain d)) bytes words v = call_step 100 (called (drained d.id d.clock) v)
step_of None bytes words v = record { outcome = Bad; holds = v }

-- The areas then hold what the definition leaves, and the outcome is the definition's.
pub record Steps (line : Parsed Command) (a : Areas) (r : Outcome) (a' : Areas) : Type 0 where
  pub outcome : r ≡ (step_of line (length a.bytes) (length a.words) (view a)).outcome
  pub holds : view a' ≡ (step_of line (length a.bytes) (length a.words) (view a)).holds

-- the same of a line as it is read, given whether a cache is open
abbrev pub RunsLine : Bool → List ℕ → Areas → Outcome → Areas → Type 0
RunsLine opened line a r a' = Steps (in_order opened (line_of line)) a r a'

-- What the calls that change a cache promise.
use Rattle.std.specs.Prelude.{Result, Ok, Err, ⊤}
use Rattle.table.specs.declared.Damaged.{Damaged}
use Rattle.std.specs.Prelude.{◌≡◌, ℕ, length, drop}
use Rattle.std.proofs.Math.Option.{none, some}
use Rattle.config.specs.declared.PendingFlowsConfig.{PendingFlowsConfig}
use Rattle.config.specs.Limits.{words_needed}
use Rattle.table.specs.Layout.{limits_of}
use Rattle.cache_model.specs.Cache.{Cache, Answer, done, number, Outcome}
use Rattle.cache_model.specs.Calls.{cleared}
use Rattle.cache_model.specs.Reply.{called}
use Rattle.pending_flows.specs.View.{Areas, view}

-- Words and bytes from these on are not touched, and the areas keep their lengths.
pub record Untouched (words bytes : ℕ) (a a' : Areas) : Type 0 where
  pub words_behind : drop words a'.words ≡ drop words a.words
  pub bytes_behind : drop bytes a'.bytes ≡ drop bytes a.bytes
  pub words_long : length a'.words ≡ length a.words
  pub bytes_long : length a'.bytes ≡ length a.bytes

-- Nothing is touched past the words and bytes that the configured limits need
abbrev pub UntouchedPast : PendingFlowsConfig → Areas → Areas → Type 0
UntouchedPast l a a' = Untouched (words_needed l) l.max_total_bytes a a'

-- The areas then hold what the definition leaves, and the answer is the definition's; 28 changes nothing.
-- Free: within the need, the words and bytes that `view` does not read (docs/LAYOUT.md), labels, and the places of
-- bodies; of labels and places the test behind 28 holds.
pub record Performs (f : Cache → Outcome) (a : Areas) (r : Answer) (a' : Areas) : Type 0 where
  pub answer : r ≡ (called f (view a)).answer
  pub holds : view a' ≡ (called f (view a)).holds
  pub damaged : view a ≡ none → a' ≡ a

-- What a call does to a well-formed cache c.
pub record Does (f : Cache → Outcome) (c : Cache) (a : Areas) (r : Answer) (a' : Areas) : Type 0 where
  pub answer : r ≡ (f c).answer
  pub holds : view a' ≡ some (f c).cache
  pub frame : UntouchedPast (limits_of a.words) a a'

-- document 01's answer of each case
abbrev pub clear_answer : Result ⊤ Damaged → Answer
clear_answer (Ok tt) = done
clear_answer (Err damaged) = number 28

pub record Clears (a : Areas) (r : Result ⊤ Damaged) (a' : Areas) : Type 0 where
  pub performs : Performs cleared a (clear_answer r) a'
  pub frame : UntouchedPast (limits_of a.words) a a'

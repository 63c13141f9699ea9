-- What a resize promises.
use Rattle.std.specs.Prelude.{Result, Ok, Err}
use Rattle.std.specs.Prelude.{◌≡◌, ℕ, max, length}
use Rattle.std.proofs.Math.Option.{some}
use Rattle.config.specs.declared.PendingFlowsConfig.{PendingFlowsConfig}
use Rattle.config.specs.declared.ConfigRefusal.{ConfigRefusal}
use Rattle.config.specs.Limits.{refusal_number, words_needed}
use Rattle.table.specs.Layout.{limits_of}
use Rattle.cache_model.specs.Cache.{Cache, Answer, number, count}
use Rattle.cache_model.specs.Calls.{shrunk, resized_to, resized}
use Rattle.pending_flows.specs.View.{Areas, view}
use Rattle.pending_calls.specs.Promises.{Performs, Untouched}
use Rattle.pending_resize.specs.Shrink.{UntouchedByBoth}
use Rattle.pending_resize.specs.declared.resizing.ResizeRefusal.{ResizeRefusal}
use Rattle.pending_resize.specs.declared.resizing.ResizeRefusal.TheVariants as Refusal

-- document 01's number of each refusal, and its answer of each case
abbrev pub resize_number : ResizeRefusal → ℕ
resize_number (Refusal.Limits n) = refusal_number n
resize_number Refusal.Damaged = 28

abbrev pub resize_answer : Result ℕ ResizeRefusal → Answer
resize_answer (Ok n) = count n
resize_answer (Err n) = number (resize_number n)

-- Refused, with 1 to 5, it changes nothing at all. Else nothing is touched past the larger of both needs.
pub record Resizes (l : PendingFlowsConfig) (a : Areas) (r : Result ℕ ResizeRefusal) (a' : Areas) : Type 0 where
  pub performs : Performs (resized l (length a.bytes) (length a.words)) a (resize_answer r) a'
  pub refused : (n : ConfigRefusal) → r ≡ Err (Refusal.Limits n) → a' ≡ a
  pub frame : Untouched (max (words_needed (limits_of a.words)) (words_needed l))
      (max (limits_of a.words).max_total_bytes l.max_total_bytes) a a'

-- What a resize that is not refused does to a well-formed cache c; r bodies are dropped.
pub record ResizesTo (l : PendingFlowsConfig) (c : Cache) (a : Areas) (r : ℕ) (a' : Areas) : Type 0 where
  pub answer : count r ≡ (resized_to l c (shrunk l c.held)).answer
  pub holds : view a' ≡ some (resized_to l c (shrunk l c.held)).cache
  pub frame : UntouchedByBoth l a a'

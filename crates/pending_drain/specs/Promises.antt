-- What draining promises.
use Rattle.std.specs.Prelude.{Result, Ok, Err}
use Rattle.table.specs.declared.Damaged.{Damaged}
use Rattle.std.specs.Prelude.{ℕ}
use Rattle.table.specs.Layout.{limits_of}
use Rattle.cache_model.specs.Cache.{Answer, number, count}
use Rattle.cache_model.specs.Calls.{drained}
use Rattle.pending_flows.specs.View.{Areas}
use Rattle.pending_calls.specs.Promises.{Performs, UntouchedPast}

-- document 01's answer of each case
abbrev pub drain_answer : Result ℕ Damaged → Answer
drain_answer (Ok n) = count n
drain_answer (Err damaged) = number 28

pub record Drains (id now : ℕ) (a : Areas) (r : Result ℕ Damaged) (a' : Areas) : Type 0 where
  pub performs : Performs (drained id now) a (drain_answer r) a'
  pub frame : UntouchedPast (limits_of a.words) a a'

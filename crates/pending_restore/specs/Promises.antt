-- What putting back promises.
use Rattle.std.specs.Prelude.{Result, Ok, Err, ⊤}
use Rattle.std.specs.Prelude.{◌≡◌, ℕ}
use Rattle.table.specs.Layout.{limits_of}
use Rattle.cache_model.specs.Cache.{Answer, done, number}
use Rattle.cache_model.specs.Calls.{put_back}
use Rattle.pending_flows.specs.View.{Areas}
use Rattle.pending_calls.specs.Promises.{Performs, UntouchedPast}
use Rattle.pending_restore.specs.declared.PutBackRefusal.{PutBackRefusal}
use Rattle.pending_restore.specs.declared.PutBackRefusal.TheVariants as Refusal

-- document 01's number of each refusal, and its answer of each case
abbrev pub put_back_number : PutBackRefusal → ℕ
put_back_number Refusal.NoChance = 25
put_back_number Refusal.Damaged = 28

abbrev pub put_back_answer : Result ⊤ PutBackRefusal → Answer
put_back_answer (Ok tt) = done
put_back_answer (Err n) = number (put_back_number n)

-- A put-back that is refused with 25, and one of 0 bodies, change nothing at all.
pub record PutsBack (id n : ℕ) (a : Areas) (r : Result ⊤ PutBackRefusal) (a' : Areas) : Type 0 where
  pub performs : Performs (put_back id n) a (put_back_answer r) a'
  pub refused : put_back_answer r ≡ number 25 → a' ≡ a
  pub nothing : n ≡ 0 → a' ≡ a
  pub frame : UntouchedPast (limits_of a.words) a a'

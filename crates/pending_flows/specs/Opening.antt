-- What opening promises.
use Rattle.std.specs.Prelude.{Result, Ok, Err, ⊤}
use Rattle.config.specs.declared.ConfigRefusal.{ConfigRefusal}
use Rattle.std.specs.Prelude.{◌≡◌, ◌≢◌, length, drop}
use Rattle.config.specs.declared.PendingFlowsConfig.{PendingFlowsConfig}
use Rattle.config.specs.Limits.{answer_number, refusal_number, words_needed}
use Rattle.cache_model.specs.Cache.{Answer, done, number}
use Rattle.cache_model.specs.Reply.{Reply, opening}
use Rattle.pending_flows.specs.View.{Areas, view}

-- document 01's answer of each case
abbrev pub opening_answer : Result ⊤ ConfigRefusal → Answer
opening_answer (Ok tt) = done
opening_answer (Err n) = number (refusal_number n)

-- opening with these limits, in these areas
abbrev pub opening_in : PendingFlowsConfig → Areas → Reply
opening_in limits a = opening limits (length a.bytes) (length a.words) (view a)

-- Opening answers 1 to 5 and then changes nothing, or leaves a newly opened cache, whatever the areas held before.
-- Free: within the need, the words that `view` of an empty cache does not read.
pub record Opens (limits : PendingFlowsConfig) (a : Areas) (r : Result ⊤ ConfigRefusal) (a' : Areas) : Type 0 where
  pub answer : opening_answer r ≡ (opening_in limits a).answer
  pub holds : view a' ≡ (opening_in limits a).holds
  pub refused : answer_number r ≢ 0 → a' ≡ a
  pub bytes : a'.bytes ≡ a.bytes
  pub frame : answer_number r ≡ 0 → drop (words_needed limits) a'.words ≡ drop (words_needed limits) a.words
  pub long : length a'.words ≡ length a.words

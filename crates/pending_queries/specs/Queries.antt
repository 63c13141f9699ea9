-- What the queries promise.
use Rattle.std.specs.Prelude.{Result, Ok, Err}
use Rattle.table.specs.declared.Damaged.{Damaged}
use Rattle.std.specs.Prelude.{◌≡◌, Bool, ◌&&◌, ℕ, leb, ltb}
use Rattle.std.proofs.Math.Option.{Option}
use Rattle.config.specs.declared.PendingFlowsConfig.{PendingFlowsConfig}
use Rattle.cache_model.specs.Cache.{Cache, Figures, Answer, number, says, tells}
use Rattle.cache_model.specs.Reply.{called}
use Rattle.pending_flows.specs.View.{Areas, view}
use Rattle.pending_queries.specs.declared.CacheFigures.{CacheFigures}

-- a question asked of areas: 28 where they hold no well-formed cache
abbrev pub asked : (Cache → Answer) → Option Cache → Answer
asked question v = (called (λ c. record { answer = question c; cache = c }) v).answer

-- A query gives the definition's answer, and leaves the areas as they were.
pub record Asks (question : Cache → Answer) (a : Areas) (r : Answer) (a' : Areas) : Type 0 where
  pub answer : r ≡ asked question (view a)
  pub unchanged : a' ≡ a

-- document 01's answer of each case of `would_accept`
abbrev pub accept_answer : Result Bool Damaged → Answer
accept_answer (Ok accepts) = says accepts
accept_answer (Err damaged) = number 28

-- what is asked of the limits and of an id's unexpired bodies, counted
unfoldable pub accepts_with : PendingFlowsConfig → ℕ → ℕ → Bool
accepts_with l len live =
    leb len l.max_entry_size_bytes && (leb len l.max_total_bytes && ltb live l.max_entries_per_template)

-- the figures, as the model has them
abbrev pub figures_record : CacheFigures → Figures
figures_record f = record {
  templates = f.templates;
  bodies = f.bodies;
  bytes = f.bytes;
  cached = f.cached;
  dropped = f.dropped;
  handed = f.handed;
}

-- document 01's answer of each case of `take_figures`
abbrev pub figures_answer : Result CacheFigures Damaged → Answer
figures_answer (Ok f) = tells (figures_record f)
figures_answer (Err damaged) = number 28

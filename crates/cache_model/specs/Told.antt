-- Answers and held bodies in plain numbers, as document 01's cases give them.
use Rattle.std.specs.Prelude.{Option}
use Rattle.std.specs.Prelude.{List, [], ◌∷◌, map, cond, ℕ, zero, suc}
use Rattle.config.specs.declared.PendingFlowsConfig.{PendingFlowsConfig}
use Rattle.cache_model.specs.Bodies.{Template, size}
use Rattle.cache_model.specs.Cache.{Answer, done, number, count, says, shows, spans, tells}
use Rattle.cache_model.specs.Calls.{opened}
use Rattle.cache_model.specs.History.{Call, Offer, after, answers}

-- a refusal's number, or 0 and the values: a count; 1 for yes and 0 for no; bytes; a length; the six figures
abbrev pub told : Answer → List ℕ
told done = 0 ∷ []
told (number n) = n ∷ []
told (count n) = 0 ∷ n ∷ []
told (says b) = 0 ∷ cond b 1 0 ∷ []
told (shows bs) = 0 ∷ bs
told (spans n) = 0 ∷ n ∷ []
told (tells f) = 0 ∷ f.templates ∷ f.bodies ∷ f.bytes ∷ f.cached ∷ f.dropped ∷ f.handed ∷ []

-- a template's id, and the lengths of its bodies
abbrev pub id_and_sizes : Template → List ℕ
id_and_sizes t = t.id ∷ map size t.bodies

-- the limits in document 01's order
abbrev pub limits_of : ℕ → ℕ → ℕ → ℕ → Option ℕ → PendingFlowsConfig
limits_of templates bodies entry total ttl = record {
  max_pending_flows = templates;
  max_entries_per_template = bodies;
  max_entry_size_bytes = entry;
  max_total_bytes = total;
  ttl = ttl;
}

-- n bytes from this one on: "byte i of a body is i modulo 256", for the short bodies of the cases
abbrev pub bytes_from : ℕ → ℕ → List ℕ
bytes_from i zero = []
bytes_from i (suc n) = i ∷ bytes_from (suc i) n

-- the offer id/length/clock
abbrev pub offer_of : ℕ → ℕ → ℕ → Call
offer_of i n now = Offer i (bytes_from 0 n) now

-- each call's answer
abbrev pub answers_to : PendingFlowsConfig → List Call → List (List ℕ)
answers_to l cs = map told (answers cs (opened l))

-- what is held after the calls, least recent template first
abbrev pub held_after : PendingFlowsConfig → List Call → List (List ℕ)
held_after l cs = map id_and_sizes (after cs (opened l)).held

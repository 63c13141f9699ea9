-- The answers of the queries: what is read off a well-formed table is what the cache says. Assumes nothing.
use Rattle.std.proofs.Common.{Result, Ok}
use Rattle.table.specs.declared.Damaged.{Damaged}
use mathlib.Core.Path.{◌≡◌, refl, ap, ◌∙◌}
use mathlib.Core.Bool.{Bool, true, false, not}
use mathlib.Core.List.{List}
use Prim.Native.Nat.{ℕ}
use lib.ListN.{length}
use Rattle.config.specs.declared.PendingFlowsConfig.{PendingFlowsConfig}
use Rattle.table_watch.specs.declared.Sought.{Sought}
use Rattle.table_watch.specs.declared.LabelSeen.{LabelSeen}
use Rattle.table.specs.Layout.{limits_of}
use Rattle.table.specs.Table.{table_of, tally}
use Rattle.table.specs.WellFormed.{well_formed}
use Rattle.table.specs.Reads.{label_of, label_or_none}
use Rattle.table_check.specs.Examined.{examined}
use Rattle.table_check.proofs.LiveSought.{live_counted}
use Rattle.cache_model.specs.Bodies.{keep, bodies_of, expired}
use Rattle.cache_model.specs.Cache.{Cache, Answer, number, says}
use Rattle.cache_model.specs.Queries.{would_accept}
use Rattle.pending_flows.specs.View.{Areas, areas_of, cache_of, view}
use Rattle.pending_flows.proofs.Templates.{found_bodies, live_bodies_lem}
use Rattle.pending_flows.proofs.Questions.{seen_legal, view_none, view_some, none_unlabelled}
use Rattle.pending_queries.specs.Queries.{asked, Asks, accepts_with}

-- By the test behind 28: 28, or the question's answer.
module _ (question : Cache → Answer) (w b : List ℕ) where
  pub damaged : well_formed w (length b) ≡ false → number 28 ≡ asked question (view (areas_of w b))
  damaged none = rw (view_none w b none)

  pub answered : well_formed w (length b) ≡ true →
      question (cache_of (table_of w) b) ≡ asked question (view (areas_of w b))
  answered ok = rw (view_some w b ok)

pub asks : {question : Cache → Answer} {a : Areas} {r : Answer} → r ≡ asked question (view a) → Asks question a r a
asks e = record { answer = e; unchanged = refl }

-- What `would_accept` answers on a well-formed cache, by what was seen of the id's bodies: x is the table that was
-- tested, and l the limits that were read.
module _ (w b : List ℕ) (id len clock : ℕ) {x : Result LabelSeen Damaged} {s : LabelSeen} {l : PendingFlowsConfig} {v : Bool}
    (tested : x ≡ examined w (length b) (Sought.Live id clock)) (seen : x ≡ Ok s)
    (limits : l ≡ limits_of w)
    (is : v ≡ accepts_with l len s.live) where
  ok : well_formed w (length b) ≡ true
  ok = seen_legal w (length b) (Sought.Live id clock) tested seen

  unused : tally 1024 (table_of w).entries ≡ 0
  unused = none_unlabelled w (length b) ok

  live_right : s.live ≡ length (keep (λ y. not (expired (limits_of w).ttl clock y))
      (bodies_of id (cache_of (table_of w) b).held))
  live_right =
      live_counted w (length b) id clock tested seen unused
      ∙ live_bodies_lem b (limits_of w).ttl clock (label_or_none (label_of id (table_of w).held)) (table_of w).entries
      ∙ rw (found_bodies b id (table_of w).entries (table_of w).held unused)

  pub told : says v ≡ asked (λ c. says (would_accept id len clock c)) (view (areas_of w b))
  unfolding accepts_with would_accept
  told =
      ap says (is ∙ rw (limits, live_right))
      ∙ answered (λ c. says (would_accept id len clock c)) w b ok

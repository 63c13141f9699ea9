-- Which bodies of a label stay, where its expired bodies go: those that are not expired. Assumes nothing.
use Rattle.std.proofs.Common.{Option}
use mathlib.Core.Path.{◌≡◌, refl}
use mathlib.Core.Bool.{Bool, not, and-true}
use mathlib.Core.List.{List}
use Prim.Native.Nat.{ℕ, ◌≤◌}
use native.Mathlib.Omega.{arith}
use lib.ListN.{length}
use borrow.Author.Tests.{eq-eqb, le-leb}
use Rattle.config.proofs.Lists.{All, all_both}
use Rattle.table.specs.declared.Entry.{Entry}
use Rattle.table.proofs.Labels.{tally_most}
use Rattle.cache_model.specs.Bodies.{Body, expired, keep}
use Rattle.cache_model.proofs.Lists.{length_part}
use Rattle.cache_model.proofs.Parts.{sub_keep}
use Rattle.pending_flows.specs.View.{body_at, bodies_at}
use Rattle.pending_flows.proofs.Templates.{length_bodies}
use Rattle.table_view.proofs.Swept.{body_stays, Within, body_size, keep_alike}
use Rattle.table_view.proofs.Summed.{len_most}
use Rattle.pending_calls.specs.Removal.{unexpired}

module _ (b : List ℕ) (ttl : Option ℕ) (now a : ℕ) (es : List Entry) (within : Within (length b) es)
    (short : All (λ e. e.len ≤ len_most) es) where
  pub live_stay : keep (body_stays (unexpired ttl now a) a) (bodies_at b a es)
      ≡ keep (λ x. not (expired ttl now x)) (bodies_at b a es)
  unfolding body_stays
  live_stay =
      keep_alike b (body_stays (unexpired ttl now a) a) (λ x. not (expired ttl now x)) a es
      (all_both _ _ (λ e. body_stays (unexpired ttl now a) a (body_at b e) ≡ not (expired ttl now (body_at b e)))
      (λ e x y. rw (eq-eqb a a refl, body_size b e x, le-leb e.len len_most y)
      (and-true (not (expired ttl now (body_at b e))))) es within short)

-- no more bodies stay than there are entries
pub kept_few : (b : List ℕ) (p : Body → Bool) (k : ℕ) (es : List Entry) →
    length (keep p (bodies_at b k es)) ≤ length es
kept_few b p k es =
    omega (arith, length_part (sub_keep p (bodies_at b k es)), length_bodies b k es, tally_most k es)

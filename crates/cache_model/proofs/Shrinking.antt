-- A resize as two thinnings: to the templates, sizes and caps of the new limits, then to their total.
-- Assumes nothing.
use mathlib.Core.Path.{◌≡◌, refl, ap, ◌∙◌}
use mathlib.Core.List.{List, []}
use mathlib.Core.Bool.{Bool, cond}
use Prim.Native.Nat.{ℕ, zero, suc, ◌-◌, ◌<◌}
use lib.Dec.{leb}
use lib.ListN.{length, take, drop}
use Rattle.config.specs.declared.PendingFlowsConfig.{PendingFlowsConfig}
use Rattle.cache_model.specs.Bodies.{Body, Template, size, keep}
use Rattle.cache_model.specs.Removal.{evicted, evictions, kept_of, pruned, capped}
use Rattle.cache_model.specs.Calls.{cut, shrunk}
use Rattle.cache_model.proofs.Parts.{Differ, kept_filled}
use Rattle.cache_model.proofs.Thinning.{thinned, has_id, thinned_twice, thinned_filled, thinned_differ}
use Rattle.cache_model.proofs.Thinning.{kept_thinned, newest_thinned, thinned_evicted, evicted_thinned}

drop_nil : (n : ℕ) → ◌≡◌ {A = List Body} (drop n []) []
drop_nil zero = refl
drop_nil (suc n) = refl

module _ (l : PendingFlowsConfig) (ts : List Template) where
  abbrev newest : ℕ → List Body → List Body
  newest j bs = drop (length bs - l.max_entries_per_template) bs

  abbrev small : ℕ → Body → Bool
  small j x = leb (size x) l.max_entry_size_bytes

  -- what the new number of templates, size and cap leave of a template's bodies
  abbrev pub cut_bodies : ℕ → List Body → List Body
  cut_bodies j bs = cond (has_id j (take (length ts - l.max_pending_flows) ts)) [] (newest j (keep (small j) bs))

  module _ (differ : Differ ts) (some : 0 < l.max_entries_per_template) where
    pub cut_thinned : (cut l ts).held ≡ thinned cut_bodies ts
    unfolding evicted pruned capped
    cut_thinned =
        let n = length ts - l.max_pending_flows in
        let few = drop n ts in
        newest_thinned l.max_entries_per_template some (kept_of small few) (kept_filled small few)
        ∙ ap (thinned newest) (kept_thinned small few)
        ∙ thinned_twice (λ j bs. keep (small j) bs) newest (λ j. drop_nil (0 - l.max_entries_per_template)) few
        ∙ thinned_evicted (λ j bs. newest j (keep (small j) bs)) n ts differ

    pub shrunk_thinned : let us = (cut l ts).held in
        let m = evictions l.max_total_bytes 0 us in
        (shrunk l ts).held ≡ thinned (λ j bs. cond (has_id j (take m us)) [] bs) us
    unfolding shrunk evicted
    shrunk_thinned =
        let us = (cut l ts).held in
        evicted_thinned (evictions l.max_total_bytes 0 us) us
        (rw cut_thinned (thinned_differ cut_bodies ts differ))
        (rw cut_thinned (thinned_filled cut_bodies ts))

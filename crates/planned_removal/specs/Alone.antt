-- The plans of an offer by which one template goes, whole, and nothing else, or expired bodies of one.
use Rattle.std.specs.Prelude.{Option, None, ◌≡◌, true, false, List, ℕ, set, replicate}
use Rattle.table_records.specs.Choose.{skip_all}
use Rattle.pending_flows.specs.declared.header.HeaderFigures.{HeaderFigures}
use Rattle.offer_plan.specs.declared.plan.OfferPlan.{OfferPlan}
use Rattle.offer_plan.specs.Plan.{skip_of}

-- the plan says that no body goes as expired; those of this label are skipped, all of them, and no others
pub record GoesAlone (w : List ℕ) (plan : OfferPlan) (label : ℕ) : Type 0 where
  pub none_expired : plan.none_expired ≡ true
  pub skips : skip_of w plan ≡ set (replicate 1024 0) label skip_all

-- nothing is handed out, no template is evicted, and only expired bodies of this label go
pub record OnlyExpired (f : HeaderFigures) (plan : OfferPlan) (label : Option ℕ) : Type 0 where
  pub hands_none : f.chance ≡ 0
  pub evicts_none : plan.evicted ≡ 0
  pub none_for_room : plan.first ≡ None
  pub one_id : plan.all ≡ false
  pub own : plan.label ≡ label

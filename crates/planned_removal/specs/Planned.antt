-- Removing what the plan of an offer removes.
use Rattle.std.specs.Prelude.{◌≡◌, true, List, ℕ}
use Rattle.table.specs.Layout.{limits_of}
use Rattle.pending_flows.specs.declared.header.Header.{Header}
use Rattle.pending_flows.specs.Header.{HoldsCache}
use Rattle.pending_calls.specs.declared.removal.Removed.{Removed}
use Rattle.pending_calls.specs.Removal.{RemovesFrom}
use Rattle.offer_plan.specs.declared.plan.OfferPlan.{OfferPlan}
use Rattle.offer_plan.specs.Plan.{plan_test, skip_of, KeepsAll, NoneExpired}

-- The areas, with so many bytes, hold a well-formed cache with this header; where the plan says at this clock reading
-- that no body goes as expired, each stays by itself.
pub record PlannedFor (h : Header) (clock : ℕ) (plan : OfferPlan) (w : List ℕ) (bytes : ℕ) : Type 0 where
  pub holds : HoldsCache h w bytes
  pub none_expired : NoneExpired w clock plan

-- And where it says that nothing goes, every entry is kept, and nothing is handed out.
pub record PlannedAll (h : Header) (clock : ℕ) (plan : OfferPlan) (w : List ℕ) (bytes : ℕ) : Type 0 where
  pub planned : PlannedFor h clock plan w bytes
  pub keeps_all : KeepsAll w clock plan
  pub none_handed : plan.none ≡ true → h.figures.chance ≡ 0

-- the plan is carried out at this clock reading; the record of the label `apart` goes though its bodies stay
abbrev pub RemovesPlanned : ℕ → OfferPlan → ℕ → List ℕ → List ℕ → Removed → Type 0
RemovesPlanned clock plan apart w w' r =
    RemovesFrom (plan_test (limits_of w) clock plan) apart (skip_of w plan) w w' r

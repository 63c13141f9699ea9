use borrow.Author.Rules.{rules}
use Rattle.pending_offer.proofs.Offered.{size_within, cached_offer, full_offer}
use Rattle.pending_offer.proofs.offering.offer_body.Goals as goal

pub plan_offer-plan-requires : goal.plan_offer-plan-requires
plan_offer-plan-requires c = record {
  header_value = c.requires.fits.cache;
  len_value = size_within c.requires.fits;
  live_value = c.requires.live_value;
}

pub turn_down-requires : goal.turn_down-requires
turn_down-requires c = record { fits = c.requires.fits; plans = (c.plan_offer-plan.ensures, c.if-plan.true) }

pub returns-then-plan : goal.returns-then-plan
returns-then-plan c = search (full_offer, rules)

pub accept-requires : goal.accept-requires
accept-requires c = record { fits = c.requires.fits; plans = (c.plan_offer-plan.ensures, c.if-plan.false) }

pub returns : goal.returns
returns c = search (cached_offer, rules)

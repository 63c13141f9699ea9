use Rattle.pending_offer.proofs.Left.{planned}
use Rattle.pending_offer.proofs.Refused.{Refusing, refusing, refused_settles, refused_fewer, drops_fit, refused_does}
use Rattle.pending_offer.proofs.offering.turn_down.Goals as goal
use Rattle.pending_offer.proofs.offering.turn_down.Goals.{After-remove_planned-left}

pub remove_planned-left-requires : goal.remove_planned-left-requires
remove_planned-left-requires c = let cache = c.requires.fits.cache in
    planned _ _ cache.legal _ _ _ _ c.requires.plans.0 cache

-- what is known once the bodies that the plan names are removed
known : (c : After-remove_planned-left) →
    Refusing c.args.words.now c.args.bytes.now c.args.header c.args.id c.args.body.now c.args.clock c.args.plan
    c.remove_planned-left.new.words c.remove_planned-left.result
known c = refusing _ _ c.requires.fits c.requires.plans c.remove_planned-left.ensures c.remove_planned-left.auto.words

pub overflow_sub-drops : goal.overflow_sub-drops
overflow_sub-drops c =
    refused_fewer (known (goal.at.overflow_sub-drops c).After-remove_planned-left) c.held_bodies-held.ensures

pub overflow_add-drops : goal.overflow_add-drops
overflow_add-drops c = record {
  fits = drops_fit (known (goal.at.overflow_add-drops c).After-remove_planned-left) c.held_bodies-held.ensures;
}

pub settle-requires : goal.settle-requires
settle-requires c = refused_settles (known (goal.at.settle-requires c).After-remove_planned-left)

pub returns : goal.returns
returns c =
    refused_does (known (goal.at.returns c).After-remove_planned-left) c.held_bodies-held.ensures c.settle.ensures

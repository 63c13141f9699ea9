use mathlib.Core.Path.{◌≡◌}
use Rattle.std.proofs.Common.{Err}
use borrow.Author.Rules.{rules}
use lib.ListN.{length}
use Rattle.pending_flows.specs.Header.{HoldsCache}
use Rattle.pending_flows.proofs.Questions.{header_within, header_read}
use Rattle.pending_offer.specs.declared.offering.OfferRefusal.TheVariants as Refusal
use Rattle.pending_offer.proofs.Offered.{offer_damaged, offer_legal, offer_live, offer_done, too_long_offer}
use Rattle.pending_offer.proofs.offering.cache.Goals as goal
use Rattle.pending_offer.proofs.offering.cache.Goals.{After-read-header}

pub returns-in_err-seen : goal.returns-in_err-seen
returns-in_err-seen c =
    let err : c.from_residual.result ≡ Err Refusal.Damaged = search rules in
    rw err (offer_damaged _ _ _ _ _ c.examine.ensures c.in_err-seen.was)

pub read-header-requires : goal.read-header-requires
read-header-requires c =
    header_within _ _ (offer_legal _ _ _ c.args.body.now _ c.examine.ensures c.in_ok-seen.was)

-- the header that was read is the cache's
holds : (c : After-read-header) → HoldsCache c.read-header.result c.args.words.now (length c.args.bytes.now)
holds c = header_read _ _ (offer_legal _ _ _ c.args.body.now _ c.examine.ensures c.in_ok-seen.was)
    c.read-header.ensures

pub count_drop-requires : goal.count_drop-requires
count_drop-requires c = header_within _ _ (holds (goal.at.count_drop-requires c).After-read-header).legal

pub returns-then-header-body : goal.returns-then-header-body
returns-then-header-body c = offer_done _ _ _ _ _ c.examine.ensures c.in_ok-seen.was
    (too_long_offer _ _ _ _ _ (holds (goal.at.returns-then-header-body c).After-read-header)
    c.if-header-body.true c.count_drop.ensures)

pub offer_body-requires : goal.offer_body-requires
offer_body-requires c = record {
  fits = record {
    cache = holds (goal.at.offer_body-requires c).After-read-header;
    short = c.if-header-body.false;
  };
  live_value = offer_live _ _ _ c.args.body.now _ c.examine.ensures c.in_ok-seen.was;
}

pub returns : goal.returns
returns c = offer_done _ _ _ _ _ c.examine.ensures c.in_ok-seen.was c.offer_body.ensures

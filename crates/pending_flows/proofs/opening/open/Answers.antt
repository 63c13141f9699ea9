use Rattle.pending_flows.proofs.Openings.{opening_refused, header_fits, opening_done}
use borrow.Author.Rules.{rules}
use Rattle.pending_flows.proofs.opening.open.Goals as goal

pub returns-in_err-validate_config : goal.returns-in_err-validate_config
returns-in_err-validate_config c = opening_refused _ _ _ c.in_err-validate_config.ensures (search rules)

pub write-requires : goal.write-requires
write-requires c = header_fits _ _ _ c.in_ok-validate_config.ensures

pub returns : goal.returns
returns c = opening_done _ _ _ c.in_ok-validate_config.ensures c.write.ensures

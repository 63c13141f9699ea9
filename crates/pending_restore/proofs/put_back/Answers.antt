use native.Mathlib.Omega.{arith}
use Rattle.pending_flows.proofs.Questions.{header_within}
use Rattle.pending_restore.proofs.Restores.{count_small, put_back_written}
use Rattle.pending_restore.proofs.put_back.Goals as goal

pub overflow_cast-less : goal.overflow_cast-less
overflow_cast-less c = omega (
  arith,
  count_small _ c.args.bytes.now _ _ c.requires.header_value c.requires.n_nonzero.0 c.requires.n_nonzero.1,
)

pub write-requires : goal.write-requires
write-requires c = omega (arith, c.take_back-removed.auto.words, header_within _ _ c.requires.header_value.legal)

pub returns : goal.returns
returns c = put_back_written _ _ _ _ c.requires.header_value c.requires.n_nonzero.0 c.requires.n_nonzero.1
    c.take_back-removed.ensures c.take_back-removed.auto.words c.write.ensures

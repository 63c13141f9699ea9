use Rattle.std.proofs.Common.{ℕ, replicate}
use Rattle.std.proofs.lemmas.List.{length-replicate}
use Rattle.pendlist_run.proofs.Inputs.{header_failed, said_at_ok}
use Rattle.pendlist_run.proofs.ListRead.{program_done}
use Rattle.pendlist_run.proofs.program.run.Goals as goal

pub returns-then-is_err : goal.returns-then-is_err
returns-then-is_err g c = header_failed _ _ _ (replicate 4096 0) (replicate 16384 0) (length-replicate {A = ℕ} 4096 0)
    (length-replicate {A = ℕ} 16384 0)

pub run_input-requires : goal.run_input-requires
run_input-requires g c = (length-replicate {A = ℕ} 4096 0, length-replicate {A = ℕ} 438272 0)

pub returns : goal.returns
returns g c =
    program_done (g.W.Write.contents c.args.writer.now) (length-replicate {A = ℕ} 16384 0)
    (length-replicate {A = ℕ} 4096 0)
    (said_at_ok c.write_header.result c.if-is_err.ensures.value c.write_header.ensures) c.run_input.ensures

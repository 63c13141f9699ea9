use Prim.Native.Nat.{◌-◌}
use Rattle.output_scan_one.proofs.Alone.{AlonePassed}
use Rattle.output_scan_one.proofs.scan_one_variable.Given as goal

abbrev pub invariant-loop-records : goal.invariant-loop-records
invariant-loop-records l = AlonePassed l.body l.framing.widths.now l.framing.max_records l.rest l.records l.long

abbrev pub decreases-loop-records : goal.decreases-loop-records
decreases-loop-records l = l.framing.max_records - l.records

use mathlib.Core.Path.{sym}
use Prim.Native.Nat.{◌<◌}
use native.Mathlib.Omega.{arith}
use Rattle.output_scan.proofs.Layouts.{lead_below}
use Rattle.output_scan.proofs.Least.{too_short}
use Rattle.output_scan.proofs.Records.{cut_field, stopped, at_limit}
use Rattle.output_scan_one.proofs.Alone.{Stepped, short_step, long_step, alone_passed}
use Rattle.output_scan_one.proofs.Alone.{prefix_missing, content_missing}
use Rattle.output_scan_one.proofs.scan_one_variable.Goals as goal
use Rattle.output_scan_one.proofs.scan_one_variable.Goals.{else-loop-records-test, then-loop-records-test+then-rest-least}
use Rattle.output_scan_one.proofs.scan_one_variable.Goals.{then-loop-records-test+else-rest-least+then-content-eq255+then-rest-least-lt2}
use Rattle.output_scan_one.proofs.scan_one_variable.Goals.{then-loop-records-test+else-rest-least+then-rest-step}
use Rattle.output_scan_one.proofs.scan_one_variable.Goals.{then-content-eq255+else-rest-least-lt2, else-content-eq255}

pub loop-records-preserved : goal.loop-records-preserved
loop-records-preserved c =
    let first : c.args.lead < c.args.framing.least = omega (arith, lead_below _ c.requires, c.args.framing.sized) in
    let stepped : Stepped c.loop-records.rest.now c.args.lead c.args.framing.least c.if-content-eq255.step
    c.if-content-eq255.content =
    elim c.if-content-eq255.branch [
      | then-content-eq255+else-rest-least-lt2 w ↦
          long_step _ _ _ first w.if-rest-least-lt2.false c.first_byte-content.ensures.0
          w.if-content-eq255.true w.long_length-content.ensures.0 w.content-is w.step-is
      | else-content-eq255 w ↦
          short_step _ _ _ first c.if-rest-least.false c.first_byte-content.ensures.0
          c.first_byte-content.ensures.1 w.if-content-eq255.false w.content-is w.step-is
    ] in
    alone_passed _ _ c.loop-records.rest.now c.loop-records.invariant c.requires c.args.framing.sized
    c.if-rest-least.false stepped c.loop-records-test.true c.if-rest-step.false

pub returns : goal.returns
returns c =
    sym
    (elim c.loop-records-test.branch [
      | else-loop-records-test w ↦ at_limit c.loop-records.invariant.passed w.loop-records-test.false
      | then-loop-records-test+then-rest-least w ↦
          stopped c.loop-records.invariant.passed w.loop-records-test.true
          (cut_field _ _ _ (too_short _ _ _ (omega (arith, c.args.framing.sized, w.if-rest-least.true))))
      | then-loop-records-test+else-rest-least+then-content-eq255+then-rest-least-lt2 w ↦
          stopped c.loop-records.invariant.passed w.loop-records-test.true
          (prefix_missing _ c.requires c.args.framing.sized c.loop-records.rest.now w.if-rest-least.false
          w.first_byte-content.ensures.0 w.if-content-eq255.true w.if-rest-least-lt2.true)
      | then-loop-records-test+else-rest-least+then-rest-step w ↦
          let first : c.args.lead < c.args.framing.least =
          omega (arith, lead_below _ c.requires, c.args.framing.sized) in
          let stepped : Stepped c.loop-records.rest.now c.args.lead c.args.framing.least w.if-content-eq255.step
          w.if-content-eq255.content =
          elim w.if-content-eq255.branch [
            | then-content-eq255+else-rest-least-lt2 v ↦
                long_step _ _ _ first v.if-rest-least-lt2.false w.first_byte-content.ensures.0
                v.if-content-eq255.true v.long_length-content.ensures.0 v.content-is v.step-is
            | else-content-eq255 v ↦
                short_step _ _ _ first w.if-rest-least.false w.first_byte-content.ensures.0
                w.first_byte-content.ensures.1 v.if-content-eq255.false v.content-is v.step-is
          ] in
          stopped c.loop-records.invariant.passed w.loop-records-test.true
          (content_missing _ _ c.loop-records.rest.now c.loop-records.invariant c.requires c.args.framing.sized
          w.if-rest-least.false stepped w.if-rest-step.true)
    ])

use mathlib.Core.Path.{refl}
use Rattle.std.proofs.Common.{of_calls, arith, List, ℕ, ◌≡◌, ◌+◌, ◌-◌, ◌*◌, ◌<◌, ◌^◌}
use Rattle.config.specs.Limits.{record_words}
use Rattle.table.specs.Layout.{word}
use Rattle.table_records.specs.Passes.{TellsPositions}
use Rattle.table_records.proofs.ClosesIndex.{told_some, told_none, below_stored, none_remapped, index_dropped, index_moved, all_remapped}
use Rattle.table_records.proofs.index.close_index.Goals as goal
use Rattle.table_records.proofs.index.close_index.Goals.{in-Some, in_default}

pub loop-k-init : goal.loop-k-init
loop-k-init g c = record {
  few = omega arith;
  passed = λ ps tells.
      (λ j. (c.type_inv.words j).fits, none_remapped _ _ _ _ (omega arith) (omega arith));
}

pub loop-k-preserved : goal.loop-k-preserved
loop-k-preserved g c =
    let i = c.loop-k.k in
    let inv = c.loop-k.invariant in
    let more : 0 < c.args.records - i = omega arith in
    let less : c.args.records - (i + 1) ≡ c.args.records - i - 1 = omega arith in
    let next : c.args.from + record_words * (i + 1) ≡ c.args.from + record_words * i + record_words = omega arith in
    let at : ℕ = c.args.from + record_words * i + 3 in
    let told = λ (ps : List ℕ) (tells : TellsPositions (goal.F-post g c.args.moved) ps).
    tells (word c.loop-k.words at) c.moved.result ((inv.passed ps tells).0 at) (search of_calls) in
    elim c.match-moved.branch [
      | in-Some u ↦
          let put = c.args.from + record_words * c.loop-k.remain + 3 in
          rw (u.words-is, u.remain-is) record {
            few = omega arith;
            passed = λ ps tells.
                let is = told_some _ u.in-Some.position (told ps tells) u.in-Some.is in
                let fit = below_stored c.loop-k.words put u.in-Some.position (2 ^ 64) (omega arith)
                (omega (arith, is.1)) (inv.passed ps tells).0 in
                (fit, index_moved (inv.passed ps tells).1 _ more is.0 less next c.requires.records_in_bounds is.1);
          }
      | in_default u ↦ rw (u.words-is, u.remain-is) record {
        few = omega arith;
        passed = λ ps tells.
            let none = told_none _ (told ps tells) u.in_default.is in
            ((inv.passed ps tells).0, index_dropped (inv.passed ps tells).1 _ more refl less next none);
      }
    ]

pub returns : goal.returns
returns g c = λ ps tells. all_remapped (c.loop-k.invariant.passed ps tells).1 (omega arith)

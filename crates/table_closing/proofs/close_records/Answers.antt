use Rattle.std.proofs.Common.{◌≡◌, ◌≤◌, ◌<◌, ◌+◌, ◌-◌, ◌*◌, arith}
use Rattle.config.specs.Limits.{record_words}
use mathlib.Core.Path.{◌∙◌}
use borrow.Author.Rules.{rules}
use Rattle.table_records.proofs.ClosesRecords.{none_closed, record_closed, record_moved, all_closed}
use Rattle.table_closing.proofs.close_records.Goals as goal
use Rattle.table_closing.proofs.close_records.Goals.{else-count-gt0, then-count-gt0}

pub loop-i-init : goal.loop-i-init
loop-i-init c = none_closed _ _ _ _ _ (search rules) (omega arith) (omega arith)

pub loop-i-preserved : goal.loop-i-preserved
loop-i-preserved c =
    let i = c.loop-i.i in
    let more : 0 < c.args.records - i = omega arith in
    let less : c.args.records - (i + 1) ≡ c.args.records - i - 1 = omega arith in
    let next : c.args.from + record_words * (i + 1) ≡ c.args.from + record_words * i + record_words = omega arith in
    elim c.if-count-gt0.branch [
      | then-count-gt0 u ↦ rw (u.words-is ∙ u.put_record.ensures, u.positions-is, u.remain-is)
          (search (record_moved, rules))
      | else-count-gt0 u ↦ rw (u.words-is, u.positions-is, u.remain-is) (search (record_closed, rules))
    ]

pub returns : goal.returns
returns c = let none : c.args.records - c.loop-i.i ≤ 0 = omega arith in search (all_closed, rules)

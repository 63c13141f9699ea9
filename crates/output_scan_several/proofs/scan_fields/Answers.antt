use borrow.Author.Rules.{rules}
use mathlib.Core.Path.{sym}
use native.Mathlib.Omega.{arith}
use Rattle.output_scan.proofs.Least.{too_short}
use Rattle.output_scan.proofs.Records.{cut_field, record_passed}
use Rattle.output_scan.proofs.Records.{stopped, at_limit}
use Rattle.output_scan.proofs.Spare.{some_inside, fixed_spared, short_spared}
use Rattle.output_scan.proofs.Spare.{short_cut, long_inside, prefix_cut, long_spared, long_cut}
use Rattle.output_scan.proofs.Spare.{all_spared, rest_spared}
use Rattle.output_scan_several.proofs.scan_fields.Goals as goal

pub fields-preserved-then-width : goal.fields-preserved-then-width
fields-preserved-then-width c = search (fixed_spared, rules)

pub first_byte-short-requires : goal.first_byte-short-requires
first_byte-short-requires c = search (some_inside, rules)

pub fields-preserved-then-short-lt255 : goal.fields-preserved-then-short-lt255
fields-preserved-then-short-lt255 c = search (short_spared, rules)

pub long_length-long-requires : goal.long_length-long-requires
long_length-long-requires c = search (long_inside, rules)

pub fields-preserved : goal.fields-preserved
fields-preserved c = search (long_spared, rules)

pub records-preserved : goal.records-preserved
records-preserved c =
    record_passed c.records.invariant c.records-test.true
    (all_spared c.fields.invariant c.fields-test.false (omega (arith, c.args.framing.sized, c.args.framing.some)))
    (rest_spared c.fields.invariant c.fields-test.false)

pub returns-after-records : goal.returns-after-records
returns-after-records c = sym (search (at_limit, rules))

pub returns-then-rest-least : goal.returns-then-rest-least
returns-then-rest-least c =
    sym (stopped c.records.invariant c.records-test.true
    (cut_field _ _ _ (too_short _ _ _ (omega (arith, c.args.framing.sized)))))

pub returns-then-next-short : goal.returns-then-next-short
returns-then-next-short c = sym (search (stopped, cut_field, short_cut, rules))

pub returns-then-next-lt2 : goal.returns-then-next-lt2
returns-then-next-lt2 c = sym (search (stopped, cut_field, prefix_cut, rules))

pub returns-then-next-long : goal.returns-then-next-long
returns-then-next-long c = sym (search (stopped, cut_field, long_cut, rules))

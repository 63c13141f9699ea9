use Prim.Native.Nat.{◌-◌}
use Rattle.wire.specs.declared.Reading.TheVariants.{IpfixVariable}
use Rattle.output_scan.proofs.Records.{RecordsPassed}
use Rattle.output_scan.proofs.Spare.{FieldsSpared}
use Rattle.output_scan_several.proofs.scan_fields.Given as goal

abbrev pub invariant-fields : goal.invariant-fields
invariant-fields l = FieldsSpared l.rest l.framing.widths.now l.next l.at l.prefixes l.width-index

abbrev pub invariant-records : goal.invariant-records
invariant-records l = RecordsPassed l.body l.framing.widths.now IpfixVariable l.framing.max_records l.rest l.records l.payload

abbrev pub decreases-records : goal.decreases-records
decreases-records l = l.framing.max_records - l.records

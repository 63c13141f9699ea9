-- The limits call (document 01, numbers 9, 10 and 11).
use Rattle.std.specs.Prelude.{cond, [], ◌∷◌, ℕ, ◌*◌, eqb, Result, Ok, Err}
use Rattle.output_preflight.specs.declared.FieldValues.{FieldValues}
use Rattle.output_preflight.specs.declared.PayloadBytes.{PayloadBytes}
use Rattle.output_limits.specs.declared.DecodedOutputLimits.{DecodedOutputLimits}
use Rattle.output_limits.specs.declared.LimitsRefusal.{LimitsRefusal}
use Rattle.output_limits.specs.declared.LimitsRefusal.TheVariants as Refusal
use Rattle.output_budget.specs.Told.{Told, refusal}

-- the limits unless configured: 1,024 records of a flow set, 65,536 field values and 4 MiB of payload of a message
abbrev pub default_limits : DecodedOutputLimits
default_limits = record {
  max_records = 1024;
  max_field_values = record { 0 = 65536 };
  max_field_payload_bytes = record { 0 = 4 * 1024 * 1024 };
}

-- the limits are taken, and told again
abbrev pub accepted : ℕ → FieldValues → PayloadBytes → Told
accepted records values payload = record { number = 0; values = records ∷ values.0 ∷ payload.0 ∷ [] }

-- document 01's number of each refusal
abbrev pub number_of : LimitsRefusal → ℕ
number_of Refusal.ZeroRecords = 9
number_of Refusal.ZeroFieldValues = 10
number_of Refusal.ZeroPayloadBytes = 11

-- what each answer tells
abbrev pub told_of_limits : Result DecodedOutputLimits LimitsRefusal → Told
told_of_limits (Ok l) = accepted l.max_records l.max_field_values l.max_field_payload_bytes
told_of_limits (Err r) = refusal (number_of r)

-- document 01's 9, 10 and 11: a record, field-value or payload-byte limit of 0, in this order
unfoldable pub limits_told : ℕ → FieldValues → PayloadBytes → Told
limits_told records values payload =
    cond (eqb records 0) (refusal 9)
    (cond (eqb values.0 0) (refusal 10)
    (cond (eqb payload.0 0) (refusal 11)
    (accepted records values payload)))

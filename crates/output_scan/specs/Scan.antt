-- The whole records at the front of a body, in any of the three readings (document 01, "Framing and cost").
use Rattle.std.specs.Prelude.{cond, List, [], ◌∷◌, ℕ, zero, suc, ◌+◌, ◌*◌, ◌-◌, ◌/◌, min, length, drop, ltb}
use Rattle.wire.specs.declared.Reading.{Reading}
use Rattle.wire.specs.declared.Reading.TheVariants.{IpfixVariable}
use Rattle.output_scan.specs.declared.Scanned.{Scanned}
use Rattle.output_fields.specs.declared.VariableFraming.{VariableFraming}
use Rattle.output_fields.specs.Field.{Span, Whole, Cut, field_of}

-- a span behind one of so many bytes, n of them content
abbrev pub behind : ℕ → ℕ → Span → Span
behind s n (Whole s' n') = Whole (s + s') (n + n')
behind s n Cut = Cut

-- one span, and then what starts where it ends
abbrev pub followed_by : Span → (ℕ → Span) → Span
followed_by (Whole s n) rest = behind s n (rest s)
followed_by Cut rest = Cut

-- the fields of a record, one after the other
unfoldable pub fields_of : List ℕ → List ℕ → Reading → Span
fields_of bytes [] r = Whole 0 0
fields_of bytes (w ∷ ws) r = followed_by (field_of bytes w r) (λ s. fields_of (drop s bytes) ws r)

-- a span that takes at least one byte
abbrev pub consuming : Span → Span
consuming (Whole s n) = cond (ltb 0 s) (Whole s n) Cut
consuming Cut = Cut

-- a whole record at the front of the bytes. One that takes nothing is none, as in the Rust's `scan_variable_record`: it
-- has least size 0, so no answer depends on it, and the scan is bounded by the body
unfoldable pub record_of : List ℕ → List ℕ → Reading → Span
record_of bytes ws r = consuming (fields_of bytes ws r)

-- a whole record of a body: where it starts, its size with prefixes, and its payload without
pub record RecordSpan : Type 0 where
  pub place : ℕ
  pub size : ℕ
  pub payload : ℕ

-- a record at a place, and those that start where it ends; none where it is cut
abbrev pub record_then : ℕ → Span → (ℕ → List RecordSpan) → List RecordSpan
record_then at (Whole s n) next = record { place = at; size = s; payload = n } ∷ next s
record_then at Cut next = []

-- the whole records of the bytes that stand at a place, at most so many: the scan stops before a record that is cut
unfoldable pub records_from : ℕ → List ℕ → List ℕ → Reading → ℕ → List RecordSpan
records_from at bytes ws r zero = []
records_from at bytes ws r (suc k) = record_then at (record_of bytes ws r) (λ s. records_from (at + s)
    (drop s bytes) ws r k)

-- the whole records of a body
abbrev pub records_of : List ℕ → List ℕ → Reading → ℕ → List RecordSpan
records_of body ws r limit = records_from 0 body ws r limit

-- figures with so many records and bytes of payload more
abbrev pub more : ℕ → ℕ → Scanned → Scanned
more k n x = record { records = k + x.records; payload = n + x.payload; remainder = x.remainder }

-- the figures of records: their number, their payload, and what they leave of so many bytes
unfoldable pub figures : List RecordSpan → ℕ → Scanned
figures [] left = record { records = 0; payload = 0; remainder = left }
figures (x ∷ xs) left = more 1 x.payload (figures xs (left - x.size))

-- document 01's scan of a body: records, payload, remainder
unfoldable pub scan_of : List ℕ → List ℕ → Reading → ℕ → Scanned
scan_of body ws r limit = figures (records_of body ws r limit) (length body)

-- in the variable reading, as the records are framed
abbrev pub variable_scan_of : List ℕ → VariableFraming → Scanned
variable_scan_of body f = scan_of body f.widths.now IpfixVariable f.max_records

-- the same figures where every record has one size, from the body's length alone: "records are the whole ones, at most
-- the record limit"
abbrev pub fixed_scan_of : ℕ → ℕ → ℕ → Scanned
fixed_scan_of bodyLength size limit =
    let k = min (bodyLength / size) limit in
    record { records = k; payload = k * size; remainder = bodyLength - k * size }

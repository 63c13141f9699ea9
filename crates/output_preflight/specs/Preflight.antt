-- The preflight of a body: its cost, or document 01's number of the refusal.
use Rattle.std.specs.Prelude.{cond, List, ℕ, ◌*◌, length, ltb, leb, Result, Ok, Err}
use Rattle.wire.specs.declared.Reading.{Reading}
use Rattle.wire.specs.Size.{least_size}
use Rattle.wire.specs.Padding.{is_complete}
use Rattle.output_scan.specs.declared.Scanned.{Scanned}
use Rattle.output_preflight.specs.declared.Figures.{Figures}
use Rattle.output_preflight.specs.declared.Refusal.{Refusal}
use Rattle.output_preflight.specs.declared.Refusal.TheVariants.{ZeroRecordLimit, Oversized, Invalid}
use Rattle.output_preflight.specs.declared.PendingOutputPreflight.{PendingOutputPreflight}
use Rattle.output_scan.specs.Scan.{scan_of}

-- what document 01 fixes: the cost in field values and payload bytes with the remainder's length, or a number
pub data Answer : Type 0 where
  cost : ℕ → ℕ → ℕ → Answer
  number : ℕ → Answer

-- document 01's number of each refusal
abbrev pub number_of : Refusal → ℕ
number_of ZeroRecordLimit = 9
number_of Oversized = 12
number_of Invalid = 7

-- document 01's number and values of each case of the answer
abbrev pub answer_of : Result PendingOutputPreflight Refusal → Answer
answer_of (Ok p) = cost p.field_values.0 p.field_payload_bytes.0 p.remainder_len
answer_of (Err n) = number (number_of n)

-- an answer in numbers: 0 with the cost, or the number with zeros
abbrev pub figures_of : Answer → Figures
figures_of (cost v p m) = record { number = 0; values = v; payload = p; remainder = m }
figures_of (number n) = record { number = n; values = 0; payload = 0; remainder = 0 }

-- a scan of records with so many fields: records × fields, the payload, the remainder; 7 where the body is not complete
abbrev pub cost_of : Scanned → ℕ → ℕ → Reading → Answer
cost_of x fields least r =
    cond (is_complete x.records x.remainder least r) (cost (x.records * fields) x.payload x.remainder)
    (number 7)

-- valid needs at least one width and a nonzero least size, besides a complete body
abbrev pub framed : List ℕ → List ℕ → Reading → ℕ → Answer
framed body ws r limit =
    cond (ltb 0 (length ws))
    (cond (ltb 0 (least_size ws r)) (cost_of (scan_of body ws r limit) (length ws) (least_size ws r) r) (number 7))
    (number 7)

-- the tests in document 01's order: 9, 12, 7
unfoldable pub preflight_of : List ℕ → List ℕ → Reading → ℕ → Answer
preflight_of body ws r limit =
    cond (ltb 0 limit)
    (cond (leb (length body) 65531) (cond (leb (length ws) 65535) (framed body ws r limit) (number 12)) (number 12))
    (number 9)

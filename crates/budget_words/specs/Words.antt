-- A budget as seven words: limits, use and recorded excess. Every content of the words is a budget. And a call's answer
-- as a number and words.
use Rattle.std.specs.Prelude.{◌≡◌, cond, List, [], ◌∷◌, ℕ, eqb, get_or, Option, Some, None, Result, Ok, Err}
use Rattle.output_preflight.specs.declared.PendingOutputPreflight.{PendingOutputPreflight}
use Rattle.output_preflight.specs.declared.Refusal.{Refusal}
use Rattle.output_preflight.specs.declared.Refusal.TheVariants.{Invalid}
use Rattle.output_budget.specs.declared.DecodedOutputBudget.{DecodedOutputBudget}
use Rattle.output_budget.specs.declared.DecodedOutputLimit.{DecodedOutputLimit}
use Rattle.output_budget.specs.declared.DecodedOutputLimit.TheVariants as Limit
use Rattle.output_budget.specs.declared.OutputBudgetExceeded.{OutputBudgetExceeded}
use Rattle.output_budget.specs.Told.{Told}
use Rattle.output_budget.specs.Budget.{limit_of}

-- word i of an array
abbrev pub word : List ℕ → ℕ → ℕ
word w i = get_or w i 0

-- an excess by its limit
abbrev pub excess_of : DecodedOutputLimit → ℕ → ℕ → Option OutputBudgetExceeded
excess_of limit configured attempted =
    Some (record { limit = limit; configured = configured; attempted = attempted })

-- the recorded excess: 1 of the field values, 2 of the payload bytes; any other number is read as none
abbrev pub exceeded_of : ℕ → ℕ → ℕ → Option OutputBudgetExceeded
exceeded_of which configured attempted =
    cond (eqb which 1) (excess_of Limit.FieldValues configured attempted)
    (cond (eqb which 2) (excess_of Limit.FieldPayloadBytes configured attempted)
    None)

-- the budget that seven words stand for: both limits, both counts in use, the recorded excess
unfoldable pub budget_of : List ℕ → DecodedOutputBudget
budget_of w = record {
  max_values = record { 0 = word w 0 };
  max_payload_bytes = record { 0 = word w 1 };
  used_values = record { 0 = word w 2 };
  used_payload_bytes = record { 0 = word w 3 };
  exceeded = exceeded_of (word w 4) (word w 5) (word w 6);
}

-- the words of a recorded excess: 0, 0, 0 for none
abbrev pub words_of_exceeded : Option OutputBudgetExceeded → List ℕ
words_of_exceeded None = 0 ∷ 0 ∷ 0 ∷ []
words_of_exceeded (Some e) = limit_of e.limit ∷ e.configured ∷ e.attempted ∷ []

-- the words of a budget
unfoldable pub words_of : DecodedOutputBudget → List ℕ
words_of b =
    b.max_values.0 ∷ b.max_payload_bytes.0 ∷ b.used_values.0 ∷ b.used_payload_bytes.0
    ∷ words_of_exceeded b.exceeded

-- field values, payload bytes and remainder of three words
abbrev pub cost_of : List ℕ → PendingOutputPreflight
cost_of w = record {
  field_values = record { 0 = word w 0 };
  field_payload_bytes = record { 0 = word w 1 };
  remainder_len = word w 2;
}

-- a preflight as it was handed over: 0 with a cost; to the budget every other number is the same refusal
unfoldable pub preflight_by : ℕ → List ℕ → Result PendingOutputPreflight Refusal
preflight_by number w = cond (eqb number 0) (Ok (cost_of w)) (Err Invalid)

-- a decoder's report: 0 is failure, and the words are not read
unfoldable pub report_by : ℕ → List ℕ → Option PendingOutputPreflight
report_by success w = cond (eqb success 0) None (Some (cost_of w))

-- the values of an answer stand where there are any; else the words stay
abbrev pub written_over : List ℕ → List ℕ → List ℕ
written_over [] words = words
written_over (v ∷ vs) words = v ∷ vs

-- an answer handed over: its number is returned, its values are written. A call without values has no words for them.
pub record Answers (t : Told) (r : ℕ) (words words' : List ℕ) : Type 0 where
  pub returned : r ≡ t.number
  pub written : words' ≡ written_over t.values words

-- an answer handed over, and the budget after the call
pub record Changes (t : Told) (b : DecodedOutputBudget) (r : ℕ) (words words' budget' : List ℕ) : Type 0 where
  pub answer : Answers t r words words'
  pub after : budget' ≡ words_of b

-- the same of a call that is refused without a trace: document 01 has it leave the words as they were
pub record ChangesUnlessRefused
    (t : Told) (b : DecodedOutputBudget) (r : ℕ) (words words' budget budget' : List ℕ) : Type 0 where
  pub answer : Answers t r words words'
  pub after : budget' ≡ cond (eqb t.number 0) (words_of b) budget

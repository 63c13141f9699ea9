-- A call's promise says that its answer is the definition's: so is the number handed over, and so are the values.
-- Assumes nothing.
use Rattle.std.proofs.Common.{Result, Ok, Err}
use Rattle.std.specs.Prelude.{⊤, MatchResult}
use Rattle.config.specs.declared.ConfigRefusal.{ConfigRefusal}
use mathlib.Core.Path.{◌≡◌, refl, ap, subst, ◌∙◌}
use mathlib.Core.List.{List}
use Prim.Native.Nat.{ℕ}
use Rattle.config.specs.declared.PendingFlowsConfig.{PendingFlowsConfig}
use Rattle.config.specs.Limits.{answer_number, refusal_number}
use Rattle.cache_model.specs.Cache.{Cache, Answer}
use Rattle.pending_flows.specs.View.{Areas}
use Rattle.pending_flows.specs.Opening.{Opens, opening_answer}
use Rattle.pending_queries.specs.Queries.{Asks}
use Rattle.export_queries.specs.Exports.{exported_number, Exported, Exports, ExportsValues}
use Rattle.export_queries.specs.Exports.{ExportsOpen, ExportsQuery}

pub exports : {A : Type 0} {Promise : A → Type 0} {answer meant : Answer} {r : ℕ} (x : A) → Promise x → meant ≡ answer →
    r ≡ exported_number meant → Exports answer Promise r
exports x p e n = record { returned = n ∙ ap exported_number e; called_answer = x; promise = p }

pub exports_values : {A : Type 0} {Promise : A → Type 0} {answer meant : Answer} {r : ℕ} {vs vs' : List ℕ} (x : A) →
    Promise x → meant ≡ answer → Exported meant r vs vs' → ExportsValues answer Promise r vs vs'
exports_values {r = r} {vs = vs} {vs' = vs'} x p e h =
    record { exported = subst (λ (y : Answer). Exported y r vs vs') e h; called_answer = x; promise = p }

-- the number of an answer without a value
abbrev pub NumberIs : {E : Type 0} → (E → ℕ) → Result ⊤ E → ℕ → Type 0
NumberIs number_of x r = MatchResult x (λ _. r ≡ 0) (λ e. r ≡ number_of e)

-- the number of an answer with a count, and the count before and after
abbrev pub CountIs : {E : Type 0} → (E → ℕ) → Result ℕ E → (r v v' : ℕ) → Type 0
CountIs number_of x r v v' = MatchResult x (λ n. (r ≡ 0) × (v' ≡ n)) (λ e. (r ≡ number_of e) × (v' ≡ v))

pub limits_number_is : (x : Result ⊤ ConfigRefusal) {r : ℕ} → NumberIs refusal_number x r → r ≡ answer_number x
limits_number_is (Ok tt) h = h
limits_number_is (Err n) h = h

opening_number_lem : (x : Result ⊤ ConfigRefusal) → answer_number x ≡ exported_number (opening_answer x)
opening_number_lem (Ok tt) = refl
opening_number_lem (Err n) = refl

pub exports_open : {l : PendingFlowsConfig} {a a' : Areas} {x : Result ⊤ ConfigRefusal} {r : ℕ} → Opens l a x a' →
    NumberIs refusal_number x r → ExportsOpen l a r a'
exports_open {x = x} p n = exports x p p.answer (limits_number_is x n ∙ opening_number_lem x)

pub exports_query : {question : Cache → Answer} {a a' : Areas} {x : Answer} {r : ℕ} {vs vs' : List ℕ} →
    Asks question a x a' → Exported x r vs vs' → ExportsQuery question a r a' vs vs'
exports_query {x = x} p h = exports_values x p p.answer h

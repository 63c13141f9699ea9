-- What a line comes to, from what its calls promise. Assumes nothing.
use Rattle.table.specs.declared.Damaged.{Damaged}
use Rattle.pending_offer.specs.declared.offering.OfferRefusal.{OfferRefusal}
use Rattle.std.proofs.Common.{Result, Ok, Err}
use mathlib.Core.Path.{◌≡◌, refl, sym, ap, ◌∙◌}
use mathlib.Core.Bool.{Bool}
use mathlib.Core.List.{List}
use mathlib.Core.Option.{Option, none, some}
use Prim.Native.Nat.{ℕ}
use native.Mathlib.Omega.{arith}
use Rattle.std.specs.Prelude.{⊤, Option as Parsed}
use Rattle.pendlist_commands.specs.declared.Command.{Command}
use Rattle.pendlist_lines.specs.Grammar.{line_of, in_order}
use Rattle.pendlist_input.specs.Body.{ramp}
use Rattle.cache_model.specs.Cache.{Cache, Figures, number, tells}
use Rattle.cache_model.specs.Offer.{offered}
use Rattle.cache_model.specs.Queries.{figures}
use Rattle.pending_flows.specs.View.{Areas}
use Rattle.pending_queries.specs.Queries.{asked, figures_record, figures_answer}
use Rattle.pending_queries.specs.declared.CacheFigures.{CacheFigures}
use Rattle.pending_calls.specs.Promises.{Performs}
use Rattle.pending_offer.specs.Promises.{body_of, Offers, offer_answer}
use Rattle.pendlist_rows.specs.declared.Outcome.{Outcome}
use Rattle.pendlist_rows.specs.declared.Outcome.TheVariants.{Told, Bad}
use Rattle.pendlist_calls.specs.Steps.{row_of, row_after, Steps, RunsLine}

-- The figures after a call.
module _ (letter n : ℕ) (v : Option Cache) {r : Result CacheFigures Damaged}
    (answered : figures_answer r ≡ asked (λ c. tells (figures c)) v) where
  pub row_told : {f : CacheFigures} → r ≡ Ok f → Told (row_of letter n (figures_record f)) ≡ row_after letter
      n v
  unfolding row_after
  row_told {f} e = by_view v answered
    where
      by_view : (w : Option Cache) → figures_answer r ≡ asked (λ c. tells (figures c)) w →
          Told (row_of letter n (figures_record f)) ≡ row_after letter n w
      by_view none a = let z : tells (figures_record f) ≡ number 28 = sym (ap figures_answer e) ∙ a in
          let y : ◌≡◌ {A = ℕ} 0 1 = cc in absurd (omega arith)
      by_view (some c) a =
          let z : tells (figures_record f) ≡ tells (figures c) = sym (ap figures_answer e) ∙ a in
          let y : figures_record f ≡ figures c = cc in
          ap (λ (g : Figures). Told (row_of letter n g)) y

  pub no_row : r ≡ Err (record {}) → Bad ≡ row_after letter n v
  unfolding row_after
  no_row e = by_view v answered
    where
      by_view : (w : Option Cache) → figures_answer r ≡ asked (λ c. tells (figures c)) w → Bad ≡ row_after letter n w
      by_view none a = refl
      by_view (some c) a = let z : number 28 ≡ tells (figures c) = sym (ap figures_answer e) ∙ a in
          let y : ◌≡◌ {A = ℕ} 0 1 = cc in absurd (omega arith)

-- A line that was read, put in order, and is known to say this.
module _ (opened : Bool) (line : List ℕ) {read wanted : Parsed Command} (parsed : read ≡ line_of line)
    (ordered : wanted ≡ in_order opened read) {a : Areas} where
  pub line_run : {x : Parsed Command} {a' : Areas} {r : Outcome} → wanted ≡ x → Steps x a r a' → RunsLine opened line a r a'
  line_run {x} e done =
      let is : in_order opened (line_of line) ≡ x = rw (← parsed) (sym ordered ∙ e) in
      rw is done

-- The body that is offered is the one that was filled, as long as the line says.
pub filled_offered : (n : ℕ) {id now : ℕ} {body : List ℕ} {a a' : Areas} {r : Result ⊤ OfferRefusal} →
    body ≡ ramp 0 n → Offers id body now a r a' → Performs (offered id (body_of (ramp 0 n) now)) a (offer_answer r) a'
filled_offered n e done = rw e at done.performs

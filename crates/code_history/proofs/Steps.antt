-- What the functions promise of a step is what the history theorem asks of it, and the areas keep their lengths.
-- Assumes nothing.
use Rattle.std.proofs.Common.{Result, Ok, Err}
use Rattle.std.specs.Prelude.{⊤}
use mathlib.Core.Path.{◌≡◌, refl, sym, ap, ◌∙◌}
use mathlib.Core.Logic.{◌≢◌}
use mathlib.Core.Bool.{Bool, true, false}
use Prim.Native.Nat.{ℕ}
use native.Mathlib.Omega.{arith}
use lib.Dec.{eqb}
use lib.ListN.{length}
use borrow.Author.Tests.{eqb-true, ne_eqb}
use Rattle.config.specs.declared.PendingFlowsConfig.{PendingFlowsConfig}
use Rattle.config.specs.declared.ConfigRefusal.{ConfigRefusal}
use Rattle.config.specs.declared.ConfigRefusal.TheVariants as Refusal
use Rattle.config.specs.Limits.{refusal_number, answer_number}
use Rattle.cache_model.specs.Cache.{Answer, done, number, shows}
use Rattle.cache_model.specs.Calls.{opened}
use Rattle.cache_model.specs.Queries.{read_handed_out}
use Rattle.cache_model.specs.History.{does}
use Rattle.cache_model.specs.Reply.{opening}
use Rattle.history.specs.Account.{Opening, opening_number, Event}
use Rattle.history.specs.Claim.{EventPromised, OpeningPromised}
use Rattle.pending_flows.specs.View.{Areas}
use Rattle.pending_flows.specs.Opening.{Opens, opening_answer}
use Rattle.code_history.specs.Runs.{opening_of, Step}
use Rattle.code_history.proofs.Views.{areas, view_read, view_says, promised, asked_promised}

-- ---- openings

accepted_number : (r : Result ⊤ ConfigRefusal) → opening_answer r ≡ done → answer_number r ≡ 0
accepted_number (Ok tt) e = refl
accepted_number (Err n) e = cc

refused_number : (r : Result ⊤ ConfigRefusal) (n : ℕ) → opening_answer r ≡ number n → answer_number r ≡ n
refused_number (Ok tt) n e = cc
refused_number (Err m) n e = cc

-- an opening with these limits in these areas
module _ (l : PendingFlowsConfig) (a : Areas) where
  -- 1 to 5 where the limits are refused in these areas, else 0
  abbrev number_in : ℕ
  number_in = opening_number (opening_of l a)

  module _ {a' : Areas} {r : Result ⊤ ConfigRefusal} (p : Opens l a r a') where
    -- what `open` returned is that number
    pub opening_number_lem : answer_number r ≡ number_in
    unfolding opening
    opening_number_lem = by_test (eqb number_in 0) refl
      where
        by_test : (v : Bool) → eqb number_in 0 ≡ v → answer_number r ≡ number_in
        by_test true t = accepted_number r (p.answer ∙ rw t) ∙ sym (eqb-true number_in 0 t)
        by_test false t = refused_number r number_in (p.answer ∙ rw t)

    pub opening_promised : OpeningPromised areas (opening_of l a) a a' (opening_answer r)
    unfolding opening
    opening_promised = record {
      refused = λ ne. (p.answer ∙ rw (ne_eqb number_in 0 ne), p.refused (λ z. ne (sym opening_number_lem ∙ z)));
      opens = λ z.
          let held = view_says a' {c = opened l} (p.holds ∙ rw z) in
          (p.answer ∙ rw z, held.0, held.1);
    }

pub refusal_not_zero : (n : ConfigRefusal) → refusal_number n ≢ 0
refusal_not_zero Refusal.NoTemplates e = omega (arith, e)
refusal_not_zero Refusal.NoEntries e = omega (arith, e)
refusal_not_zero Refusal.EntrySize e = omega (arith, e)
refusal_not_zero Refusal.TotalBytes e = omega (arith, e)
refusal_not_zero Refusal.Areas e = omega (arith, e)

-- ---- steps

-- the areas are as long as they were when the cache was opened
abbrev pub Own : Opening → Areas → Type 0
Own o a = o ≡ opening_of o.limits a

module _ (o : Opening) (a a' : Areas) where
  pub same_lengths : length a'.bytes ≡ length a.bytes → length a'.words ≡ length a.words → Own o a
      → Own o a'
  same_lengths b w e = e ∙ rw (b, w)

  unchanged_lengths : a' ≡ a → Own o a → Own o a'
  unchanged_lengths e own = rw e own

  pub step_lengths : {e : Event} {r : Answer} → Step a a' e r → Own o a → Own o a'
  step_lengths (Step.offers r p) = same_lengths p.frame.bytes_long p.frame.words_long
  step_lengths (Step.drains r p) = same_lengths p.frame.bytes_long p.frame.words_long
  step_lengths (Step.puts_back r p) = same_lengths p.frame.bytes_long p.frame.words_long
  step_lengths (Step.resizes r p) = same_lengths p.frame.bytes_long p.frame.words_long
  step_lengths (Step.clears r p) = same_lengths p.frame.bytes_long p.frame.words_long
  step_lengths (Step.asks r p) = unchanged_lengths p.unchanged
  step_lengths (Step.reads bs p) = unchanged_lengths p.unchanged
  step_lengths (Step.places r p) = unchanged_lengths p.unchanged
  step_lengths (Step.takes_figures r p) = unchanged_lengths p.unchanged
  step_lengths (Step.refuses_opening n p) = same_lengths (ap length p.bytes) p.long

  pub step_promised : {e : Event} {r : Answer} → Step a a' e r → Own o a
      → EventPromised areas o e a a' r
  unfolding does read_handed_out
  step_promised (Step.offers r p) own = (tt, promised p.performs.answer p.performs.holds)
  step_promised (Step.drains r p) own = (tt, promised p.performs.answer p.performs.holds)
  step_promised (Step.puts_back r p) own = (tt, promised p.performs.answer p.performs.holds)
  step_promised (Step.resizes r p) own = (
    (ap (λ (x : Opening). x.bytes) (sym own), ap (λ (x : Opening). x.words) (sym own)),
    promised p.performs.answer p.performs.holds,
  )
  step_promised (Step.clears r p) own = (tt, promised p.performs.answer p.performs.holds)
  step_promised (Step.asks r p) own =
      (tt, asked_promised (λ c. refl) (λ ok. p.answer ∙ rw (view_read a ok)) p.unchanged)
  step_promised (Step.reads bs p) own =
      (tt, asked_promised (λ c. refl) (λ ok. ap shows p.part ∙ rw (view_read a ok)) p.unchanged)
  step_promised (Step.places r p) own =
      (tt, asked_promised (λ c. refl) (λ ok. p.answer ∙ rw (view_read a ok)) p.unchanged)
  step_promised (Step.takes_figures r p) own =
      (tt, asked_promised (λ c. refl) (λ ok. p.answer ∙ rw (view_read a ok)) p.unchanged)
  step_promised (Step.refuses_opening {l = l} n p) own =
      (λ z. refusal_not_zero n (opening_number_lem l a p ∙ z), opening_promised l a p)

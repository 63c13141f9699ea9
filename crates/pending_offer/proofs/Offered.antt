-- The offer behind the tests of 6 and of 28. Assumes nothing.
use Rattle.std.specs.Prelude.{⊤}
use Rattle.pending_offer.specs.declared.offering.OfferRefusal.{OfferRefusal}
use Rattle.std.proofs.Common.{Result, Ok, Err}
use Rattle.table.specs.declared.Damaged.{Damaged}
use mathlib.Core.Path.{◌≡◌, ap}
use mathlib.Core.Bool.{true}
use mathlib.Core.List.{List}
use Prim.Native.Nat.{ℕ, ◌≤◌, ◌<◌}
use native.Mathlib.Omega.{arith}
use lib.ListN.{length, set}
use Rattle.table.specs.Layout.{limits_of, dropped_word}
use Rattle.table.specs.Table.{table_of}
use Rattle.table.specs.WellFormed.{well_formed}
use Rattle.table.proofs.Facts.{words_say}
use Rattle.table_watch.specs.declared.Sought.TheVariants as Sought
use Rattle.table_watch.specs.declared.LabelSeen.{LabelSeen}
use Rattle.table_check.specs.Examined.{examined}
use Rattle.table_check.proofs.LiveSought.{live_counted}
use Rattle.cache_model.specs.Cache.{Cache, done, number, raised}
use Rattle.cache_model.specs.Offer.{offered}
use Rattle.pending_flows.specs.declared.header.Header.{Header}
use Rattle.pending_flows.specs.View.{Areas, areas_of, cache_of}
use Rattle.pending_flows.specs.Header.{HoldsCache, dropped_at}
use Rattle.pending_flows.proofs.Questions.{seen_damaged, seen_legal, none_unlabelled}
use Rattle.pending_calls.specs.Promises.{Does}
use Rattle.pending_calls.proofs.Performed.{damaged_performs, performed, untouched_all}
use Rattle.offer_plan.specs.Plan.{live_bodies}
use Rattle.pending_offer.specs.declared.offering.OfferRefusal.TheVariants as Refusal
use Rattle.pending_offer.specs.Promises.{body_of, FitsEntry, Offers, DoesOffer}
use Rattle.pending_offer.proofs.TooLong.{too_long_does}

-- a body that is not too long fits in an empty cache
module _ {h : Header} {body w : List ℕ} {n : ℕ} (fits : FitsEntry h body w n) where
  pub fits_small : length body ≤ (limits_of w).max_entry_size_bytes
  fits_small = rw fits.cache.limits at fits.short

  pub size_within : length body ≤ h.limits.max_total_bytes
  size_within = rw fits.cache.limits (omega (
    arith,
    (words_say w n fits.cache.legal).limits_legal_lem.size_within,
    fits_small,
  ))

module _ (i : ℕ) (body : List ℕ) (clock : ℕ) (c : Cache) (a a' : Areas) where
  pub cached_offer : Does (offered i (body_of body clock)) c a done a' → DoesOffer i body clock c a (Ok tt) a'
  cached_offer d = record {
    does = d;
    too_long = λ e. let no : ◌≡◌ {A = ℕ} 0 1 = cc in absurd (omega arith);
  }

  pub full_offer : Does (offered i (body_of body clock)) c a (number 20) a' →
      DoesOffer i body clock c a (Err Refusal.TemplateFull) a'
  full_offer d = record {
    does = d;
    too_long = λ e. let no : ◌≡◌ {A = ℕ} 20 6 = cc in absurd (omega arith);
  }

pub too_long_offer : (w b : List ℕ) (i : ℕ) (body : List ℕ) (clock : ℕ) {h : Header} {w' : List ℕ} →
    HoldsCache h w (length b) → h.limits.max_entry_size_bytes < length body →
    w' ≡ set w dropped_at (raised (dropped_word w) 1) →
    DoesOffer i body clock (cache_of (table_of w) b) (areas_of w b) (Err Refusal.TooLong) (areas_of w' b)
too_long_offer w b i body clock holds long counted = record {
  does = too_long_does w b holds.legal i (body_of body clock) (rw holds.limits at long) counted;
  too_long = λ _. ap (λ (u : List ℕ). areas_of u b) counted;
}

-- the call, behind the test of 28 in which the id's live bodies are sought
module _ (w b : List ℕ) (i : ℕ) (body : List ℕ) (clock : ℕ) {x : Result LabelSeen Damaged}
    (tested : x ≡ examined w (length b) (Sought.Live i clock)) where
  pub offer_damaged : x ≡ Err (record {}) → Offers i body clock (areas_of w b) (Err Refusal.Damaged)
      (areas_of w b)
  offer_damaged e = record {
    performs = damaged_performs w b (offered i (body_of body clock)) (seen_damaged w (length b) _ tested e);
    too_long = λ e. let no : ◌≡◌ {A = ℕ} 28 6 = cc in absurd (omega arith);
    frame = untouched_all _ _ _;
  }

  module _ {s : LabelSeen} (seen : x ≡ Ok s) where
    pub offer_legal : well_formed w (length b) ≡ true
    offer_legal = seen_legal w (length b) _ tested seen

    pub offer_live : s.live ≡ live_bodies w i clock
    offer_live = live_counted w (length b) i clock tested seen (none_unlabelled w (length b) offer_legal)

    pub offer_done : {w' b' : List ℕ} {r : Result ⊤ OfferRefusal} →
        DoesOffer i body clock (cache_of (table_of w) b) (areas_of w b) r (areas_of w' b') →
        Offers i body clock (areas_of w b) r (areas_of w' b')
    offer_done d = record {
      performs = performed w b (offered i (body_of body clock)) offer_legal d.does;
      too_long = d.too_long;
      frame = d.does.frame;
    }

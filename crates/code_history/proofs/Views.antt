-- The cache that is read off the areas by `view`, and what the history theorem asks of a call, by `view`.
-- Assumes nothing.
use mathlib.Core.Path.{◌≡◌, refl, sym, ap, ◌∙◌}
use mathlib.Core.Bool.{Bool, true, false, cond}
use mathlib.Core.List.{List, [], ◌∷◌, map}
use mathlib.Core.Option.{Option, none, some}
use Prim.Native.Nat.{ℕ, zero, suc}
use lib.ListN.{length, get_or}
use Rattle.table.specs.Layout.{total_word}
use Rattle.table.specs.Table.{table_of}
use Rattle.table.specs.Reads.{count_sum}
use Rattle.table.specs.WellFormed.{well_formed}
use Rattle.cache_model.specs.Bodies.{Body, byte_total}
use Rattle.cache_model.specs.Cache.{Cache, Answer, Figures}
use Rattle.cache_model.specs.Queries.{no_body, figures, handed_out}
use Rattle.cache_model.specs.History.{Call, does}
use Rattle.cache_model.specs.Reply.{called}
use Rattle.history.specs.Claim.{unnumbered_body, unnumbered, Memory, Promised}
use Rattle.pending_flows.specs.View.{Areas, cache_of, view}
use Rattle.pending_queries.proofs.Figures.{figures_read}

abbrev pub HoldsCache : Areas → Type 0
HoldsCache a = well_formed a.words (length a.bytes) ≡ true

abbrev pub read_cache : Areas → Cache
read_cache a = cache_of (table_of a.words) a.bytes

-- the areas as the history theorem takes them
abbrev pub areas : Memory
areas = record { State = Areas; WellFormed = HoldsCache; read = read_cache }

module _ (a : Areas) where
  pub view_read : HoldsCache a → view a ≡ some (read_cache a)
  unfolding view
  view_read ok = rw ok

  pub view_says : {c : Cache} → view a ≡ some c → HoldsCache a × (read_cache a ≡ c)
  unfolding view
  view_says {c} e = by_test (well_formed a.words (length a.bytes)) refl e
    where
      by_test : (v : Bool) → well_formed a.words (length a.bytes) ≡ v → cond v (some (read_cache a)) none ≡ some c
          → HoldsCache a × (read_cache a ≡ c)
      by_test true t s = (t, cc)
      by_test false t s = absurd (cc)

  -- the stored byte total is the sum of the held lengths
  pub total_read : HoldsCache a → total_word a.words ≡ byte_total (read_cache a).held
  unfolding figures
  total_read ok =
      let n = count_sum (table_of a.words).handed in
      ap (λ (f : Figures). f.bytes) (figures_read a.words a.bytes ok n refl)

-- what the history theorem asks of a call
abbrev pub Keeps : Call → Areas → Areas → Answer → Type 0
Keeps x a a' r = Promised areas x a a' r

-- of a call that answers and leaves what the definition says, and of a query
module _ {x : Call} {a a' : Areas} {r : Answer} where
  pub promised : r ≡ (called (does 0 x) (view a)).answer → view a' ≡ (called (does 0 x) (view a)).holds
      → Keeps x a a' r
  promised answer holds = record {
    keeps = λ ok. (view_says a' (after ok)).0;
    answers = λ ok. answer ∙ ap (λ (v : Option Cache). (called (does 0 x) v).answer) (view_read a ok);
    reads = λ ok. (view_says a' (after ok)).1;
  }
    where
      after : HoldsCache a → view a' ≡ some (does 0 x (read_cache a)).cache
      after ok = holds ∙ ap (λ (v : Option Cache). (called (does 0 x) v).holds) (view_read a ok)

  pub asked_promised : ((c : Cache) → (does 0 x c).cache ≡ c) → (HoldsCache a → r ≡ (does 0 x (read_cache a)).answer)
      → a' ≡ a → Keeps x a a' r
  asked_promised same answer e = record {
    keeps = λ ok. rw e ok;
    answers = answer;
    reads = λ ok. ap read_cache e ∙ sym (same (read_cache a));
  }

-- no query reads an offer's number
pub handed_out_bytes : (k : ℕ) (c : Cache) → (handed_out k (unnumbered c)).bytes ≡ (handed_out k c).bytes
handed_out_bytes k c = of_bodies k c.chance.bodies
  where
    of_bodies : (n : ℕ) (bs : List Body) → (get_or (map unnumbered_body bs) n no_body).bytes ≡
        (get_or bs n no_body).bytes
    of_bodies n [] = refl
    of_bodies zero (b ∷ bs) = refl
    of_bodies (suc n) (b ∷ bs) = of_bodies n bs

-- Where every entry stays: the sweep keeps them all. Assumes nothing.
use Rattle.std.proofs.Common.{Option, None}
use mathlib.Core.Path.{◌≡◌, refl}
use mathlib.Core.Bool.{Bool, true, false, not, ◌&&◌, cond, and-false}
use mathlib.Core.List.{List, [], ◌∷◌}
use Prim.Native.Nat.{ℕ, suc, ◌+◌, ◌≤◌, ◌<◌}
use native.Mathlib.Omega.{arith}
use lib.Dec.{eqb}
use lib.ListN.{get_or, get_or-replicate}
use borrow.Author.Tests.{le-leb}
use Rattle.config.specs.Age.{expired_at}
use Rattle.config.proofs.Lists.{All, all_map, all_both}
use Rattle.table.specs.declared.Entry.{Entry}
use Rattle.table.specs.declared.TemplateRecord.{TemplateRecord}
use Rattle.table.specs.Table.{tally}
use Rattle.table.specs.Reads.{live_count}
use Rattle.table_entries.specs.declared.StayTest.{StayTest}
use Rattle.table_entries.specs.Stays.{is_aged, stays}
use Rattle.table_entries.specs.Sweep.{swept}
use Rattle.table_entries.proofs.LabelSums.{zeros}
use Rattle.table_entries.proofs.Swept.{swept_all}
use Rattle.table_view.proofs.Tied.{Tied, entries_small}
use Rattle.table_view.proofs.Summed.{len_most, everything}

-- ---- the entries of a label

-- with no time to live all are live
pub all_live : (clock k : ℕ) (es : List Entry) → live_count None clock k es ≡ tally k es
unfolding live_count
all_live clock k [] = refl
all_live clock k (e ∷ es) = by_label (eqb k e.label) (all_live clock k es)
  where
    by_label : (s : Bool) → live_count None clock k es ≡ tally k es →
        cond (s && true) 1 0 + live_count None clock k es ≡ cond s (suc (tally k es)) (tally k es)
    by_label true ih = omega arith
    by_label false ih = omega arith

module _ (ttl : Option ℕ) (clock k : ℕ) where
  live_most : (es : List Entry) → live_count ttl clock k es ≤ tally k es
  unfolding live_count
  live_most [] = omega arith
  live_most (e ∷ es) = by_tests (eqb k e.label) (expired_at ttl clock e.clock) (live_most es)
    where
      by_tests : (s t : Bool) → live_count ttl clock k es ≤ tally k es →
          cond (s && not t) 1 0 + live_count ttl clock k es ≤ cond s (suc (tally k es)) (tally k es)
      by_tests true true ih = omega arith
      by_tests true false ih = omega arith
      by_tests false t ih = omega arith

  -- where as many are live as there are, none is expired
  pub none_expired : (es : List Entry) → live_count ttl clock k es ≡ tally k es →
      All (λ e. eqb k e.label && expired_at ttl clock e.clock ≡ false) es
  unfolding live_count
  none_expired [] h = tt
  none_expired (e ∷ es) h =
      by_tests (eqb k e.label) (expired_at ttl clock e.clock) h (none_expired es) (live_most es)
    where
      Fresh : Entry → Type 0
      Fresh x = eqb k x.label && expired_at ttl clock x.clock ≡ false

      by_tests : (s t : Bool) →
          cond (s && not t) 1 0 + live_count ttl clock k es ≡ cond s (suc (tally k es)) (tally k es) →
          (live_count ttl clock k es ≡ tally k es → All Fresh es) → live_count ttl clock k es ≤ tally k es →
          (s && t ≡ false) × All Fresh es
      by_tests true true q later most = absurd (omega arith)
      by_tests true false q later most = (refl, later (omega arith))
      by_tests false t q later most = (refl, later (omega arith))

-- ---- the sweep

-- every entry stays that is not of the label and expired, nor too large
pub all_stay : (q : StayTest) (es : List Entry) →
    All (λ e. is_aged q.only e.label && expired_at q.ttl q.clock e.clock ≡ false) es →
    All (λ e. e.len ≤ q.max_size) es → All (λ e. stays q e ≡ true) es
unfolding stays
all_stay q es fresh short =
    all_both (λ e. is_aged q.only e.label && expired_at q.ttl q.clock e.clock ≡ false)
    (λ e. e.len ≤ q.max_size) (λ e. stays q e ≡ true)
    (λ e x y. rw x (le-leb e.len q.max_size y)) es fresh short

-- with no time to live, every entry that is not too large
pub unaged_stay : (q : StayTest) (es : List Entry) → q.ttl ≡ None → All (λ e. e.len ≤ q.max_size) es →
    All (λ e. stays q e ≡ true) es
unfolding stays
unaged_stay q es none short =
    all_map (λ e. e.len ≤ q.max_size) (λ e. stays q e ≡ true)
    (λ e h. rw (none, and-false (is_aged q.only e.label)) (le-leb e.len q.max_size h)) es short

-- nothing is skipped
pub none_skipped : (q : StayTest) (es : List Entry) → All (λ e. e.label < 1024) es → All (λ e. stays q e ≡ true) es →
    swept q zeros es ≡ es
none_skipped q es small stay =
    swept_all q zeros es stay
    (all_map (λ e. e.label < 1024) (λ e. get_or zeros e.label 0 ≡ 0) (λ e h. get_or-replicate 1024 e.label 0 0 h) es
    small)

-- ---- every entry stays

module _ {rs : List TemplateRecord} {es : List Entry} {is : List ℕ} (tied : Tied rs es is)
    (short : All (λ e. e.len ≤ len_most) es) where
  pub everything_swept : swept everything zeros es ≡ es
  everything_swept =
      none_skipped everything es (entries_small rs es tied.labels_small tied.labels_known)
      (unaged_stay everything es refl short)

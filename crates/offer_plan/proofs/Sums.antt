-- The sums by label that an offer takes: the bytes of each label's bodies, and its live bodies. Assumes nothing.
use Rattle.std.proofs.Common.{Option, Some, None}
use mathlib.Core.Path.{◌≡◌, refl, ap, ◌∙◌}
use mathlib.Core.Bool.{Bool, true, false, not, ◌&&◌, ◌||◌, cond, and-true}
use mathlib.Core.List.{List, []}
use Prim.Native.Nat.{ℕ, ◌≤◌, ◌<◌}
use native.Mathlib.Omega.{arith}
use lib.Dec.{eqb}
use lib.ListN.{length, get_or, drop, drop_of_length-le}
use borrow.Author.Tests.{le-leb}
use Rattle.config.proofs.Lists.{All, all_both}
use Rattle.table.specs.declared.Entry.{Entry}
use Rattle.table.proofs.Facts.{Placed}
use Rattle.table_entries.specs.declared.StayTest.{StayTest}
use Rattle.table_entries.specs.Stays.{is_aged}
use Rattle.table_entries.specs.Sums.{sum_most, summed}
use Rattle.table_entries.proofs.LabelSums.{zeros, summed_label}
use Rattle.table_entries.proofs.Lengths.{label_bytes_most, label_count_most}
use Rattle.cache_model.specs.Bodies.{Body, size, sum_bodies, expired, keep}
use Rattle.cache_model.proofs.Weights.{keep_true}
use Rattle.pending_flows.specs.View.{body_at, bodies_at}
use Rattle.table_view.proofs.Swept.{body_stays, Within, body_size, keep_alike}
use Rattle.table_view.proofs.Summed.{label_bytes, label_count}
use Rattle.table_view.proofs.Summed.{summed_count}
use Rattle.offer_plan.specs.Plan.{live_test}

-- which labels are aged by a plan: all, or the one
pub aged_planned : (t : Bool) (only k : ℕ) → is_aged (cond t None (Some only)) k ≡ t || eqb only k
aged_planned true only k = refl
aged_planned false only k = refl

-- whether a body of a label is not expired, or not of an aged label
abbrev pub unaged : StayTest → ℕ → Body → Bool
unaged q k x = not (is_aged q.only k && expired q.ttl q.clock x)

module _ (b : List ℕ) (k : ℕ) where
  -- where no body is too large, only expired ones go
  pub keep_unaged : (q : StayTest) (es : List Entry) → Within (length b) es → All (λ e. e.len ≤ q.max_size) es →
      keep (body_stays q k) (bodies_at b k es) ≡ keep (unaged q k) (bodies_at b k es)
  unfolding body_stays
  keep_unaged q es h s =
      keep_alike b (body_stays q k) (unaged q k) k es
      (all_both _ _ (λ e. body_stays q k (body_at b e) ≡ unaged q k (body_at b e))
      (λ e x y. rw (body_size b e x, le-leb e.len q.max_size y) (and-true (unaged q k (body_at b e)))) es h s)

  -- nothing is left where as many are skipped as there are entries
  pub all_skipped : (q : StayTest) (n : ℕ) (es : List Entry) → Within (length b) es → length es ≤ n →
      drop n (keep (body_stays q k) (bodies_at b k es)) ≡ []
  all_skipped q n es h few =
      drop_of_length-le (keep (body_stays q k) (bodies_at b k es)) {i = n}
      (omega (arith, label_count b q k es h, label_count_most q k es))

  module _ (small : k < 1024) (es : List Entry) (within : Within (length b) es)
      (short : All (λ e. e.len ≤ 18446744073709551615) es) where
    -- with no time to live no body is expired
    all_unaged : (clock : ℕ) → sum_bodies size (keep (body_stays (live_test None clock) k) (bodies_at b k es))
        ≡ sum_bodies size (bodies_at b k es)
    all_unaged clock =
        ap (sum_bodies size) (keep_unaged (live_test None clock) es within short ∙ keep_true (bodies_at b k es))

    sizes_most : (most : ℕ) → Placed 0 most es → sum_bodies size (bodies_at b k es) ≤ most
    sizes_most most p =
        let q = live_test None 0 in
        omega (arith, all_unaged 0, label_bytes b q k es within, label_bytes_most q k 0 most es (omega arith) p)

    pub sizes_summed : (clock most : ℕ) → most ≤ sum_most → Placed 0 most es →
        get_or (summed (live_test None clock) true zeros es) k 0 ≡ sum_bodies size (bodies_at b k es)
    sizes_summed clock most room p =
        let q = live_test None clock in
        omega (arith, all_unaged clock, summed_label q true es k small, label_bytes b q k es within, sizes_most most p)

    pub live_summed : (ttl : Option ℕ) (clock : ℕ) → length es ≤ sum_most →
        get_or (summed (live_test ttl clock) false zeros es) k 0
        ≡ length (keep (λ x. not (expired ttl clock x)) (bodies_at b k es))
    live_summed ttl clock few =
        summed_count b (live_test ttl clock) k small es within few
        ∙ ap length (keep_unaged (live_test ttl clock) es within short)

-- The sums by label over the entries that stay by themselves, as sums over the bodies of the label. Assumes nothing.
use Rattle.std.proofs.Common.{Some, None}
use mathlib.Core.Path.{◌≡◌, refl, sym, ◌∙◌}
use mathlib.Core.Bool.{Bool, true, false, ◌&&◌, cond, and-false}
use mathlib.Core.List.{List, [], ◌∷◌}
use Prim.Native.Nat.{ℕ, ◌+◌, ◌≤◌, ◌<◌, suc}
use native.Mathlib.Omega.{arith}
use lib.Dec.{eqb}
use lib.ListN.{length, get_or}
use borrow.Author.Tests.{eqb-true, le-leb}
use Rattle.config.proofs.Lists.{All, all_map, all_both}
use Rattle.table.specs.declared.Entry.{Entry}
use Rattle.table.specs.Table.{tally}
use Rattle.table_entries.specs.declared.StayTest.{StayTest}
use Rattle.table_entries.specs.Stays.{stays}
use Rattle.table_entries.specs.Sums.{sum_most, share, summed, label_sum}
use Rattle.table_entries.proofs.LabelSums.{zeros, summed_label}
use Rattle.table_entries.proofs.Lengths.{label_count_most}
use Rattle.cache_model.specs.Bodies.{Body, size, sum_bodies, keep}
use Rattle.cache_model.proofs.Weights.{keep_true, count_bodies}
use Rattle.pending_flows.specs.View.{body_at, bodies_at}
use Rattle.table_view.proofs.Swept.{body_stays, Within, body_size, stays_body, keep_alike}

module _ (b : List ℕ) (q : StayTest) (k : ℕ) where
  -- a label's sum weighs the bodies that stay, where an entry adds what its body weighs
  label_weight : (w : Body → ℕ) (bytes : Bool) (es : List Entry) → Within (length b) es →
      All (λ e. share bytes e ≡ w (body_at b e)) es →
      label_sum q bytes k es ≡ sum_bodies w (keep (body_stays q k) (bodies_at b k es))
  unfolding label_sum
  label_weight w bytes [] h v = refl
  label_weight w bytes (e ∷ es) h v =
      by_tests (stays q e) (eqb k e.label) refl refl (label_weight w bytes es h.1 v.1)
    where
      by_tests : (x z : Bool) → stays q e ≡ x → eqb k e.label ≡ z →
          label_sum q bytes k es ≡ sum_bodies w (keep (body_stays q k) (bodies_at b k es)) →
          cond (x && z) (share bytes e) 0 + label_sum q bytes k es
          ≡ sum_bodies w (keep (body_stays q k) (cond z (body_at b e ∷ bodies_at b k es) (bodies_at b k es)))
      by_tests true true u l ih =
          rw (← stays_body b q k e h.0 (eqb-true k e.label l), u) (omega (arith, v.0))
      by_tests false true u l ih = rw (← stays_body b q k e h.0 (eqb-true k e.label l), u) (omega arith)
      by_tests true false u l ih = omega arith
      by_tests false false u l ih = omega arith

  pub label_count : (es : List Entry) → Within (length b) es →
      label_sum q false k es ≡ length (keep (body_stays q k) (bodies_at b k es))
  label_count es h =
      label_weight (λ x. 1) false es h (all_map (λ e. e.place + e.len ≤ length b) (λ e. ◌≡◌ {A = ℕ} 1 1) (λ e _. refl)
      es h)
      ∙ count_bodies (keep (body_stays q k) (bodies_at b k es))

  pub label_bytes : (es : List Entry) → Within (length b) es →
      label_sum q true k es ≡ sum_bodies size (keep (body_stays q k) (bodies_at b k es))
  label_bytes es h =
      label_weight size true es h (all_map (λ e. e.place + e.len ≤ length b) (λ e. e.len ≡ size (body_at b e))
      (λ e i. sym (body_size b e i)) es h)

module _ (b : List ℕ) (q : StayTest) (k : ℕ) (small : k < 1024) (es : List Entry) where
  pub summed_count : Within (length b) es → length es ≤ sum_most →
      get_or (summed q false zeros es) k 0 ≡ length (keep (body_stays q k) (bodies_at b k es))
  summed_count h few =
      omega (arith, summed_label q false es k small, label_count b q k es h, label_count_most q k es)

-- the largest number that a word has
abbrev pub len_most : ℕ
len_most = 18446744073709551615

-- the test that every body passes
abbrev pub everything : StayTest
everything = record { ttl = None; clock = 0; only = Some 1024; max_size = len_most }

everything_passes : (k : ℕ) (x : Body) → size x ≤ len_most → body_stays everything k x ≡ true
unfolding body_stays
everything_passes k x h = rw (and-false (eqb 1024 k)) (le-leb (size x) len_most h)

pub everything_stays : (b : List ℕ) (k : ℕ) (es : List Entry) → Within (length b) es → All (λ e. e.len ≤ len_most) es →
    keep (body_stays everything k) (bodies_at b k es) ≡ bodies_at b k es
everything_stays b k es h s =
    keep_alike b (body_stays everything k) (λ x. true) k es
    (all_both _ _ (λ e. body_stays everything k (body_at b e) ≡ true)
    (λ e x y. everything_passes k (body_at b e) (omega (arith, body_size b e x))) es h s)
    ∙ keep_true (bodies_at b k es)

-- and so every entry is counted
pub everything_counts : (k : ℕ) (es : List Entry) → All (λ e. e.len ≤ len_most) es →
    label_sum everything false k es ≡ tally k es
unfolding label_sum stays
everything_counts k [] s = refl
everything_counts k (e ∷ es) s =
    rw (and-false (eqb 1024 e.label), le-leb e.len len_most s.0)
    (by_label (eqb k e.label) (everything_counts k es s.1))
  where
    by_label : (x : Bool) → label_sum everything false k es ≡ tally k es →
        cond x 1 0 + label_sum everything false k es ≡ cond x (suc (tally k es)) (tally k es)
    by_label true ih = omega arith
    by_label false ih = omega arith

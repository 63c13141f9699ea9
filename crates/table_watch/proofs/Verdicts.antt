-- What a verdict shows of what was seen. Assumes nothing.
use Rattle.std.proofs.Common.{Result, Ok, Err, is_ok, ap}
use Rattle.table.specs.declared.Damaged.{Damaged}
use mathlib.Core.Path.{◌≡◌, refl, sym, ◌∙◌}
use mathlib.Core.Bool.{Bool, true, false, cond}
use Prim.Native.Nat.{ℕ}
use native.Mathlib.Omega.{arith}
use Rattle.table_watch.specs.declared.LabelSeen.{LabelSeen}
use Rattle.table_watch.specs.Watch.{judged}

-- A verdict that is not good shows nothing; one that is good shows what was seen.
module _ {legal : Bool} where
  pub damaged : false ≡ legal → (seen : LabelSeen) → Err (record {}) ≡ judged legal seen
  unfolding judged
  damaged e seen = rw (← e)

  pub shown : true ≡ legal → {s seen : LabelSeen} → s ≡ seen → Ok s ≡ judged legal seen
  unfolding judged
  shown e h = rw (← e, h)

-- What a verdict shows says what it was.
module _ (legal : Bool) (seen : LabelSeen) {r : Result LabelSeen Damaged} (is : r ≡ judged legal seen) where
  pub is_damaged : r ≡ Err (record {}) → false ≡ legal
  unfolding judged
  is_damaged e = by_verdict legal (sym e ∙ is)
    where
      by_verdict : (t : Bool) → ◌≡◌ {A = Result LabelSeen Damaged} (Err (record {})) (cond t (Ok seen) (Err (record {}))) → false ≡ t
      by_verdict true h = let z : ◌≡◌ {A = ℕ} 0 1 = cc in absurd (omega arith)
      by_verdict false h = refl

  pub ok_is_legal : {v : Bool} → v ≡ is_ok r → v ≡ legal
  unfolding judged
  ok_is_legal e = e ∙ ap is_ok is ∙ by_verdict legal
    where
      by_verdict : (t : Bool) → is_ok (cond {A = Result LabelSeen Damaged} t (Ok seen) (Err (record {}))) ≡ t
      by_verdict true = refl
      by_verdict false = refl

  module _ {s : LabelSeen} (e : r ≡ Ok s) where
    both : (true ≡ legal) × (s ≡ seen)
    unfolding judged
    both = by_verdict legal (sym e ∙ is)
      where
        by_verdict : (t : Bool) → ◌≡◌ {A = Result LabelSeen Damaged} (Ok s) (cond t (Ok seen) (Err (record {}))) →
            (true ≡ t) × (s ≡ seen)
        by_verdict true h = (refl, cc)
        by_verdict false h = let z : ◌≡◌ {A = ℕ} 0 1 = cc in absurd (omega arith)

    pub is_legal : true ≡ legal
    is_legal = both.0

    pub is_seen : s ≡ seen
    is_seen = both.1

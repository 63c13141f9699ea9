-- The bodies that a sweep of the entries leaves of each label. Assumes nothing.
use mathlib.Core.Path.{◌≡◌, refl, sym, ap, ◌∙◌}
use mathlib.Core.Bool.{Bool, true, false, not, ◌&&◌, cond}
use mathlib.Core.List.{List, [], ◌∷◌}
use Prim.Native.Nat.{ℕ, zero, suc, ◌+◌, ◌-◌, ◌≤◌, ◌<◌}
use native.Mathlib.Omega.{arith}
use lib.Dec.{eqb, leb, ltb}
use lib.ListN.{length, get_or, drop, length-take, length-drop, length-set}
use lib.Seq.{drop-nil, get_or-set_same, get_or-set_other}
use borrow.Author.Tests.{eqb-true, eqb-false, ltb-true, ltb-false}
use Rattle.config.proofs.Lists.{All}
use Rattle.table.specs.declared.Entry.{Entry}
use Rattle.table.specs.Table.{tally}
use Rattle.table.specs.Passes.{less_at}
use Rattle.table.proofs.Facts.{Placed}
use Rattle.table_entries.specs.declared.StayTest.{StayTest}
use Rattle.table_entries.specs.Stays.{is_aged, stays}
use Rattle.table_entries.specs.Sweep.{swept}
use Rattle.cache_model.specs.Bodies.{Body, size, expired, keep}
use Rattle.pending_flows.specs.View.{body_at, bodies_at}
use Rattle.pending_flows.proofs.Templates.{length_bodies}

-- whether a body of a label stays by itself
unfoldable pub body_stays : StayTest → ℕ → Body → Bool
body_stays q k x =
    not (is_aged q.only k && expired q.ttl q.clock x) && leb (size x) q.max_size

-- bodies end within `most` bytes
abbrev pub Within : ℕ → List Entry → Type 0
Within most es = All (λ e. e.place + e.len ≤ most) es

pub placed_within : (from most : ℕ) (es : List Entry) → Placed from most es → Within most es
placed_within from most [] p = tt
placed_within from most (e ∷ es) p = (p.1, placed_within (e.place + e.len) most es p.2)

pub body_size : (b : List ℕ) (e : Entry) → e.place + e.len ≤ length b → size (body_at b e) ≡ e.len
body_size b e h = omega (arith, length-take e.len (drop e.place b), length-drop e.place b)

-- tests that agree on every entry's body keep the same bodies
pub keep_alike : (b : List ℕ) (f g : Body → Bool) (k : ℕ) (es : List Entry) →
    All (λ e. f (body_at b e) ≡ g (body_at b e)) es → keep f (bodies_at b k es) ≡ keep g (bodies_at b k es)
keep_alike b f g k [] a = refl
keep_alike b f g k (e ∷ es) a = by_label (eqb k e.label) (keep_alike b f g k es a.1)
  where
    by_label : (x : Bool) → keep f (bodies_at b k es) ≡ keep g (bodies_at b k es) →
        keep f (cond x (body_at b e ∷ bodies_at b k es) (bodies_at b k es))
        ≡ keep g (cond x (body_at b e ∷ bodies_at b k es) (bodies_at b k es))
    by_label true ih = rw (a.0, ih)
    by_label false ih = ih

-- one body is skipped, and one less is to be skipped of those behind it
drop_less : (n : ℕ) (x : Body) (xs : List Body) → 0 < n → drop (n - 1) xs ≡ drop n (x ∷ xs)
drop_less zero x xs h = absurd (omega arith)
drop_less (suc n) x xs h = ap (λ (m : ℕ). drop m xs) (let z : suc n - 1 ≡ n = omega arith in z)

skip_one : (skip : List ℕ) (k j : ℕ) (x : Body) (xs : List Body) → k < length skip → k ≡ j → 0 < get_or skip j 0 →
    drop (get_or (less_at skip j) k 0) xs ≡ drop (get_or skip k 0) (x ∷ xs)
skip_one skip k j x xs s l h =
    let here : get_or (less_at skip k) k 0 ≡ get_or skip k 0 - 1 = get_or-set_same skip k (get_or skip k 0 - 1) 0 s in
    rw (← l, here) (drop_less (get_or skip k 0) x xs (rw l h))

module _ (b : List ℕ) (q : StayTest) (k : ℕ) where
  pub stays_body : (e : Entry) → e.place + e.len ≤ length b → k ≡ e.label →
      stays q e ≡ body_stays q k (body_at b e)
  unfolding stays body_stays
  stays_body e h l = rw (body_size b e h, l)

  pub swept_bodies : (skip : List ℕ) (es : List Entry) → k < length skip → Within (length b) es →
      bodies_at b k (swept q skip es) ≡ drop (get_or skip k 0) (keep (body_stays q k) (bodies_at b k es))
  unfolding swept
  swept_bodies skip [] s h = sym (drop-nil (get_or skip k 0))
  swept_bodies skip (e ∷ es) s h =
      by_tests (stays q e) (ltb 0 (get_or skip e.label 0)) (eqb k e.label) refl refl refl
      (swept_bodies skip es s h.1)
      (swept_bodies (less_at skip e.label) es
      (rw (length-set skip e.label (get_or skip e.label 0 - 1)) s) h.1)
    where
      stay : List Body
      stay = keep (body_stays q k) (bodies_at b k es)

      by_tests : (x y z : Bool) → stays q e ≡ x → ltb 0 (get_or skip e.label 0) ≡ y → eqb k e.label ≡ z →
          bodies_at b k (swept q skip es) ≡ drop (get_or skip k 0) stay →
          bodies_at b k (swept q (less_at skip e.label) es) ≡ drop (get_or (less_at skip e.label) k 0) stay →
          bodies_at b k (cond x (cond y (swept q (less_at skip e.label) es) (e ∷ swept q skip es)) (swept q skip es))
          ≡ drop (get_or skip k 0) (keep (body_stays q k) (cond z (body_at b e ∷ bodies_at b k es) (bodies_at b k es)))
      by_tests true true true u v w ih less =
          let l : k ≡ e.label = eqb-true k e.label w in
          let z : body_stays q k (body_at b e) ≡ true = sym (stays_body e h.0 l) ∙ u in
          rw z (less ∙ skip_one skip k e.label (body_at b e) stay s l (ltb-true 0 (get_or skip e.label 0) v))
      by_tests true true false u v w ih less =
          less ∙ ap (λ (n : ℕ). drop n stay) (get_or-set_other skip e.label k (get_or skip e.label 0 - 1) 0
          (eqb-false k e.label w))
      by_tests true false true u v w ih less =
          let l : k ≡ e.label = eqb-true k e.label w in
          let z : body_stays q k (body_at b e) ≡ true = sym (stays_body e h.0 l) ∙ u in
          let none : get_or skip k 0 ≡ 0 = rw l (omega (arith, ltb-false 0 (get_or skip e.label 0) v)) in
          let ih' : bodies_at b k (swept q skip es) ≡ stay = rw none at ih in
          rw (w, z, none, ih')
      by_tests true false false u v w ih less = rw w ih
      by_tests false y true u v w ih less =
          let z : body_stays q k (body_at b e) ≡ false = sym (stays_body e h.0 (eqb-true k e.label w)) ∙ u in
          rw z ih
      by_tests false y false u v w ih less = ih

  pub swept_tally : (skip : List ℕ) (es : List Entry) → k < length skip → Within (length b) es →
      tally k (swept q skip es) ≡ length (drop (get_or skip k 0) (keep (body_stays q k) (bodies_at b k es)))
  swept_tally skip es s h = sym (length_bodies b k (swept q skip es)) ∙ ap length (swept_bodies skip es s h)

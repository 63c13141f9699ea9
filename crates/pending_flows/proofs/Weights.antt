-- Sums over the entries of records: record by record, or entry by entry. Assumes nothing.
use mathlib.Core.Path.{◌≡◌, refl, ap, sym, ◌∙◌}
use mathlib.Core.Bool.{Bool, true, false, ◌||◌, cond}
use mathlib.Core.List.{List, [], ◌∷◌, ◌++◌}
use Prim.Native.Nat.{ℕ, suc, ◌+◌}
use native.Mathlib.Omega.{arith}
use lib.Dec.{eqb}
use lib.ListN.{length}
use borrow.Author.Tests.{eqb-true, eqb-false, eq-eqb, ne_eqb}
use Rattle.config.proofs.Lists.{All}
use Rattle.table.specs.declared.Entry.{Entry}
use Rattle.table.specs.declared.TemplateRecord.{TemplateRecord}
use Rattle.table.specs.Table.{has_label, tally, sum_lens}
use Rattle.table.specs.Reads.{count_sum}
use Rattle.table.proofs.Facts.{Differ}
use Rattle.table.proofs.Labels.{absent_holds}

module _ (f : Entry → ℕ) where
  -- over the entries with a label
  unfoldable pub weigh : ℕ → List Entry → ℕ
  weigh k [] = 0
  weigh k (e ∷ es) = cond (eqb k e.label) (f e) 0 + weigh k es

  -- over the entries of each record
  unfoldable pub weigh_all : List TemplateRecord → List Entry → ℕ
  weigh_all [] es = 0
  weigh_all (r ∷ rs) es = weigh r.label es + weigh_all rs es

  -- over the entries that have a record
  unfoldable pub weigh_owned : List TemplateRecord → List Entry → ℕ
  weigh_owned rs [] = 0
  weigh_owned rs (e ∷ es) = cond (has_label e.label rs) (f e) 0 + weigh_owned rs es

  no_entries : (rs : List TemplateRecord) → weigh_all rs [] ≡ 0
  unfolding weigh weigh_all
  no_entries [] = refl
  no_entries (r ∷ rs) = let ih = no_entries rs in omega arith

  -- one entry more is weighed once, where the records' labels differ
  one_more : (rs : List TemplateRecord) (e : Entry) (es : List Entry) → Differ (λ r. r.label) rs →
      weigh_all rs (e ∷ es) ≡ cond (has_label e.label rs) (f e) 0 + weigh_all rs es
  unfolding weigh weigh_all
  one_more [] e es d = refl
  one_more (r ∷ rs) e es d = by_label (eqb r.label e.label) refl (one_more rs e es d.1)
    where
      by_label : (b : Bool) → eqb r.label e.label ≡ b →
          weigh_all rs (e ∷ es) ≡ cond (has_label e.label rs) (f e) 0 + weigh_all rs es →
          cond b (f e) 0 + weigh r.label es + weigh_all rs (e ∷ es)
          ≡ cond (eqb e.label r.label || has_label e.label rs) (f e) 0 + (weigh
          r.label es + weigh_all rs es)
      by_label true h ih =
          let same : e.label ≡ r.label = sym (eqb-true r.label e.label h) in
          let none : has_label e.label rs ≡ false =
          ap (λ (k : ℕ). has_label k rs) same ∙ absent_holds r.label rs d.0 in
          let rest : weigh_all rs (e ∷ es) ≡ 0 + weigh_all rs es = rw none at ih in
          rw (eq-eqb e.label r.label same) (omega arith)
      by_label false h ih =
          rw (ne_eqb e.label r.label (λ s. eqb-false r.label e.label h (sym s)), ih) (omega arith)

  -- record by record is entry by entry
  pub weights_agree : (rs : List TemplateRecord) (es : List Entry) → Differ (λ r. r.label) rs →
      weigh_all rs es ≡ weigh_owned rs es
  unfolding weigh_owned
  weights_agree rs [] d = no_entries rs
  weights_agree rs (e ∷ es) d =
      one_more rs e es d ∙ ap (λ (n : ℕ). cond (has_label e.label rs) (f e) 0 + n) (weights_agree rs es d)

-- with 1 for a weight, the entries are counted
abbrev pub one : Entry → ℕ
one e = 1

pub tally_weighs : (k : ℕ) (es : List Entry) → tally k es ≡ weigh one k es
unfolding weigh
tally_weighs k [] = refl
tally_weighs k (e ∷ es) = by_label (eqb k e.label) (tally_weighs k es)
  where
    by_label : (b : Bool) → tally k es ≡ weigh one k es →
        cond b (suc (tally k es)) (tally k es) ≡ cond b 1 0 + weigh one k es
    by_label true ih = omega arith
    by_label false ih = omega arith

owned_all : (rs : List TemplateRecord) (es : List Entry) → All (λ e. has_label e.label rs ≡ true) es →
    weigh_owned one rs es ≡ length es
unfolding weigh_owned
owned_all rs [] h = refl
owned_all rs (e ∷ es) h = rw h.0 (let ih = owned_all rs es h.1 in omega arith)

counts_weigh : (rs : List TemplateRecord) (es : List Entry) → All (λ r. r.count ≡ tally r.label es) rs →
    count_sum rs ≡ weigh_all one rs es
unfolding count_sum weigh_all
counts_weigh [] es h = refl
counts_weigh (r ∷ rs) es h =
    let ih = counts_weigh rs es h.1 in
    let c = h.0 in
    omega (arith, tally_weighs r.label es)

-- the counts of records sum to the number of entries
pub counts_sum : (rs : List TemplateRecord) (es : List Entry) → Differ (λ r. r.label) rs →
    All (λ e. has_label e.label rs ≡ true) es → All (λ r. r.count ≡ tally r.label es) rs →
    count_sum rs ≡ length es
counts_sum rs es d e c = counts_weigh rs es c ∙ weights_agree one rs es d ∙ owned_all rs es e

-- with the length for a weight, the byte total is summed
abbrev pub len : Entry → ℕ
len e = e.len

pub lens_weigh : (rs : List TemplateRecord) (es : List Entry) → sum_lens rs es ≡ weigh_owned len rs es
unfolding weigh_owned
lens_weigh rs [] = refl
lens_weigh rs (e ∷ es) = ap (λ (n : ℕ). cond (has_label e.label rs) e.len 0 + n) (lens_weigh rs es)

pub count_append : (rs ss : List TemplateRecord) → count_sum (rs ++ ss) ≡ count_sum rs + count_sum ss
unfolding count_sum
count_append [] ss = omega arith
count_append (r ∷ rs) ss = let ih = count_append rs ss in omega arith

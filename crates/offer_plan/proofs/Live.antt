-- The live bodies of an id, by its record; and that nothing goes where none of them is expired. Assumes nothing.
use Rattle.std.proofs.Common.{Option, Some, None}
use mathlib.Core.Path.{◌≡◌, refl, sym, ap, ◌∙◌}
use mathlib.Core.Bool.{Bool, true, false, ◌&&◌, cond}
use mathlib.Core.List.{List, [], ◌∷◌}
use Prim.Native.Nat.{ℕ, ◌<◌}
use native.Mathlib.Omega.{arith}
use lib.Dec.{eqb, leb, ltb}
use lib.ListN.{get_or}
use borrow.Author.Tests.{ne_eqb}
use Rattle.config.specs.Age.{expired_at}
use Rattle.config.proofs.Lists.{All, all_map}
use Rattle.table.specs.declared.Entry.{Entry}
use Rattle.table.specs.declared.TemplateRecord.{TemplateRecord}
use Rattle.table.specs.Table.{tally}
use Rattle.table.specs.Reads.{record_of, label_in, count_in, label_of, label_or_none, count_of, live_count}
use Rattle.table.proofs.Lookups.{label_told, no_label_told, count_told, no_count_told}
use Rattle.table_view.proofs.AllStay.{none_expired}
use Rattle.offer_plan.specs.Plan.{live_sums, FoundHas, live_found, LiveSeen, LiveRead, live_at}
use Rattle.offer_plan.specs.Plan.{others_fill}

-- ---- by what was found

-- how many of these entries are live bodies of the record
abbrev live_in : Option ℕ → ℕ → List Entry → Option TemplateRecord → ℕ
live_in ttl clock es (Some r) = live_count ttl clock r.label es
live_in ttl clock es None = 0

-- its count is the number of entries with its label
abbrev CountRight : List Entry → Option TemplateRecord → Type 0
CountRight es x = FoundHas (λ r. r.count ≡ tally r.label es) x

module _ (x : Option TemplateRecord) where
  pub found_fills : (r : TemplateRecord) (n most : ℕ) → x ≡ Some r → ltb most n ≡ others_fill (label_in x) n most
  found_fills r n most f = rw f

  pub none_fills : (n most : ℕ) → x ≡ None → leb most n ≡ others_fill (label_in x) n most
  none_fills n most f = rw f

  -- as many as the record counts
  pub all_found : (n : ℕ) → count_in x ≡ n → live_found n x ≡ count_in x
  all_found n = by_found x
    where
      by_found : (y : Option TemplateRecord) → count_in y ≡ n → live_found n y ≡ count_in y
      by_found (Some r) h = sym h
      by_found None h = refl

-- what holds of each record with the key holds of the one that is found
pub record_keyed : (P : TemplateRecord → Type 0) (id : ℕ) (rs : List TemplateRecord) →
    All (λ r. eqb id r.key ≡ true → P r) rs → FoundHas P (record_of id rs)
record_keyed P id [] a = tt
record_keyed P id (r ∷ rs) a = by_key (eqb id r.key) refl (record_keyed P id rs a.1)
  where
    by_key : (t : Bool) → eqb id r.key ≡ t → FoundHas P (record_of id rs) →
        FoundHas P (cond t (Some r) (record_of id rs))
    by_key true e ih = a.0 e
    by_key false e ih = ih

module _ {ttl : Option ℕ} {clock : ℕ} {rs : List TemplateRecord} {es : List Entry} (reads : LiveRead ttl clock rs es)
    (id : ℕ) where
  abbrev live : List ℕ
  live = live_sums ttl clock es

  module _ {x : Option TemplateRecord} (found : x ≡ record_of id rs) where
    has : (P : TemplateRecord → Type 0) → All P rs → FoundHas P x
    has P a = rw found (record_keyed P id rs (all_map P _ (λ r h _. h) rs a))

    count_right : CountRight es x
    count_right = has (λ r. r.count ≡ tally r.label es) reads.counts

    live_has : FoundHas (λ r. live_count ttl clock r.label es ≡ get_or live r.label 0) x
    live_has = has (λ r. live_count ttl clock r.label es ≡ get_or live r.label 0) reads.live

    pub label_is : label_in x ≡ label_of id rs
    label_is = by_found x found
      where
        by_found : (y : Option TemplateRecord) → y ≡ record_of id rs → label_in y ≡ label_of id rs
        by_found (Some r) f = label_told id rs f refl
        by_found None f = no_label_told id rs f refl

    pub count_is : count_in x ≡ count_of id rs
    count_is = by_found x found
      where
        by_found : (y : Option TemplateRecord) → y ≡ record_of id rs → count_in y ≡ count_of id rs
        by_found (Some r) f = count_told id rs f refl
        by_found None f = no_count_told id rs f refl

    -- where so many live bodies of the id were seen
    pub seen_is : (m : ℕ) → LiveSeen id m ttl clock rs es → live_found m x ≡ live_at live (label_of id rs)
    seen_is m seen =
        by_found x (rw found seen.counted) live_has ∙ ap (live_at live) label_is
      where
        by_found : (y : Option TemplateRecord) → FoundHas (λ r. m ≡ live_count ttl clock r.label es) y →
            FoundHas (λ r. live_count ttl clock r.label es ≡ get_or live r.label 0) y →
            live_found m y ≡ live_at live (label_in y)
        by_found (Some r) s h = s ∙ h
        by_found None s h = refl

    live_is : live_in ttl clock es x ≡ live_at live (label_of id rs)
    live_is =
        by_found x live_has ∙ ap (live_at live) label_is
      where
        by_found : (y : Option TemplateRecord) →
            FoundHas (λ r. live_count ttl clock r.label es ≡ get_or live r.label 0) y →
            live_in ttl clock es y ≡ live_at live (label_in y)
        by_found (Some r) h = h
        by_found None h = refl

  -- where the id has as many live bodies as its record counts, no entry of its label is expired
  pub label_fresh : All (λ e. e.label < 1024) es → live_at live (label_of id rs) ≡ count_of id rs →
      All (λ e. eqb (label_or_none (label_of id rs)) e.label && expired_at ttl clock e.clock ≡ false) es
  label_fresh small all =
      rw (← label_is refl)
      (by_found (record_of id rs) (count_right refl) (live_is refl ∙ all ∙ sym (count_is refl)))
    where
      by_found : (y : Option TemplateRecord) → CountRight es y → live_in ttl clock es y ≡ count_in y →
          All (λ e. eqb (label_or_none (label_in y)) e.label && expired_at ttl clock e.clock ≡ false) es
      by_found (Some r) right h = none_expired ttl clock r.label es (h ∙ right)
      by_found None right h =
          all_map (λ e. e.label < 1024) (λ e. eqb 1024 e.label && expired_at ttl clock e.clock ≡ false)
          (λ e s. rw (ne_eqb 1024 e.label (λ q. omega arith))) es small

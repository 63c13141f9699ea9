-- The steps of a resize from the calls that they make. Assumes nothing.
use mathlib.Core.Path.{◌≡◌, refl, sym, ap, ◌∙◌}
use mathlib.Core.Bool.{Bool, true, false, cond}
use mathlib.Core.List.{List, [], ◌∷◌}
use Prim.Native.Nat.{ℕ, suc, ◌+◌, ◌*◌, ◌-◌, ◌≤◌, ◌<◌}
use native.Mathlib.Omega.{arith}
use lib.Dec.{leb, ltb}
use lib.ListN.{length, get_or, take, length-replicate}
use borrow.Author.Tests.{le-leb, lt-leb}
use Rattle.std.proofs.lemmas.List.{length-take-le}
use Rattle.config.specs.declared.PendingFlowsConfig.{PendingFlowsConfig}
use Rattle.table.specs.declared.Entry.{Entry}
use Rattle.table.specs.declared.TemplateRecord.{TemplateRecord}
use Rattle.config.specs.Limits.{record_words}
use Rattle.table.specs.Layout.{entries_at}
use Rattle.table.specs.Table.{entries_from, records_from}
use Rattle.table.specs.WellFormed.{places_legal}
use Rattle.table.specs.Parts.{template_of, entries_of, templates_of}
use Rattle.table.proofs.Parts.{as_many, first_parts}
use Rattle.table_entries.specs.declared.StayTest.{StayTest}
use Rattle.table_entries.specs.Sums.{lens_sum, summed}
use Rattle.table_entries.specs.Pack.{last_end, Packs}
use Rattle.table_entries.proofs.Ends.{last_legal}
use Rattle.table_records.specs.Choose.{skipping, skipping_over, evictions_of}
use Rattle.table_records.proofs.Skips.{length_skipping, length_skipping_over}
use Rattle.pending_calls.specs.declared.removal.Removed.{Removed}
use Rattle.pending_calls.specs.Removal.{everything}
use Rattle.resize_steps.specs.Removing.{zeros, RemovesSkipped}
use Rattle.resize_steps.specs.Cut.{small_enough, cut_skips, Cuts}
use Rattle.resize_steps.specs.Fit.{over_total, total_skips, FitsTotal, fitted_entries, fitted_bytes, FitsPlaces}

-- ---- cutting

pub cut_skips_lem : (l : PendingFlowsConfig) (held handed entries : List (List ℕ)) (skip₀ : List ℕ)
    {counts skip₁ skip₂ skip₃ : List ℕ} {beyond : ℕ} →
    counts ≡ summed (small_enough l) false zeros (entries_of entries) →
    skip₁ ≡ skipping_over l.max_entries_per_template counts skip₀ (templates_of held) →
    beyond ≡ length held - l.max_pending_flows → skip₂ ≡ skipping skip₁ (templates_of (take beyond held)) →
    skip₃ ≡ skipping skip₂ (templates_of handed) →
    skip₃ ≡ cut_skips l (templates_of held) (templates_of handed) (entries_of entries) skip₀
unfolding cut_skips
cut_skips_lem l held handed entries skip₀ counted over beyond first last =
    rw (
      last,
      first,
      over,
      counted,
      beyond,
      first_parts template_of (length held - l.max_pending_flows) held,
      as_many template_of held,
    )

-- an array of so many is that long after the choice too
pub cut_skips_long : (l : PendingFlowsConfig) (held handed : List TemplateRecord) (es : List Entry)
    (skip : List ℕ) → skip ≡ cut_skips l held handed es zeros → length skip ≡ 1024
unfolding cut_skips
cut_skips_long l held handed es skip e =
    let counts = summed (small_enough l) false zeros es in
    let over = skipping_over l.max_entries_per_template counts zeros held in
    let leaving = take (length held - l.max_pending_flows) held in
    ap length e
    ∙ length_skipping (skipping over leaving) handed
    ∙ length_skipping over leaving
    ∙ length_skipping_over l.max_entries_per_template counts zeros held
    ∙ length-replicate {A = ℕ} 1024 0

-- ---- fitting

evictions_few : (room : ℕ) (sizes : List ℕ) (total : ℕ) (rs : List TemplateRecord) →
    evictions_of room sizes total rs ≤ length rs
unfolding evictions_of
evictions_few room sizes total [] = omega arith
evictions_few room sizes total (r ∷ rs) =
    by_test (ltb room total) (evictions_few room sizes (total - get_or sizes r.label 0) rs)
  where
    rest : ℕ
    rest = evictions_of room sizes (total - get_or sizes r.label 0) rs

    by_test : (t : Bool) → rest ≤ length rs → cond t (suc rest) 0 ≤ suc (length rs)
    by_test true h = omega arith
    by_test false h = omega arith

module _ (room total : ℕ) (sizes : List ℕ) (records : List (List ℕ)) {evicted : ℕ}
    (chosen : evicted ≡ evictions_of room sizes total (templates_of records)) where
  pub evicted_within : evicted ≡ length (take evicted records)
  evicted_within =
      let few = evictions_few room sizes total (templates_of records) in
      sym (length-take-le evicted records (omega (arith, chosen, few, as_many template_of records)))

  pub total_skips_lem : (entries : List (List ℕ)) (skip : List ℕ) {skip' : List ℕ} →
      sizes ≡ summed everything true zeros (entries_of entries) → total ≡ lens_sum (entries_of entries) →
      skip' ≡ skipping skip (templates_of (take evicted records)) →
      skip' ≡ total_skips room (templates_of records) (entries_of entries) skip
  unfolding total_skips
  total_skips_lem entries skip sized summed-up first =
      rw (first, first_parts template_of evicted records, chosen, sized, summed-up)

pub total_skips_long : (room : ℕ) (rs : List TemplateRecord) (es : List Entry) (skip : List ℕ) →
    skip ≡ total_skips room rs es zeros → length skip ≡ 1024
unfolding total_skips
total_skips_long room rs es skip e =
    ap length e ∙ length_skipping zeros (take (over_total room rs es) rs) ∙ length-replicate {A = ℕ} 1024 0

-- ---- a removal, where its test and what it skips are computed

module _ (p m : ℕ) (w : List ℕ) (entries : List (List ℕ)) {q : StayTest} {skip w' : List ℕ} {r : Removed}
    (those : entries_of entries ≡ entries_from w entries_at m) where
  pub cut_lem : (l : PendingFlowsConfig) (n c : ℕ) (held handed : List (List ℕ)) →
      templates_of held ≡ records_from w p n → templates_of handed ≡ records_from w (p + record_words * n) c →
      q ≡ small_enough l →
      skip ≡ cut_skips l (templates_of held) (templates_of handed) (entries_of entries) zeros →
      RemovesSkipped q p (n + c) m skip w w' r → Cuts l p n c m w w' r
  cut_lem l n c held handed are behind tested chosen h =
      let told = rw (are, behind, those) at chosen in
      rw (← tested, ← told) h

  pub fit_total_lem : (room k : ℕ) (records : List (List ℕ)) → templates_of records ≡ records_from w p k →
      q ≡ everything → skip ≡ total_skips room (templates_of records) (entries_of entries) zeros →
      RemovesSkipped q p k m skip w w' r → FitsTotal room p k m w w' r
  fit_total_lem room k records are tested chosen h =
      let told = rw (are, those) at chosen in
      rw (← tested, ← told) h

-- ---- the places of entries

module _ (m : ℕ) (w : List ℕ) (entries : List (List ℕ))
    (those : entries_of entries ≡ entries_from w entries_at m) where
  pub ends_within : {n most : ℕ} → places_legal 0 n (entries_from w entries_at m) ≡ true → n ≤ most →
      last_end (entries_of entries) ≤ most
  ends_within {n} legal h = rw those (omega (arith, last_legal n (entries_from w entries_at m) legal))

  module _ (room : ℕ) (b : List ℕ) {end : ℕ} (ends : end ≡ last_end (entries_of entries)) where
    pub places_fit : end ≤ room → FitsPlaces room m w b w b
    unfolding fitted_entries fitted_bytes
    places_fit h =
        let t : leb (last_end (entries_from w entries_at m)) room ≡ true = rw (← those, ← ends) (le-leb end room h) in
        record { entries = rw t; bytes = rw t; head = refl; tail = refl }

    pub places_packed : {w' b' : List ℕ} {r : ℕ} → room < end → Packs m w b w' b' r → FitsPlaces room m w b w' b'
    unfolding fitted_entries fitted_bytes
    places_packed h s =
        let t : leb (last_end (entries_from w entries_at m)) room ≡ false = rw (← those, ← ends) (lt-leb end room h) in
        record { entries = s.entries ∙ rw t; bytes = s.bytes ∙ rw t; head = s.head; tail = s.tail }

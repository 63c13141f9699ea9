-- The removal where all bodies of a record go or none, but for the expired ones of one label, with the header that was
-- read: what the records count is what a count of the entries would come to. Assumes nothing.
use Rattle.std.proofs.Common.{Option, Some, None}
use mathlib.Core.Path.{◌≡◌, refl, sym, ap, ◌∙◌}
use mathlib.Core.Bool.{Bool, true, false, cond}
use mathlib.Core.List.{List}
use Prim.Native.Nat.{ℕ, ◌+◌, ◌*◌, ◌-◌, ◌^◌, ◌≤◌, ◌<◌}
use native.Mathlib.Omega.{arith}
use lib.Dec.{eqb}
use native.Mathlib.Decide.{ℕ_discrete}
use lib.ListN.{length, get_or, set, drop, length-drop, length-set, length-replicate, get_or-replicate}
use lib.Seq.{ext_get_or, get_or-set_same, get_or-set_other}
use borrow.Author.Tests.{eqb-true, eqb-false, ne_eqb, le-leb}
use Rattle.config.specs.Limits.{entry_words}
use Rattle.config.proofs.Lists.{All, all_both}
use Rattle.table.specs.declared.Entry.{Entry}
use Rattle.table.specs.declared.TemplateRecord.{TemplateRecord}
use Rattle.table.specs.Layout.{limits_of, held_count, entry_count, chance_count, entries_at, records_at}
use Rattle.table.specs.Table.{entries_from, records_from, records, has_label, tally}
use Rattle.table.proofs.Words.{length_entries}
use Rattle.table.proofs.Facts.{LegalWords, words_say}
use Rattle.table.proofs.Labels.{tally_most, absent_says, absent_tally}
use Rattle.table_entries.specs.declared.StayTest.{StayTest}
use Rattle.table_entries.specs.declared.sweeps.Kept.{Kept}
use Rattle.table_entries.specs.Sweep.{swept, KeepsOnly}
use Rattle.table_entries.proofs.LabelSums.{length_summed, zeros}
use Rattle.table_entries.proofs.Lengths.{placed_wider}
use Rattle.table_entries.proofs.Swept.{length_swept, all_swept}
use Rattle.table_records.specs.Whole.{whole_count, whole_counts}
use Rattle.table_records.proofs.Skips.{length_each, each_at}
use Rattle.pending_flows.specs.declared.header.Header.{Header}
use Rattle.pending_flows.specs.Header.{HoldsCache}
use Rattle.cache_model.specs.Bodies.{keep}
use Rattle.cache_model.proofs.Weights.{keep_true}
use Rattle.pending_flows.specs.View.{body_at, bodies_at}
use Rattle.pending_flows.proofs.Templates.{length_bodies}
use Rattle.table_view.proofs.Swept.{body_stays, Within, placed_within, body_size, keep_alike, swept_tally}
use Rattle.table_view.proofs.Summed.{len_most, everything_stays}
use Rattle.table_view.proofs.Removed.{label_counts_lem}
use Rattle.pending_calls.specs.declared.removal.Removed.{Removed}
use Rattle.pending_calls.specs.Removal.{everything, unexpired, counted, ClosesApart, SkipsWhole, LiveTold}
use Rattle.pending_calls.specs.Removal.{RemovesFrom}
use Rattle.pending_calls.proofs.Removals.{removal_done}
use Rattle.pending_calls.proofs.RemovedLemmas.{TiedRows, rows_tied, rows_placed, few_bodies, entries_below_records}
use Rattle.pending_calls.proofs.RemovedLemmas.{records_within}
use Rattle.pending_calls.proofs.NoneRemoved.{entries_short}

-- where the expired bodies of one label go, all bodies of another stay
pub others_stay : (b : List ℕ) (ttl : Option ℕ) (now a : ℕ) (es : List Entry) → Within (length b) es →
    All (λ e. e.len ≤ len_most) es → (k : ℕ) → (a ≡ k → ⊥) →
    keep (body_stays (unexpired ttl now a) k) (bodies_at b k es) ≡ bodies_at b k es
unfolding body_stays
others_stay b ttl now a es within short k d =
    keep_alike b (body_stays (unexpired ttl now a) k) (λ x. true) k es
    (all_both _ _ (λ e. body_stays (unexpired ttl now a) k (body_at b e) ≡ true)
    (λ e x y. rw (ne_eqb a k d, body_size b e x) (le-leb e.len len_most y)) es within short)
    ∙ keep_true (bodies_at b k es)

module _ (w b : List ℕ) {h : Header} (holds : HoldsCache h w (length b)) {skip : List ℕ}
    (skips : SkipsWhole skip (records w)) where
  legal : LegalWords w (length b)
  legal = words_say w (length b) holds.legal

  abbrev es : List Entry
  es = entries_from w entries_at (entry_count w)

  rows : TiedRows (records_at (limits_of w)) (held_count w + chance_count w) (entry_count w) w
  rows = rows_tied w (length b) legal

  within : Within (length b) es
  within =
      placed_within 0 (length b) es
      (placed_wider 0 (limits_of w).max_total_bytes (length b) es legal.limits_legal_lem.bytes_enough
      (rows_placed w (length b) legal))

  short : All (λ e. e.len ≤ len_most) es
  short = entries_short w (length b) holds.legal

  few : length es ≤ 4294967295
  few = omega (arith, length_entries w entries_at (entry_count w), few_bodies w (length b) legal)

  -- how many entries of a label are not skipped
  abbrev rest : ℕ → ℕ
  rest k = tally k es - get_or skip k 0

  -- a record counts them, or there is none
  record_rest : (r : TemplateRecord) → r.count ≡ tally r.label es →
      (0 < get_or skip r.label 0 → r.count ≤ get_or skip r.label 0) →
      whole_count (get_or skip r.label 0) r.count ≡ rest r.label
  record_rest r right whole = by_test (eqb (get_or skip r.label 0) 0) refl
    where
      by_test : (t : Bool) → eqb (get_or skip r.label 0) 0 ≡ t → whole_count (get_or skip r.label 0) r.count
          ≡ rest r.label
      by_test true e =
          rw e (omega (arith, eqb-true (get_or skip r.label 0) 0 e, tally_most r.label es, few))
      by_test false e =
          let some : 0 < get_or skip r.label 0 =
          let d : get_or skip r.label 0 ≡ 0 → ⊥ = eqb-false (get_or skip r.label 0) 0 e in omega arith in
          rw e (omega (arith, whole some))

  -- what the records tell
  abbrev told : List ℕ
  told = whole_counts skip zeros (records w)

  told_long : length told ≡ 1024
  told_long =
      length_each (λ r. whole_count (get_or skip r.label 0) r.count) zeros (records w)
      ∙ length-replicate {A = ℕ} 1024 0

  label_told : (k : ℕ) → k < 1024 → get_or told k 0 ≡ rest k
  label_told k small =
      each_at k (λ r. whole_count (get_or skip r.label 0) r.count) (rest k) zeros (records w)
      (omega (arith, length-replicate {A = ℕ} 1024 0))
      (all_both _ _ (λ r. k ≡ r.label → whole_count (get_or skip r.label 0) r.count ≡ rest k)
      (λ r right whole e. record_rest r right whole ∙ ap rest (sym e)) (records w) rows.counts_right
      skips.whole)
      ∙ by_label (has_label k (records w)) refl
    where
      by_label : (t : Bool) → has_label k (records w) ≡ t → cond t (rest k) (get_or zeros k 0) ≡ rest k
      by_label true e = refl
      by_label false e =
          omega (
            arith,
            get_or-replicate {A = ℕ} 1024 k 0 0 small,
            absent_tally k (records w) es (absent_says k (records w) e) rows.labels_known,
          )

  module _ (q : StayTest) where
    abbrev stay : List Entry
    stay = swept q skip es

    -- of a label whose bodies all stay by themselves
    label_kept : (k : ℕ) → k < 1024 → keep (body_stays q k) (bodies_at b k es) ≡ bodies_at b k es →
        get_or told k 0 ≡ tally k stay
    label_kept k small all =
        let bs = bodies_at b k es in
        omega (
          arith,
          label_told k small,
          swept_tally b q k skip es (omega (arith, skips.long)) within
              ∙ ap (λ xs. length (drop (get_or skip k 0) xs)) all,
          length-drop (get_or skip k 0) bs,
          length_bodies b k es,
        )

    counted_by : (kept : List ℕ) → length kept ≡ 1024 → ((k : ℕ) → k < 1024 → get_or kept k 0 ≡ tally k stay) →
        kept ≡ counted stay
    counted_by kept long each =
        ext_get_or 0 kept (counted stay)
        (long ∙ sym (length_summed everything false zeros stay ∙ length-replicate {A = ℕ} 1024 0))
        (λ k h. each k (omega arith)
        ∙ sym (label_counts_lem stay (omega (arith, few, length_swept q skip es))
        (all_swept (λ e. e.len ≤ len_most) q skip es short) k (omega arith)))

  counted_whole : told ≡ counted (swept everything skip es)
  counted_whole =
      counted_by everything told told_long
      (λ k small. label_kept everything k small (everything_stays b k es within short))

  -- the label whose expired bodies go is told by itself
  counted_but_lem : (ttl : Option ℕ) (now a live : ℕ) → live ≡ tally a (swept (unexpired ttl now a) skip es) →
      set told a live ≡ counted (swept (unexpired ttl now a) skip es)
  counted_but_lem ttl now a live stays =
      counted_by (unexpired ttl now a) (set told a live) (length-set told a live ∙ told_long)
      (λ k small. by_label k small (ℕ_discrete k a))
    where
      by_label : (k : ℕ) → k < 1024 → Dec (k ≡ a) → get_or (set told a live) k 0
          ≡ tally k (swept (unexpired ttl now a) skip es)
      by_label k small (yes d) =
          rw d (get_or-set_same told a live 0 (omega (arith, told_long)) ∙ stays)
      by_label k small (no d) =
          get_or-set_other told a k live 0 d
          ∙ label_kept (unexpired ttl now a) k small
          (others_stay b ttl now a es within short k (λ e. d (sym e)))

  -- from the steps of the code
  pub sweep_room : entries_at + entry_words * h.figures.entries ≤ length w
  sweep_room =
      let below = entries_below_records w (length b) legal in
      let inside = records_within w (length b) legal in
      rw holds.figures (omega arith)

  module _ (q : StayTest) (apart : ℕ) where
    -- how many of a label are told to stay
    pub live_small : (live : ℕ) {t : Option ℕ} → t ≡ Some live →
        LiveTold t q apart (swept q skip (entries_from w entries_at h.figures.entries)) → live < 2 ^ 32
    live_small live e stays =
        let told_live = (rw (e, holds.figures) at stays).1 in
        omega (arith, told_live, tally_most apart (stay q), length_swept q skip es, few)

    -- what each label keeps, as it is told before the sweep
    module _ {p : ℕ} (from : p ≡ records_at h.limits) {kept : List ℕ}
        (counts : kept ≡ whole_counts skip zeros (records_from w p (h.figures.templates + h.figures.chance))) where
      told_read : kept ≡ told
      told_read = rw (from, holds.limits, holds.figures) at counts

      module _ {t : Option ℕ}
          (stays : LiveTold t q apart (swept q skip (entries_from w entries_at h.figures.entries))) where
        pub records_told : t ≡ None → kept ≡ counted (stay q)
        records_told e =
            let all : q ≡ everything = rw e at stays in
            told_read ∙ counted_whole ∙ rw all

        pub live_told : (live : ℕ) → t ≡ Some live → set kept apart live ≡ counted (stay q)
        live_told live e =
            let is = rw (e, holds.figures) at stays in
            ap (λ (xs : List ℕ). set xs apart live) told_read
            ∙ counted_but_lem q.ttl q.clock apart live (rw is.0 at is.1)
            ∙ rw is.0

    pub whole_removed : {p : ℕ} → p ≡ records_at h.limits → {kept w₁ w' : List ℕ} {left : Kept} {r : Removed} →
        kept ≡ counted (stay q) →
        KeepsOnly (swept q skip (entries_from w entries_at h.figures.entries)) h.figures.entries w w₁ left →
        ClosesApart p (h.figures.templates + h.figures.chance) apart left kept w₁ w' r → length w' ≡ length w →
        RemovesFrom q apart skip w w' r
    whole_removed from counts s c long =
        removal_done q (records_at (limits_of w)) (held_count w + chance_count w) (entry_count w) apart skip w _
        _ _ _ _ (entries_below_records w (length b) legal, records_within w (length b) legal)
        (rw holds.figures at s) counts (rw (from, holds.limits, holds.figures) at c) long

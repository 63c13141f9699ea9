-- The plan of an offer from its steps, with the header that was read, the parts of the words for each entry and each
-- record, and n templates that go for their bytes. Assumes nothing.
use Rattle.std.proofs.Common.{Option, Some, None}
use Rattle.table.specs.declared.TemplateRecord.{TemplateRecord}
use mathlib.Core.Path.{◌≡◌, refl, sym, ap, ◌∙◌}
use mathlib.Core.Bool.{Bool, true}
use mathlib.Core.List.{List}
use Prim.Native.Nat.{ℕ, ◌+◌, ◌*◌, ◌≤◌, ◌<◌, min}
use native.Mathlib.Omega.{arith}
use lib.ListN.{length, set, take, drop}
use lib.Seq.{set_out}
use Rattle.std.proofs.lemmas.List.{take_min}
use Rattle.config.specs.declared.PendingFlowsConfig.{PendingFlowsConfig}
use Rattle.config.specs.Limits.{record_words}
use Rattle.table.specs.Layout.{limits_of, held_count, chance_count, entries_at, records_at}
use Rattle.table.specs.Table.{table_of, records, entries_from, records_from}
use Rattle.table.specs.Parts.{template_of, entries_of, templates_of}
use Rattle.table.specs.WellFormed.{well_formed}
use Rattle.table.specs.Reads.{record_of, label_in, count_in}
use Rattle.table.proofs.Words.{records_behind}
use Rattle.table.proofs.Facts.{LegalWords, words_say}
use Rattle.table.proofs.Parts.{first_parts, other_parts}
use Rattle.table_entries.proofs.LabelSums.{zeros}
use Rattle.table_records.specs.Choose.{skip_all, skipping}
use Rattle.cache_model.specs.Removal.{evictions}
use Rattle.pending_flows.specs.declared.header.HeaderFigures.{HeaderFigures}
use Rattle.pending_flows.specs.declared.header.Header.{Header}
use Rattle.pending_flows.specs.Header.{HoldsCache}
use Rattle.pending_flows.specs.View.{cache_of}
use Rattle.offer_plan.specs.declared.plan.OfferPlan.{OfferPlan}
use Rattle.offer_plan.specs.declared.plan.Decision.{Decision}
use Rattle.offer_plan.specs.Plan.{live_sums, live_bodies, LiveSeen, LiveRead, is_full, all_expire, for_room}
use Rattle.offer_plan.specs.Plan.{Decides, NothingGoes, none_expires, skip_of, Plans}
use Rattle.offer_plan.proofs.Tables.{evicted_few, held_seen, held_read, held_are}
use Rattle.offer_plan.proofs.Live.{record_keyed, label_is, count_is}
use Rattle.offer_plan.proofs.Labels.{all_drop}
use Rattle.offer_plan.proofs.Skips.{both_long}
use Rattle.offer_plan.proofs.Planned.{plan_made}

module _ (w b : List ℕ) {h : Header} (holds : HoldsCache h w (length b)) (p : ℕ) (from : p ≡ records_at h.limits) where
  abbrev l : PendingFlowsConfig
  l = h.limits

  abbrev f : HeaderFigures
  f = h.figures

  ok : well_formed w (length b) ≡ true
  ok = holds.legal

  legal : LegalWords w (length b)
  legal = words_say w (length b) ok

  start : p ≡ records_at (limits_of w)
  start = from ∙ ap records_at holds.limits

  held_many : f.templates ≡ held_count w
  held_many = ap (λ (g : HeaderFigures). g.templates) holds.figures

  handed_many : f.chance ≡ chance_count w
  handed_many = ap (λ (g : HeaderFigures). g.chance) holds.figures

  -- a plan, by the parts of the words for each entry and each held record
  module _ (parts rows : List (List ℕ)) (entries : entries_of parts ≡ entries_from w entries_at f.entries)
      (templates : templates_of rows ≡ records_from w p f.templates) (as_held : length rows ≡ f.templates)
      (n len : ℕ) (evicted : n ≡ evictions l.max_total_bytes len (cache_of (table_of w) b).held) where
    few : n ≤ held_count w
    few = omega (arith, evicted, evicted_few w b ok l.max_total_bytes len)

    pub leaving_few : n ≤ length rows
    leaving_few = omega (arith, few, held_many, as_held)

    goes : n ≡ evictions (limits_of w).max_total_bytes len (cache_of (table_of w) b).held
    goes =
        evicted
        ∙ ap (λ (k : PendingFlowsConfig). evictions k.max_total_bytes len (cache_of (table_of w) b).held) holds.limits

    entries_are : entries_of parts ≡ (table_of w).entries
    entries_are = entries ∙ rw holds.figures refl

    held_rows : templates_of rows ≡ (table_of w).held
    held_rows = templates ∙ rw (start, held_many) (held_are w b ok)

    -- those that stay
    module _ {staying : List (List ℕ)} (stay : staying ≡ drop n rows) where
      stay_rows : templates_of staying ≡ drop n (table_of w).held
      stay_rows = rw stay (other_parts template_of n rows ∙ ap (drop n) held_rows)

      -- what a decision on them reads
      pub live_read : (clock : ℕ) → LiveRead l.ttl clock (templates_of staying) (entries_of parts)
      live_read clock =
          let all = held_read w b ok clock in
          rw (stay_rows, holds.limits, entries_are) (record {
            some = all_drop _ n (table_of w).held all.some;
            counts = all_drop _ n (table_of w).held all.counts;
            live = all_drop _ n (table_of w).held all.live;
          })

      pub live_seen : (id clock m : ℕ) → m ≡ live_bodies w id clock →
          LiveSeen id m l.ttl clock (templates_of staying) (entries_of parts)
      live_seen id clock m seen =
          let held = (table_of w).held in
          rw (stay_rows, holds.limits, entries_are) (record {
            counted = record_keyed _ id (drop n held) (all_drop _ n held (held_seen w b ok id clock m seen));
          })

      pub plan_done : (id clock c m : ℕ) (label first : Option ℕ) (d : Decision) (x : Option TemplateRecord)
          (full all v u : Bool) → full ≡ is_full d → all ≡ all_expire d → first ≡ for_room d →
          m ≡ live_bodies w id clock →
          Decides l id (live_sums l.ttl clock (entries_of parts)) (templates_of staying) d →
          x ≡ record_of id (templates_of rows) → label ≡ label_in x → c ≡ count_in x →
          (v ≡ true → NothingGoes n f.chance all u) → u ≡ none_expires l.ttl all c m →
          Plans w b id len clock
          (record {
            full = full;
            label = label;
            all = all;
            none = v;
            none_expired = u;
            evicted = n;
            first = first;
          })
      plan_done id clock c m label first d x full all v u is-full is-all is-first seen decided found labelled counted
          certain whole =
          let own : x ≡ record_of id (table_of w).held = found ∙ rw held_rows refl in
          let reads = held_read w b ok clock in
          rw (is-full, is-all, is-first)
          (plan_made w b id len clock ok n goes d (rw (holds.limits, entries_are, stay_rows) at decided) label
          (labelled ∙ label_is reads id own) v u (λ e. rw (handed_many, is-all) at (certain e)) m seen
          (whole ∙ rw (is-all, holds.limits, counted, count_is reads id own) refl) few)

  -- the skips of a plan, by the parts for each record
  module _ (held handed : List (List ℕ)) (first : templates_of held ≡ records_from w p f.templates)
      (behind : templates_of handed ≡ records_from w (p + record_words * f.templates) f.chance) (plan : OfferPlan) where
    held_first : templates_of held ≡ (table_of w).held
    held_first = first ∙ rw (start, held_many) (held_are w b ok)

    handed_behind : templates_of handed ≡ (table_of w).handed
    handed_behind = behind ∙ sym (records_behind w p f.templates f.chance) ∙ rw (start, held_many, handed_many) refl

    -- up to the templates that go for their bytes, and what is handed out
    module _ {n : ℕ} (going : n ≡ min plan.evicted (length held)) {skip₀ skip₁ skip₂ : List ℕ} (none : skip₀ ≡ zeros)
        (leaving : skip₁ ≡ skipping skip₀ (templates_of (take n held)))
        (skipped : skip₂ ≡ skipping skip₁ (templates_of handed)) where
      leaving_rows : templates_of (take n held) ≡ take plan.evicted (table_of w).held
      leaving_rows =
          rw (going, take_min plan.evicted held)
          (first_parts template_of plan.evicted held ∙ ap (take plan.evicted) held_first)

      both : skip₂ ≡ skipping (skipping zeros (take plan.evicted (table_of w).held)) (table_of w).handed
      both = skipped ∙ rw (handed_behind, leaving, leaving_rows, none) refl

      -- none goes for room
      pub skips_done : plan.first ≡ None → skip₂ ≡ skip_of w plan
      unfolding skip_of
      skips_done e =
          let long = both_long (take plan.evicted (table_of w).held) (table_of w).handed in
          both ∙ rw e (sym (set_out _ 1024 skip_all (omega (arith, long))))

      -- the one with this label does
      pub skips_set : {label : ℕ} {skip' : List ℕ} → plan.first ≡ Some label → skip' ≡ set skip₂ label skip_all →
          skip' ≡ skip_of w plan
      unfolding skip_of
      skips_set e first = first ∙ rw (both, e) refl

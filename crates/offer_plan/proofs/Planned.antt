-- The plan that the code makes is the model's. Assumes nothing.
use Rattle.std.proofs.Common.{Option, Some, None}
use mathlib.Core.Path.{◌≡◌, refl, sym, ap, subst, ◌∙◌}
use mathlib.Core.Logic.{◌≢◌}
use mathlib.Core.Bool.{Bool, true, false, not, ◌&&◌, ◌||◌, cond}
use mathlib.Core.List.{List, [], ◌∷◌, ◌++◌}
use Prim.Native.Nat.{ℕ, ◌≤◌, ◌<◌}
use native.Mathlib.Omega.{arith}
use lib.Dec.{eqb, leb, ltb}
use lib.ListN.{length, get_or, take, drop}
use borrow.Author.Tests.{leb-true, eqb-true, not-true, ne_eqb}
use Rattle.config.specs.declared.PendingFlowsConfig.{PendingFlowsConfig}
use Rattle.config.specs.Age.{expired_at}
use Rattle.config.proofs.Tests.{and_left, and_right}
use Rattle.config.proofs.Lists.{All, all_map, all_back}
use Rattle.table.specs.declared.Entry.{Entry}
use Rattle.table.specs.declared.TemplateRecord.{TemplateRecord}
use Rattle.table.specs.Layout.{limits_of, held_count, chance_count}
use Rattle.table.specs.Table.{table_of, index, records_from}
use Rattle.table.specs.WellFormed.{well_formed}
use Rattle.table.specs.Reads.{record_of, label_of, label_or_none, count_of}
use Rattle.table.proofs.Facts.{differ_front, differ_across, Differ}
use Rattle.table_entries.specs.declared.StayTest.{StayTest}
use Rattle.table_entries.specs.Stays.{stays}
use Rattle.table_entries.specs.Sums.{summed}
use Rattle.table_entries.proofs.LabelSums.{zeros}
use Rattle.table_records.specs.Choose.{skip_all, set_each, live_records, label_of_first_live, first_live}
use Rattle.cache_model.specs.Bodies.{Body, Template, size, keep, bodies_of, without, expired}
use Rattle.cache_model.specs.Removal.{evictions, kept_of}
use Rattle.cache_model.specs.Offer.{accepted, refused}
use Rattle.cache_model.proofs.Thinning.{has_id, first_id}
use Rattle.cache_model.proofs.Plans.{Plan, plan_of, plan, thin_by, thin}
use Rattle.pending_flows.specs.View.{bodies_at, templates_at}
use Rattle.table_view.proofs.Tied.{Tied, entries_small}
use Rattle.table_view.proofs.Swept.{body_stays}
use Rattle.table_view.proofs.Closed.{templates_take, templates_drop}
use Rattle.table_view.proofs.AllStay.{none_skipped, all_stay, unaged_stay}
use Rattle.offer_plan.specs.declared.plan.OfferPlan.{OfferPlan}
use Rattle.offer_plan.specs.declared.plan.Decision.{Decision}
use Rattle.offer_plan.specs.Plan.{live_test, live_bodies, live_at, is_full, all_expire, for_room, Decides}
use Rattle.offer_plan.specs.Plan.{NothingGoes, none_expires}
use Rattle.offer_plan.specs.Plan.{plan_test, skip_of, KeepsAll, NoneExpired, Plans}
use Rattle.offer_plan.proofs.RecordReads.{Counted, here_read, others_read, alive_read, first_read}
use Rattle.offer_plan.proofs.Labels.{all_take, all_drop, Alike}
use Rattle.offer_plan.proofs.Labels.{alike, has_alike}
use Rattle.offer_plan.proofs.Sums.{aged_planned, keep_unaged, all_skipped}
use Rattle.offer_plan.proofs.Live.{all_found, record_keyed, count_is, seen_is, label_fresh}
use Rattle.offer_plan.proofs.Skips.{none_set, held_skipped, all_handed_skipped}
use Rattle.offer_plan.proofs.Tables.{rows, labels_small, within, short, entries_few, some_templates}
use Rattle.offer_plan.proofs.Tables.{held_alone, held_seen, held_counted, held_read, handed_are}

cond_and : {A : Type 0} (s t : Bool) (x y : A) → cond (s && t) x y ≡ cond s (cond t x y) y
cond_and true t x y = refl
cond_and false t x y = refl

module _ (w b : List ℕ) (id len clock : ℕ) where
  abbrev l : PendingFlowsConfig
  l = limits_of w

  abbrev es : List Entry
  es = (table_of w).entries

  abbrev held : List TemplateRecord
  held = (table_of w).held

  abbrev ts : List Template
  ts = templates_at b es held

  abbrev old : Body → Bool
  old = expired l.ttl clock

  abbrev lives : ℕ → Body → Bool
  lives j x = not (old x)

  abbrev pub live : List ℕ
  live = summed (live_test l.ttl clock) false zeros es

  -- what is held of the model's plan, once n templates go for their bytes
  abbrev plan_at : List Template → Plan
  plan_at us =
      plan_of l (length (keep (λ x. not (old x)) (bodies_of id us))) (length (without id us))
      (length (kept_of lives us))

  abbrev thin_at : ℕ → Plan → ℕ → List Body → List Body
  thin_at m p j bs =
      cond (has_id j (take m ts)) []
      (cond (p.first && eqb j (first_id (kept_of lives (drop m ts)))) []
      (keep (λ x. not ((p.all || eqb id j) && old x)) bs))

  thin_at_lem : (x : Body) (j : ℕ) (bs : List Body) →
      thin l old id x ts j bs
      ≡ thin_at (evictions l.max_total_bytes (size x) ts) (plan_at
      (drop (evictions l.max_total_bytes (size x) ts) ts)) j bs
  unfolding thin_by
  thin_at_lem x j bs = refl

  module _ (ok : well_formed w (length b) ≡ true) (n : ℕ) (evicted : n ≡ evictions l.max_total_bytes len ts)
      (d : Decision) (decided : Decides l id live (drop n held) d) where
    abbrev stay : List TemplateRecord
    stay = drop n held

    stay_counted : Counted b es (λ x. not (old x)) live stay
    stay_counted = all_drop _ n held (held_counted w b ok clock)

    over_is : (x : Body) → size x ≡ len → evictions l.max_total_bytes (size x) ts ≡ n
    over_is x e = ap (λ (m : ℕ). evictions l.max_total_bytes m ts) e ∙ sym evicted

    stay_is : drop n ts ≡ templates_at b es stay
    stay_is = sym (templates_drop b es n held)

    -- the counts, as they are read
    abbrev here : ℕ
    here = live_at live (label_of id stay)

    abbrev plan_read : Plan
    plan_read = plan_of l here (length (without id (templates_at b es stay))) (live_records live stay)

    plan_read_lem : plan_at (drop n ts) ≡ plan_read
    plan_read_lem =
        ap plan_at stay_is
        ∙ rw (
          here_read b es (λ x. not (old x)) live id stay stay_counted,
          alive_read b es (λ x. not (old x)) live stay stay_counted,
        )

    plan_is : (x : Body) → size x ≡ len → plan l old id x ts ≡ plan_read
    plan_is x e = ap (λ (m : ℕ). plan_at (drop m ts)) (over_is x e) ∙ plan_read_lem

    thin_is : (x : Body) → size x ≡ len → (j : ℕ) (bs : List Body) →
        thin l old id x ts j bs ≡ thin_at n plan_read j bs
    thin_is x e j bs =
        thin_at_lem x j bs
        ∙ ap (λ (m : ℕ). thin_at m (plan_at (drop m ts)) j bs) (over_is x e)
        ∙ ap (λ (p : Plan). thin_at n p j bs) plan_read_lem

    verdict_is : plan_read.verdict ≡ cond (is_full d) (refused 20) accepted
    unfolding plan_of
    verdict_is =
        sym (ap (λ (t : Bool). cond t (refused 20) accepted) decided.full
        ∙ cond_and (ltb 0 here) (leb l.max_entries_per_template here) (refused 20) accepted)

    all_is : plan_read.all ≡ all_expire d
    unfolding plan_of
    all_is =
        sym (decided.all ∙ ap (λ (t : Bool). not (ltb 0 here) && t)
        (others_read b es id l.max_pending_flows stay))

    -- whether the least recent live template goes too
    abbrev goes : Bool
    goes = all_expire d && leb l.max_pending_flows (live_records live stay)

    first_is : plan_read.first ≡ goes
    unfolding plan_of
    first_is = ap (λ (t : Bool). t && leb l.max_pending_flows (live_records live stay)) all_is

    first_alike : (u : TemplateRecord) → All (Alike u) stay →
        goes && eqb u.label (first_live live stay) ≡ goes && eqb u.key (first_id (kept_of lives (drop n ts)))
    first_alike u a = rw stay_is (by_test goes refl)
      where
        by_test : (t : Bool) → goes ≡ t → t && eqb u.label (first_live live stay)
            ≡ t && eqb u.key (first_id (kept_of lives (templates_at b es stay)))
        by_test false e = refl
        by_test true e =
            let many = leb-true l.max_pending_flows (live_records live stay)
            (and_right (all_expire d) (leb l.max_pending_flows (live_records live stay)) e) in
            first_read b es (λ x. not (old x)) live (λ k j. eqb u.label k ≡ eqb u.key j) stay stay_counted a
            (omega (arith, some_templates w b ok))

    module _ (label : Option ℕ) (labelled : label ≡ label_of id held) (v : Bool)
        (t : Bool) (certain : v ≡ true → NothingGoes n (chance_count w) (all_expire d) t) (m : ℕ)
        (seen : m ≡ live_bodies w id clock) (unaged : t ≡ none_expires l.ttl (all_expire d) (count_of id held) m) where
      abbrev made : OfferPlan
      made = record {
        full = is_full d;
        label = label;
        all = all_expire d;
        none = v;
        none_expired = t;
        evicted = n;
        first = for_room d;
      }

      abbrev leaving : List TemplateRecord
      leaving = take n held

      -- the label that is evicted for room, where one is
      first_told : (k : ℕ) → k < 1024 → eqb k (label_or_none (for_room d)) ≡ goes && eqb k (first_live live stay)
      first_told k small =
          rw decided.first (by_tests (all_expire d) (leb l.max_pending_flows (live_records live stay)))
        where
          none : eqb k 1024 ≡ false
          none = ne_eqb k 1024 (λ e. omega arith)

          by_tests : (s t : Bool) →
              eqb k (label_or_none (cond s (cond t (label_of_first_live live stay) None) None))
              ≡ (s && t) && eqb k (first_live live stay)
          by_tests true true = refl
          by_tests true false = none
          by_tests false t = none

      -- what is known of a held record's label and key
      record Told (u : TemplateRecord) : Type 0 where
        small : u.label < 1024
        apart : All (λ v. u.label ≢ v.label) (table_of w).handed
        others : All (Alike u) held
        named : eqb (label_or_none label) u.label ≡ eqb id u.key

      told_thins : (u : TemplateRecord) → Told u →
          drop (get_or (skip_of w made) u.label 0) (keep (body_stays (plan_test l clock made) u.label)
          (bodies_at b u.label es))
          ≡ thin_at n plan_read u.key (bodies_at b u.label es)
      unfolding skip_of
      told_thins u t =
          rw (
            held_skipped leaving (table_of w).handed (label_or_none (for_room d)) u.label t.small t.apart,
            first_told u.label t.small,
            has_alike b es u leaving (all_take (Alike u) n held t.others),
            templates_take b es n held,
            first_alike u (all_drop (Alike u) n held t.others),
            first_is,
            all_is,
          )
          (by_tests (has_id u.key (take n ts)) (goes && eqb u.key (first_id (kept_of lives (drop n ts)))))
        where
          q : StayTest
          q = plan_test l clock made

          bs : List Body
          bs = bodies_at b u.label es

          by_tests : (g f : Bool) → drop (cond f skip_all (cond g skip_all 0)) (keep (body_stays q u.label) bs)
              ≡ cond g [] (cond f [] (keep (λ x. not ((all_expire d || eqb id u.key) && old x)) bs))
          by_tests true true = all_skipped b u.label q skip_all es (within w b ok) (entries_few w b ok)
          by_tests true false = all_skipped b u.label q skip_all es (within w b ok) (entries_few w b ok)
          by_tests false true = all_skipped b u.label q skip_all es (within w b ok) (entries_few w b ok)
          by_tests false false =
              keep_unaged b u.label q es (within w b ok) (short w b ok)
              ∙ ap (λ (s : Bool). keep (λ x. not (s && old x)) bs) (aged_planned (all_expire d) _ u.label)
              ∙ ap (λ (s : Bool). keep (λ x. not ((all_expire d || s) && old x)) bs) t.named

      held_told : All Told held
      held_told =
          each held (labels_small w b ok) (differ_across (λ r. r.label) held (table_of w).handed tied.labels_differ)
          known (rw labelled (held_alone w b ok id))
        where
          tied : Tied (held ++ (table_of w).handed) es (index w)
          tied = rows w b ok

          keys : Differ (λ r. r.key) held
          keys = differ_front (λ r. r.key) held (table_of w).handed tied.keys_differ

          labels : Differ (λ r. r.label) held
          labels = differ_front (λ r. r.label) held (table_of w).handed tied.labels_differ

          known : All (λ u. All (Alike u) held) held
          known = alike held keys labels

          each : (us : List TemplateRecord) → All (λ u. u.label < 1024) us →
              All (λ u. All (λ v. u.label ≢ v.label) (table_of w).handed) us → All (λ u. All (Alike u) held) us →
              All (λ u. eqb (label_or_none label) u.label ≡ eqb id u.key) us → All Told us
          each [] s a o m = tt
          each (u ∷ us) s a o m = (
            record { small = s.0; apart = a.0; others = o.0; named = m.0 },
            each us s.1 a.1 o.1 m.1,
          )

      -- where nothing goes, nothing is skipped
      skips_none : NothingGoes n (chance_count w) (all_expire d) t → skip_of w made ≡ zeros
      unfolding skip_of set_each records_from
      skips_none none =
          let no-first : for_room d ≡ None = decided.first ∙ rw none.one_id in
          rw (no-first, none.evicts_none, ← handed_are w b ok, none.hands_none) none_set

      small : All (λ x. x.label < 1024) es
      small =
          let tied = rows w b ok in
          entries_small (held ++ (table_of w).handed) es tied.labels_small tied.labels_known

      -- where only the id's bodies are aged, and all of them are live
      fresh_stay : all_expire d ≡ false → live_at live (label_of id held) ≡ count_of id held →
          All (λ x. stays (plan_test l clock made) x ≡ true) es
      fresh_stay one counts =
          let fresh =
          subst (λ (k : Option ℕ). All (λ x. eqb (label_or_none k) x.label && expired_at l.ttl clock x.clock ≡ false) es)
          (sym labelled) (label_fresh (held_read w b ok clock) id small counts) in
          all_stay (plan_test l clock made) es (rw one fresh) (short w b ok)

      -- as many are live as the id's record counts
      own_counts : count_of id held ≡ m → live_at live (label_of id held) ≡ count_of id held
      own_counts all =
          let reads = held_read w b ok clock in
          let x = record_of id held in
          let counted = count_is reads id refl in
          sym (seen_is reads id refl m (record { counted = record_keyed _ id held (held_seen w b ok id clock m seen) }))
          ∙ all_found x m (counted ∙ all)
          ∙ counted

      none_expired_here : NoneExpired w clock made
      unfolding none_expires
      none_expired_here e = by_ttl l.ttl refl (sym unaged ∙ e)
        where
          by_ttl : (ttl : Option ℕ) → l.ttl ≡ ttl → none_expires ttl (all_expire d) (count_of id held) m ≡ true →
              All (λ x. stays (plan_test l clock made) x ≡ true) es
          by_ttl None is h = unaged_stay (plan_test l clock made) es is (short w b ok)
          by_ttl (Some limit) is h =
              fresh_stay (not-true (all_expire d) (and_left (not (all_expire d)) (eqb (count_of id held) m) h))
              (own_counts (eqb-true (count_of id held) m (and_right (not (all_expire d)) (eqb (count_of id held) m) h)))

      all_kept : KeepsAll w clock made
      all_kept e =
          let none = certain e in
          rw (skips_none none)
          (none_skipped (plan_test l clock made) es small (none_expired_here none.none_expired))

      pub plan_made : n ≤ held_count w → Plans w b id len clock made
      unfolding skip_of
      plan_made few =
          let handed = (table_of w).handed in
          record {
            verdict = λ x e. ap (λ (p : Plan). p.verdict) (plan_is x e) ∙ verdict_is;
            label = labelled;
            thins = λ x e.
                all_map Told _ (λ u t. told_thins u t ∙ sym (thin_is x e u.key (bodies_at b u.label es)))
                held held_told;
            ends_chance = all_handed_skipped leaving handed (label_or_none (for_room d))
                (all_back (λ u. u.label < 1024) held handed (rows w b ok).labels_small);
            few = few;
            keeps_all = all_kept;
            none_expired = none_expired_here;
          }

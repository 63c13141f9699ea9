-- The words once the header after an offer is written: they hold what the definition leaves. Assumes nothing.
use mathlib.Core.Path.{◌≡◌, refl, sym, ap, ◌∙◌, subst}
use mathlib.Core.Bool.{true}
use mathlib.Core.Option.{some}
use mathlib.Core.List.{List, []}
use Prim.Native.Nat.{ℕ, ◌+◌, ◌≤◌}
use native.Mathlib.Omega.{arith}
use lib.ListN.{length, take, drop, drop_of_length-le}
use lib.Seq.{take_all}
use borrow.Author.Tests.{le-ltb}
use Rattle.areas.specs.Overwrite.{overwritten}
use Rattle.config.specs.declared.PendingFlowsConfig.{PendingFlowsConfig}
use Rattle.config.specs.Limits.{words_needed}
use Rattle.config.proofs.Limits as Config
use Rattle.table.specs.declared.Entry.{Entry}
use Rattle.table.specs.declared.TemplateRecord.{TemplateRecord}
use Rattle.table.specs.Layout.{limits_of, cached_word, dropped_word, entries_at, records_at}
use Rattle.table.specs.Table.{table_of, entries_from, records_from, index_from, sum_lens}
use Rattle.table.specs.WellFormed.{well_formed}
use Rattle.table.proofs.Words.{length_records}
use Rattle.table.proofs.Facts.{Placed, LegalWords, words_say}
use Rattle.table_entries.specs.Sums.{lens_sum}
use Rattle.table_entries.proofs.Frames.{entries_above}
use Rattle.table_records.proofs.Frames.{records_above, index_above}
use Rattle.cache_model.specs.Bodies.{Body, Template, size, expired, all_bodies}
use Rattle.cache_model.specs.Cache.{Cache, Outcome, raised}
use Rattle.cache_model.specs.Offer.{Verdict, Offered, accepted_bodies, refusal_drops, verdict_answer, steps2to5}
use Rattle.cache_model.specs.Offer.{settled, offered}
use Rattle.cache_model.proofs.Calls.{Limited, limited, settled_within}
use Rattle.cache_model.proofs.Drops.{offer_drops}
use Rattle.pending_flows.specs.View.{areas_of, cache_of, view, templates_at, chance_at}
use Rattle.pending_flows.specs.declared.header.HeaderFigures.{HeaderFigures}
use Rattle.pending_flows.specs.declared.header.Header.{Header}
use Rattle.pending_flows.specs.Header.{HoldsCache, figures_at, header_of}
use Rattle.pending_flows.proofs.Templates.{length_all_bodies}
use Rattle.pending_flows.proofs.Weights.{counts_sum}
use Rattle.table_view.proofs.Tied.{Tied}
use Rattle.table_view.proofs.Totals.{lens_owned}
use Rattle.table_view.proofs.Stored.{Stored, table_with, legal_limited, stored_view}
use Rattle.pending_calls.specs.Promises.{Does}
use Rattle.pending_calls.proofs.Headers.{headed, headed_limits, headed_flag, headed_length, headed_behind}
use Rattle.pending_calls.proofs.RemovedLemmas.{TiedRows}
use Rattle.offer_steps.specs.Settle.{settled_figures}

-- a header over rows that no template is handed out from
module _ (l : PendingFlowsConfig) (f : HeaderFigures) (w : List ℕ) where
  pub header_stored : f.chance ≡ 0 → Stored l f.cached f.dropped f.total f.templates f.entries 0
      (records_from w (records_at l) f.templates) (entries_from w entries_at f.entries)
      (index_from w (records_at l) f.templates) (headed l f w)
  header_stored none =
      let words = headed l f w in
      let from = records_at l in
      let behind : drop 12 words ≡ drop 12 w = headed_behind l f w 12 (omega arith) in
      let all : f.templates + 0 ≡ f.templates = omega arith in
      record {
        limits_are = headed_limits l f w;
        ttl_flag_lem = headed_flag l f w;
        cached_is = refl;
        dropped_is = refl;
        total_is = refl;
        held_are = refl;
        entries_many = refl;
        chance_is = none;
        records_are = rw all (records_above words w from f.templates 12 (omega arith) behind);
        index_is = rw all (index_above words w from f.templates 12 (omega arith) behind);
        entries_are = entries_above words w entries_at f.entries 12 (omega arith) behind;
      }

module _ (w b : List ℕ) (ok : well_formed w (length b) ≡ true) (i : ℕ) (x : Body)
    (small : size x ≤ (limits_of w).max_entry_size_bytes) where
  legal : LegalWords w (length b)
  legal = words_say w (length b) ok

  abbrev l : PendingFlowsConfig
  l = limits_of w

  abbrev cache : Cache
  cache = cache_of (table_of w) b

  -- what the offer comes to by the definition
  abbrev pub outcome : Offered
  outcome = steps2to5 l (expired l.ttl x.clock) i x cache.held

  offered_settled : offered i x cache ≡ settled cache x outcome
  unfolding offered
  offered_settled = rw (le-ltb l.max_entry_size_bytes (size x) small)

  -- the cache after it passes no limit
  pub settled_limited : Limited (settled cache x outcome).cache
  settled_limited = limited (settled_within cache (legal_limited w b legal) i x small)

  -- how many bodies went, told by how many entries there are
  module _ {v : Verdict} (verdict : outcome.verdict ≡ v) (b' : List ℕ) {rs : List TemplateRecord} {es : List Entry}
      {is : List ℕ} (tied : Tied rs es is) where
    pub drops_counted : templates_at b' es rs ≡ outcome.left.held → length outcome.left.removed + length es
        ≡ length (all_bodies cache.held) + length (accepted_bodies v x)
    drops_counted left =
        let bodies : length (all_bodies outcome.left.held) ≡ length es =
        ap (λ (ts : List Template). length (all_bodies ts)) (sym left)
        ∙ length_all_bodies b' es rs tied.counts_right
        ∙ counts_sum rs es tied.labels_differ tied.labels_known tied.counts_right in
        omega (
          arith,
          offer_drops l (expired l.ttl x.clock) i x cache.held,
          ap (λ (u : Verdict). length (accepted_bodies u x)) verdict,
        )

  -- rows that stand for what is left held, and the header over them
  module _ {v : Verdict} (verdict : outcome.verdict ≡ v) (w₁ b' : List ℕ) (k m leaving total : ℕ)
      (tied : TiedRows (records_at l) k m w₁)
      (placed : Placed 0 l.max_total_bytes (entries_from w₁ entries_at m))
      (left : templates_at b' (entries_from w₁ entries_at m) (records_from w₁ (records_at l) k) ≡ outcome.left.held)
      (sum : total ≡ lens_sum (entries_from w₁ entries_at m))
      (drops : leaving ≡ length outcome.left.removed + refusal_drops v)
      (bytes_long : length b' ≡ length b) (words_long : length w₁ ≡ length w) where
    abbrev rs : List TemplateRecord
    rs = records_from w₁ (records_at l) k

    abbrev es : List Entry
    es = entries_from w₁ entries_at m

    abbrev figures : HeaderFigures
    figures = settled_figures (figures_at w) (length (accepted_bodies v x)) leaving total k m

    abbrev settled_words : List ℕ
    settled_words = headed l figures w₁

    all_held : take k rs ≡ rs
    all_held = take_all k rs (omega (arith, length_records w₁ (records_at l) k))

    none_handed : drop k rs ≡ []
    none_handed = drop_of_length-le rs {i = k} (omega (arith, length_records w₁ (records_at l) k))

    settled_cache : cache_of (table_with l figures.cached figures.dropped figures.total k rs es) b'
        ≡ (settled cache x outcome).cache
    unfolding settled
    settled_cache = λ j. record {
      limits = l;
      cached = raised (cached_word w) (length (accepted_bodies (sym verdict j) x));
      dropped = raised (dropped_word w)
          ((drops ∙ ap (λ (u : Verdict). length outcome.left.removed + refusal_drops u) (sym verdict)) j);
      held = (ap (templates_at b' es) all_held ∙ left) j;
      chance = ap (chance_at b' es) none_handed j;
    }

    settled_view : view (areas_of settled_words b') ≡ some (settled cache x outcome).cache
    settled_view =
        let long : length settled_words ≡ length w =
        headed_length l figures w₁ (omega (arith, legal.header_long)) ∙ words_long in
        let limits : Config.LegalLimits l (length b') (length settled_words) =
        rw (bytes_long, long) legal.limits_legal_lem in
        let lens : total ≡ sum_lens (take k rs) es = sum ∙ rw all_held (lens_owned rs es tied.labels_known) in
        (stored_view (header_stored l figures w₁ refl) b' (omega arith) limits (omega (arith, legal.header_long)) tied
        placed lens (subst Limited (sym settled_cache) settled_limited)).1
        ∙ ap (λ (c : Cache). some c) settled_cache

    -- the header as it is written, with the one that was read
    pub settled_does : {h : Header} {w' : List ℕ} → HoldsCache h w (length b) →
        w' ≡ overwritten w₁
        (header_of h.limits (settled_figures h.figures (length (accepted_bodies v x)) leaving total k m)) →
        drop l.max_total_bytes b' ≡ drop l.max_total_bytes b →
        drop (words_needed l) w₁ ≡ drop (words_needed l) w →
        Does (offered i x) cache (areas_of w b) (verdict_answer v) (areas_of w' b')
    unfolding settled overwritten
    settled_does holds written bytes_behind words_behind =
        let same = sym offered_settled in
        let is : _ ≡ settled_words = written ∙ rw (holds.limits, holds.figures) in
        rw is (record {
          answer = ap verdict_answer (sym verdict) ∙ ap (λ (o : Outcome). o.answer) same;
          holds = settled_view ∙ ap (λ (o : Outcome). some o.cache) same;
          frame = record {
            words_behind = headed_behind l figures w₁ (words_needed l) (omega arith) ∙ words_behind;
            bytes_behind = bytes_behind;
            words_long = headed_length l figures w₁ (omega (arith, legal.header_long)) ∙ words_long;
            bytes_long = bytes_long;
          };
        })

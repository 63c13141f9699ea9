-- The steps of a drain, with the header and the label as they were read: what each step asks, and what all do.
-- Assumes nothing.
use Rattle.std.proofs.Common.{Option, Ok, Err}
use mathlib.Core.Path.{◌≡◌, ap}
use mathlib.Core.Bool.{true, false}
use mathlib.Core.List.{List}
use Prim.Native.Nat.{ℕ, ◌+◌, ◌*◌, ◌-◌, ◌%◌, ◌^◌, ◌≤◌, ◌<◌}
use native.Mathlib.Omega.{arith}
use lib.ListN.{length}
use Rattle.areas.specs.Overwrite.{overwritten}
use Rattle.config.specs.Limits.{header_words, record_words}
use Rattle.table.specs.declared.LiveFigures.{LiveFigures}
use Rattle.table.specs.Layout.{limits_of, entries_at, records_at}
use Rattle.table.specs.Table.{table_of, entries_from, records_from, index_from}
use Rattle.table.specs.Reads.{label_of, live_lens, live_figures, count_sum, label_or_none}
use Rattle.table.specs.WellFormed.{index_rises, well_formed}
use Rattle.table.proofs.Facts.{LegalWords, words_say}
use Rattle.table.proofs.FoundLabels.{label_for}
use Rattle.cache_model.specs.Cache.{raised, count}
use Rattle.cache_model.specs.Calls.{drained}
use Rattle.pending_flows.specs.declared.header.Header.{Header}
use Rattle.pending_flows.specs.Header.{HoldsCache, header_at, header_of}
use Rattle.pending_flows.specs.View.{areas_of, cache_of}
use Rattle.pending_flows.proofs.Figures.{handed_few}
use Rattle.pending_calls.specs.declared.removal.Removed.{Removed}
use Rattle.pending_calls.specs.Promises.{Does}
use Rattle.pending_calls.proofs.Performed.{damaged_performs, performed, untouched_all}
use Rattle.pending_calls.proofs.RemovedLemmas.{records_within}
use Rattle.pending_drain.specs.Handing.{TakesOut, HandsOut}
use Rattle.pending_drain.specs.Promises.{Drains}
use Rattle.pending_drain.proofs.AsRead.{as_labelled}
use Rattle.pending_drain.proofs.TakenOut.{out_tied, out_fewer}
use Rattle.pending_drain.proofs.Drained.{live_fits, left_few, drain_does}

-- what is asked before the header is written: of so many entries some were handed out before, and some are left, of so
-- many bytes, some of them live
pub record Settling (entries handed left bytes live : ℕ) (w : List ℕ) : Type 0 where
  pub less_handed : handed ≤ entries
  pub less_left : left ≤ entries - handed
  pub less_live : live ≤ bytes
  pub header_fits : header_words ≤ length w

module _ (w b : List ℕ) (i now : ℕ) {h : Header} (holds : HoldsCache h w (length b)) {x : Option ℕ}
    (labelled : x ≡ label_of i (records_from w (records_at h.limits) h.figures.templates)) {w₁ : List ℕ} {r : Removed}
    (out : TakesOut h now (label_or_none x) w w₁ r) where
  abbrev a : ℕ
  a = label_or_none x

  abbrev Ready : ℕ → Type 0
  Ready p =
      (0 < r.apart → p + record_words * (r.records + 1) ≤ length w₁) ×
      (index_rises (records_from w₁ p r.records) 0 (index_from w₁ p r.records) ≡ true)

  pub hand_ready : Ready (records_at h.limits)
  hand_ready =
      as_labelled w (length b) holds i labelled (λ h a. TakesOut h now a w w₁ r → Ready (records_at h.limits)) ready out
    where
      legal : LegalWords w (length b)
      legal = words_say w (length b) holds.legal

      ready : TakesOut (header_at w) now (label_for i (table_of w).held) w w₁ r → Ready (records_at (limits_of w))
      ready o = (
        λ some. omega (
          arith,
          out_fewer w b i now legal o some,
          records_within w (length b) legal,
          o.long,
        ),
        (out_tied w b i now legal o).index_right,
      )

  module _ {m : LiveFigures} (read : m ≡ live_figures h.limits.ttl now a (entries_from w entries_at h.figures.entries))
      (id : i < 65536) {w₂ : List ℕ} {c n : ℕ}
      (hand : HandsOut (records_at h.limits) r.records (record { key = i; label = a; count = r.apart }) w₁ w₂ c)
      (long : length w₂ ≡ length w) (handed : n ≡ count_sum (table_of w).handed) where
    -- where what was taken out and handed out says it, with the header and label read
    after_hand : (T : Header → Type 0) →
        (TakesOut (header_at w) now (label_for i (table_of w).held) w w₁ r → HandsOut (records_at (limits_of w)) r.records
        (record { key = i; label = label_for i (table_of w).held; count = r.apart }) w₁ w₂ c →
        m.bytes ≡ live_lens (limits_of w).ttl now (label_for i (table_of w).held) (table_of w).entries % 2 ^ 64 →
        T (header_at w)) → T h
    after_hand T t =
        as_labelled w (length b) holds i labelled
        (λ h a. TakesOut h now a w w₁ r → HandsOut (records_at h.limits) r.records
        (record { key = i; label = a; count = r.apart }) w₁ w₂ c →
        m.bytes ≡ live_lens h.limits.ttl now a (entries_from w entries_at h.figures.entries) % 2 ^ 64 → T h) t out
        hand (ap (λ (x : LiveFigures). x.bytes) read)

    pub settling : Settling h.figures.entries n r.entries r.bytes m.bytes w₂
    settling =
        after_hand (λ h. Settling h.figures.entries n r.entries r.bytes m.bytes w₂)
        (λ o k u. record {
          less_handed = handed_few w b holds.legal handed;
          less_left = left_few w b i now holds.legal o id k long handed u;
          less_live = live_fits w b i now holds.legal o id k long handed u;
          header_fits = omega (arith, (words_say w (length b) holds.legal).header_long);
        })

    -- the header that is written
    abbrev Written : Header → ℕ → List ℕ → Type 0
    Written h d w₃ =
        w₃ ≡ overwritten w₂ (header_of h.limits (record {
          cached = h.figures.cached;
          dropped = d;
          total = r.bytes - m.bytes;
          templates = r.records;
          entries = r.entries;
          chance = c;
        }))

    pub drain_done : {d : ℕ} {w₃ : List ℕ} → d ≡ raised h.figures.dropped (h.figures.entries - n - r.entries) →
        Written h d w₃ →
        Does (drained i now) (cache_of (table_of w) b) (areas_of w b) (count r.apart) (areas_of w₃ b)
    unfolding overwritten
    drain_done {d} {w₃} dropped written =
        after_hand
        (λ h. d ≡ raised h.figures.dropped (h.figures.entries - n - r.entries) → Written h d w₃ →
        Does (drained i now) (cache_of (table_of w) b) (areas_of w b) (count r.apart) (areas_of w₃ b))
        (λ o k u x y. rw (y, x) (drain_does w b i now holds.legal o id k long handed u)) dropped written

-- the call, behind the test of 28
module _ (w b : List ℕ) (i now : ℕ) where
  pub drain_damaged : well_formed w (length b) ≡ false → Drains i now (areas_of w b) (Err (record {})) (areas_of w b)
  drain_damaged damaged = record {
    performs = damaged_performs w b (drained i now) damaged;
    frame = untouched_all _ _ _;
  }

  pub drain_handed : {h : Header} → HoldsCache h w (length b) → {w' b' : List ℕ} {n : ℕ} →
      Does (drained i now) (cache_of (table_of w) b) (areas_of w b) (count n) (areas_of w' b') →
      Drains i now (areas_of w b) (Ok n) (areas_of w' b')
  drain_handed holds d = record { performs = performed w b (drained i now) holds.legal d; frame = d.frame }

-- Areas before and after an opening. Assumes nothing.
use Rattle.std.proofs.Common.{Option, Some, None, Result, Ok, Err}
use Rattle.std.specs.Prelude.{⊤}
use mathlib.Core.Path.{◌≡◌, refl, ap, sym, ◌∙◌}
use mathlib.Core.Bool.{true, false}
use mathlib.Core.List.{List, [], ◌∷◌, ◌++◌}
use mathlib.Core.Option.{some}
use Prim.Native.Nat.{ℕ, ◌+◌, ◌-◌, ◌≤◌}
use native.Mathlib.Omega.{arith}
use lib.Dec.{eqb, leb}
use lib.ListN.{length, drop, length-drop}
use lib.Seq.{drop-drop, drop-append-add}
use borrow.Author.Tests.{le-leb, eq-eqb}
use Rattle.areas.specs.Overwrite.{overwritten}
use Rattle.config.specs.declared.PendingFlowsConfig.{PendingFlowsConfig}
use Rattle.config.specs.declared.ConfigRefusal.{ConfigRefusal}
use Rattle.config.specs.declared.ConfigRefusal.TheVariants.{NoTemplates, NoEntries, EntrySize, TotalBytes, Areas}
use Rattle.config.specs.Limits.{refusal_number, config_number, header_words, words_needed, max_bodies}
use Rattle.config.proofs.Limits.{limits_say}
use Rattle.table.specs.Layout.{ttl_of, limits_of}
use Rattle.table.specs.Table.{entries_from, records_from, index_from}
use Rattle.table.specs.WellFormed.{well_formed, index_rises}
use Rattle.cache_model.specs.Told.{limits_of as limits_from}
use Rattle.cache_model.specs.Calls.{opened}
use Rattle.cache_model.specs.Reply.{opening}
use Rattle.pending_flows.specs.declared.header.HeaderFigures.{HeaderFigures}
use Rattle.pending_flows.specs.Header.{ttl_flag, ttl_word, header_of, opened_header}
use Rattle.pending_flows.specs.View.{areas_of, view}
use Rattle.pending_flows.specs.Opening.{Opens}

-- the words once the header is written
abbrev opened_words : PendingFlowsConfig → List ℕ → List ℕ
opened_words l w = opened_header l ++ drop 12 w

pub ttl_back : (t : Option ℕ) → ttl_of (ttl_flag t) (ttl_word t) ≡ t
ttl_back None = refl
ttl_back (Some n) = refl

flag_small : (t : Option ℕ) → leb (ttl_flag t) 1 ≡ true
flag_small None = refl
flag_small (Some n) = refl

limits_back : (l : PendingFlowsConfig) (w : List ℕ) → limits_of (opened_words l w) ≡ l
limits_back l w =
    ap
    (λ (t : Option ℕ).
    limits_from l.max_pending_flows l.max_entries_per_template l.max_entry_size_bytes
    l.max_total_bytes t)
    (ttl_back l.ttl)

module _ (l : PendingFlowsConfig) (w b : List ℕ) (ok : config_number l (length b) (length w) ≡ 0) where
  room : words_needed l ≤ length w
  room = (limits_say l (length b) (length w) ok).words_enough

  same_length : length (opened_words l w) ≡ length w
  same_length = omega (arith, room, length-drop 12 w)

  -- what was behind the cache's words still is
  behind : drop (words_needed l) (opened_words l w) ≡ drop (words_needed l) w
  behind =
      let n = words_needed l - 12 in
      let z : words_needed l ≡ length (opened_header l) + n = omega arith in
      rw z (drop-append-add (opened_header l) (drop 12 w) n ∙ drop-drop n 12 w)

  newly_opened : view (areas_of (opened_words l w) b) ≡ some (opened l)
  unfolding view well_formed entries_from records_from index_from index_rises
  newly_opened =
      rw (
        limits_back l w,
        same_length,
        le-leb 64 (length w) (omega (arith, room)),
        eq-eqb (config_number l (length b) (length w)) 0 ok,
        flag_small l.ttl,
        le-leb 0 l.max_pending_flows (omega arith),
        le-leb 0 (max_bodies l) (omega arith),
      )

-- a refused opening changes nothing
pub opening_refused : (l : PendingFlowsConfig) (w b : List ℕ) {r : Result ⊤ ConfigRefusal} {n : ConfigRefusal} →
    refusal_number n ≡ config_number l (length b) (length w) → r ≡ Err n → Opens l (areas_of w b) r (areas_of w b)
unfolding opening
opening_refused l w b {n = n} e is =
    let no : eqb (config_number l (length b) (length w)) 0 ≡ false = rw (← e) (not_zero n) in
    rw is
    (record {
      answer = rw (no, ← e);
      holds = rw no;
      refused = λ _. refl;
      bytes = refl;
      frame = λ _. refl;
      long = refl;
    })
  where
    not_zero : (n : ConfigRefusal) → eqb (refusal_number n) 0 ≡ false
    not_zero NoTemplates = refl
    not_zero NoEntries = refl
    not_zero EntrySize = refl
    not_zero TotalBytes = refl
    not_zero Areas = refl

module _ (l : PendingFlowsConfig) (w b : List ℕ) (e : 0 ≡ config_number l (length b) (length w)) where
  -- an accepted one writes the header
  pub opening_done : {w' : List ℕ} → w' ≡ overwritten w (opened_header l) →
      Opens l (areas_of w b) (Ok tt) (areas_of w' b)
  unfolding overwritten opening
  opening_done g =
      rw g
      (record {
        answer = rw (← e);
        holds = rw (← e) (newly_opened l w b (sym e));
        refused = λ h. absurd (h refl);
        bytes = refl;
        frame = λ _. behind l w b (sym e);
        long = same_length l w b (sym e);
      })

  -- legal limits leave room for the header
  pub header_fits : header_words ≤ length w
  header_fits = omega (arith, room l w b (sym e))

-- the header from its parts
pub header_written : (l : PendingFlowsConfig) (f : HeaderFigures) (w w' : List ℕ) (set ttl : ℕ) →
    set ≡ ttl_flag l.ttl → ttl ≡ ttl_word l.ttl →
    w' ≡ overwritten w
    (l.max_pending_flows ∷ l.max_entries_per_template ∷ l.max_entry_size_bytes ∷ l.max_total_bytes
    ∷ set ∷ ttl ∷ f.cached ∷ f.dropped ∷ f.total ∷ f.templates ∷ f.entries ∷ f.chance ∷ []) →
    w' ≡ overwritten w (header_of l f)
header_written l f w w' set ttl e x g = g ∙ rw (e, x)

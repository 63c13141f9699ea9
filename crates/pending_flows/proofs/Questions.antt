-- What a query or a call may read of a well-formed table. Assumes nothing.
use Rattle.std.proofs.Common.{Result, Ok, Err}
use mathlib.Core.Path.{◌≡◌, ap, sym, ◌∙◌}
use mathlib.Core.Bool.{true, false}
use mathlib.Core.List.{List, ◌++◌}
use mathlib.Core.Option.{none, some}
use Prim.Native.Nat.{ℕ, ◌+◌, ◌*◌, ◌≤◌}
use native.Mathlib.Omega.{arith}
use lib.ListN.{length}
use Rattle.config.specs.declared.PendingFlowsConfig.{PendingFlowsConfig}
use Rattle.config.specs.Limits.{header_words, record_words, entry_words, max_bodies}
use Rattle.config.proofs.Lists.{all_map}
use Rattle.table.specs.declared.Damaged.{Damaged}
use Rattle.table.specs.Layout.{limits_of, held_count, entry_count, records_at}
use Rattle.table.specs.Table.{table_of, tally}
use Rattle.table.specs.WellFormed.{well_formed}
use Rattle.table.proofs.Facts.{LegalWords, words_say}
use Rattle.table.proofs.Labels.{absent_tally}
use Rattle.table_watch.specs.declared.Sought.{Sought}
use Rattle.table_watch.specs.declared.LabelSeen.{LabelSeen}
use Rattle.table_watch.proofs.Verdicts.{is_damaged, is_legal}
use Rattle.table_check.specs.Examined.{examined}
use Rattle.pending_flows.specs.declared.header.Header.{Header}
use Rattle.pending_flows.specs.Header.{HoldsCache, header_at}
use Rattle.pending_flows.specs.View.{areas_of, cache_of, view}
pub use Rattle.table.proofs.Words.{first_records}

-- the areas were examined: x is what was answered
module _ (w : List ℕ) (n : ℕ) (sought : Sought) {x : Result LabelSeen Damaged} (tested : x ≡ examined w n sought) where
  pub seen_damaged : x ≡ Err (record {}) → well_formed w n ≡ false
  seen_damaged e = sym (is_damaged (well_formed w n) _ tested e)

  pub seen_legal : {s : LabelSeen} → x ≡ Ok s → well_formed w n ≡ true
  seen_legal e = sym (is_legal (well_formed w n) _ tested e)

-- the header that is read of a well-formed cache is its header
pub header_read : (w : List ℕ) (n : ℕ) {h : Header} → well_formed w n ≡ true → h ≡ header_at w → HoldsCache h w n
header_read w n ok e = record {
  legal = ok;
  limits = ap (λ (h : Header). h.limits) e;
  figures = ap (λ (h : Header). h.figures) e;
}

pub header_is : (w : List ℕ) (n : ℕ) {h : Header} → HoldsCache h w n → h ≡ header_at w
header_is w n holds = λ j. record { limits = holds.limits j; figures = holds.figures j }

-- what the areas stand for
module _ (w b : List ℕ) where
  pub view_none : well_formed w (length b) ≡ false → view (areas_of w b) ≡ none
  unfolding view
  view_none damaged = rw damaged

  pub view_some : well_formed w (length b) ≡ true → view (areas_of w b) ≡ some (cache_of (table_of w) b)
  unfolding view
  view_some ok = rw ok

-- what the words of a well-formed table hold is within them, and what is no label is no entry's
module _ (w : List ℕ) (n : ℕ) (ok : well_formed w n ≡ true) where
  legal : LegalWords w n
  legal = words_say w n ok

  pub header_within : header_words ≤ length w
  header_within = legal.header_long

  pub records_within : (l : PendingFlowsConfig) (p : ℕ) → l ≡ limits_of w → p ≡ records_at l →
      p + record_words * held_count w ≤ length w
  records_within l p e f =
      let z : p ≡ records_at (limits_of w) = f ∙ ap records_at e in
      omega (arith, legal.templates_fit, legal.limits_legal_lem.words_enough)

  pub entries_within : header_words + entry_words * entry_count w ≤ length w
  entries_within = omega (arith, legal.entries_fit, legal.limits_legal_lem.words_enough)

  pub bodies_few : (l : PendingFlowsConfig) → l ≡ limits_of w → max_bodies l ≤ 262144
  bodies_few l e = let z : max_bodies l ≡ max_bodies (limits_of w) = ap max_bodies e in omega
      (arith, legal.limits_legal_lem.bodies_few)

  pub none_unlabelled : tally 1024 (table_of w).entries ≡ 0
  none_unlabelled =
      let all = (table_of w).held ++ (table_of w).handed in
      absent_tally 1024 all (table_of w).entries
      (all_map _ _ (λ r x d. omega (arith, x.label_small)) all legal.table_legal_lem.records_legal)
      (all_map _ _ (λ e x. x.label_known) (table_of w).entries legal.table_legal_lem.entries_legal)

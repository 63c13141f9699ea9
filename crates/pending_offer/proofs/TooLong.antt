-- An offer that is turned down with 6: one more in the drop counter's word, and nothing else. Assumes nothing.
use mathlib.Core.Path.{◌≡◌, refl, sym, ap, ◌∙◌}
use mathlib.Core.Bool.{true}
use mathlib.Core.Option.{some}
use mathlib.Core.List.{List}
use Prim.Native.Nat.{ℕ, ◌<◌}
use native.Mathlib.Omega.{arith}
use lib.ListN.{length, set, drop, length-set}
use lib.Seq.{drop-set-lt}
use borrow.Author.Tests.{lt-ltb}
use Rattle.config.specs.Limits.{words_needed}
use Rattle.config.proofs.Limits as Config
use Rattle.table.specs.Layout.{limits_of, cached_word, dropped_word, total_word, held_count, entry_count, chance_count}
use Rattle.table.specs.Layout.{entries_at, records_at}
use Rattle.table.specs.Table.{table_of, records, index}
use Rattle.table.specs.WellFormed.{well_formed}
use Rattle.table.proofs.Facts.{LegalWords, words_say}
use Rattle.table_entries.proofs.Frames.{entries_above}
use Rattle.table_records.proofs.Frames.{word_other, word_same, records_above, index_above}
use Rattle.cache_model.specs.Bodies.{Body, size}
use Rattle.cache_model.specs.Cache.{Outcome, number, raised}
use Rattle.cache_model.specs.Offer.{refused_size, offered}
use Rattle.cache_model.proofs.Calls.{refused_size_within}
use Rattle.pending_flows.specs.View.{areas_of, cache_of, view}
use Rattle.pending_flows.specs.Header.{dropped_at}
use Rattle.table_view.proofs.Stored.{Stored, legal_limited, stored_view}
use Rattle.pending_calls.specs.Promises.{Does}
use Rattle.pending_calls.proofs.RemovedLemmas.{rows_tied, rows_placed}

module _ (w b : List ℕ) (ok : well_formed w (length b) ≡ true) where
  legal : LegalWords w (length b)
  legal = words_say w (length b) ok

  abbrev dropped : ℕ
  dropped = raised (dropped_word w) 1

  abbrev words : List ℕ
  words = set w dropped_at dropped

  limits_same : limits_of words ≡ limits_of w
  limits_same =
      rw (
        word_other w 7 0 dropped (λ e. omega arith),
        word_other w 7 1 dropped (λ e. omega arith),
        word_other w 7 2 dropped (λ e. omega arith),
        word_other w 7 3 dropped (λ e. omega arith),
        word_other w 7 4 dropped (λ e. omega arith),
        word_other w 7 5 dropped (λ e. omega arith),
      )

  behind : drop 12 words ≡ drop 12 w
  behind = drop-set-lt 12 w 7 dropped (omega arith)

  stored : Stored (limits_of w) (cached_word w) dropped (total_word w) (held_count w) (entry_count w) (chance_count w)
      (records w) (table_of w).entries (index w) words
  stored =
      let from = records_at (limits_of w) in
      record {
        limits_are = limits_same;
        ttl_flag_lem = rw (word_other w 7 4 dropped (λ e. omega arith)) legal.ttl_flag_lem;
        cached_is = word_other w 7 6 dropped (λ e. omega arith);
        dropped_is = word_same w 7 dropped (omega (arith, legal.header_long));
        total_is = word_other w 7 8 dropped (λ e. omega arith);
        held_are = word_other w 7 9 dropped (λ e. omega arith);
        entries_many = word_other w 7 10 dropped (λ e. omega arith);
        chance_is = word_other w 7 11 dropped (λ e. omega arith);
        records_are = records_above words w from _ 12 (omega arith) behind;
        index_is = index_above words w from _ 12 (omega arith) behind;
        entries_are = entries_above words w entries_at (entry_count w) 12 (omega arith) behind;
      }

  dropped_view : view (areas_of words b) ≡ some (refused_size (cache_of (table_of w) b)).cache
  unfolding refused_size
  dropped_view =
      let long : length words ≡ length w = length-set w dropped_at dropped in
      let limits : Config.LegalLimits (limits_of w) (length b) (length words) = rw long legal.limits_legal_lem in
      (stored_view stored b legal.chance_flag limits (omega (arith, legal.header_long))
      (rows_tied w (length b) legal) (rows_placed w (length b) legal) legal.table_legal_lem.total_right
      (refused_size_within (cache_of (table_of w) b) (legal_limited w b legal))).1

  refused : (i : ℕ) (x : Body) → (limits_of w).max_entry_size_bytes < size x →
      offered i x (cache_of (table_of w) b) ≡ refused_size (cache_of (table_of w) b)
  unfolding offered
  refused i x long = rw (lt-ltb (limits_of w).max_entry_size_bytes (size x) long)

  pub too_long_does : (i : ℕ) (x : Body) {w' : List ℕ} → (limits_of w).max_entry_size_bytes < size x → w' ≡ words →
      Does (offered i x) (cache_of (table_of w) b) (areas_of w b) (number 6) (areas_of w' b)
  unfolding refused_size
  too_long_does i x long is =
      let same : refused_size (cache_of (table_of w) b) ≡ offered i x (cache_of (table_of w) b) = sym
      (refused i x long) in
      rw is (record {
        answer = ap (λ (o : Outcome). o.answer) same;
        holds = dropped_view ∙ ap (λ (o : Outcome). some o.cache) same;
        frame = record {
          words_behind = drop-set-lt (words_needed (limits_of w)) w 7 dropped (omega arith);
          bytes_behind = refl;
          words_long = length-set w dropped_at dropped;
          bytes_long = refl;
        };
      })

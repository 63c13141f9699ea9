-- A header written over rows that belong together: the words hold the table that the header and the rows say.
-- Assumes nothing.
use mathlib.Core.Path.{◌≡◌, refl, sym, ap, subst, ◌∙◌}
use mathlib.Core.List.{List}
use mathlib.Core.Option.{some}
use Prim.Native.Nat.{ℕ, ◌+◌, ◌≤◌}
use native.Mathlib.Omega.{arith}
use lib.ListN.{length, take, drop}
use Rattle.config.specs.declared.PendingFlowsConfig.{PendingFlowsConfig}
use Rattle.config.specs.Limits.{words_needed}
use Rattle.config.proofs.Limits as Config
use Rattle.table.specs.Layout.{limits_of, entries_at, records_at}
use Rattle.table.specs.Table.{entries_from, records_from, index_from, sum_lens}
use Rattle.table.proofs.Facts.{Placed, LegalWords}
use Rattle.table_entries.proofs.Frames.{entries_above}
use Rattle.table_records.proofs.Frames.{records_above, index_above}
use Rattle.cache_model.specs.Cache.{Cache}
use Rattle.cache_model.proofs.Calls.{Limited}
use Rattle.pending_flows.specs.declared.header.HeaderFigures.{HeaderFigures}
use Rattle.pending_flows.specs.View.{areas_of, cache_of, view}
use Rattle.pending_flows.proofs.Questions.{first_records}
use Rattle.table_view.proofs.Stored.{Stored, table_with, stored_view}
use Rattle.pending_calls.specs.Promises.{UntouchedPast}
use Rattle.pending_calls.proofs.Headers.{headed, headed_flag, headed_limits, headed_length, headed_behind}
use Rattle.pending_calls.proofs.RemovedLemmas.{TiedRows}

module _ (w b w' : List ℕ) (legal : LegalWords w (length b)) (f : HeaderFigures) (long : length w' ≡ length w) where
  abbrev l : PendingFlowsConfig
  l = limits_of w

  abbrev p : ℕ
  p = records_at l

  abbrev written : List ℕ
  written = headed l f w'

  written_long : length written ≡ length w
  written_long = headed_length l f w' (omega (arith, legal.header_long)) ∙ long

  written_stored : Stored l f.cached f.dropped f.total f.templates f.entries f.chance
      (records_from w' p (f.templates + f.chance)) (entries_from w' entries_at f.entries)
      (index_from w' p (f.templates + f.chance)) written
  written_stored =
      let behind : drop 12 written ≡ drop 12 w' = headed_behind l f w' 12 (omega arith) in
      let many = f.templates + f.chance in
      record {
        limits_are = headed_limits l f w';
        ttl_flag_lem = headed_flag l f w';
        cached_is = refl;
        dropped_is = refl;
        total_is = refl;
        held_are = refl;
        entries_many = refl;
        chance_is = refl;
        records_are = records_above written w' p many 12 (omega arith) behind;
        index_is = index_above written w' p many 12 (omega arith) behind;
        entries_are = entries_above written w' entries_at f.entries 12 (omega arith) behind;
      }

  pub written_frame : drop (words_needed l) w' ≡ drop (words_needed l) w →
      UntouchedPast l (areas_of w b) (areas_of written b)
  written_frame same = record {
    words_behind = headed_behind l f w' (words_needed l) (omega arith) ∙ same;
    bytes_behind = refl;
    words_long = written_long;
    bytes_long = refl;
  }

  pub written_view : TiedRows p (f.templates + f.chance) f.entries w' → f.chance ≤ 1 →
      Placed 0 l.max_total_bytes (entries_from w' entries_at f.entries) →
      f.total ≡ sum_lens (records_from w' p f.templates) (entries_from w' entries_at f.entries) → {c : Cache} →
      cache_of (table_with l f.cached f.dropped f.total f.templates
      (records_from w' p (f.templates + f.chance)) (entries_from w' entries_at f.entries)) b ≡ c → Limited c →
      view (areas_of written b) ≡ some c
  written_view tied single placed total {c} is limited =
      let fits : Config.LegalLimits l (length b) (length written) =
      subst (Config.LegalLimits l (length b)) (sym written_long) legal.limits_legal_lem in
      let es = entries_from w' entries_at f.entries in
      let right : f.total ≡ sum_lens (take f.templates (records_from w' p (f.templates + f.chance))) es =
      rw (first_records w' p f.templates f.chance) total in
      (stored_view written_stored b single fits (omega (arith, written_long, legal.header_long)) tied placed right
      (subst Limited (sym is) limited)).1
      ∙ ap some is

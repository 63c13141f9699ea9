-- What a resize leaves of a cache, before the header is written.
use Rattle.std.specs.Prelude.{◌≡◌, true, List, [], ℕ, ◌≤◌, max}
use Rattle.config.specs.declared.PendingFlowsConfig.{PendingFlowsConfig}
use Rattle.config.specs.Limits.{words_needed, max_bodies}
use Rattle.table.specs.Layout.{limits_of, entries_at, records_at}
use Rattle.table.specs.Table.{Table, table_of, entries_from, records_from, index_from, sum_lens}
use Rattle.table.specs.WellFormed.{table_legal}
use Rattle.table_entries.specs.Sums.{lens_sum}
use Rattle.cache_model.specs.Calls.{shrunk}
use Rattle.pending_flows.specs.View.{Areas, areas_of, templates_at, cache_of}
use Rattle.pending_calls.specs.Promises.{Untouched}
use Rattle.pending_calls.specs.declared.removal.Removed.{Removed}

-- the table of k records at the place that the limits say, and m entries; the counters are not looked at
abbrev pub table_left : PendingFlowsConfig → (k m : ℕ) → List ℕ → Table
table_left l k m w = record {
  limits = l;
  cached = 0;
  dropped = 0;
  total = sum_lens (records_from w (records_at l) k) (entries_from w entries_at m);
  held = records_from w (records_at l) k;
  handed = [];
  entries = entries_from w entries_at m;
}

-- nothing is touched past the larger of both needs
abbrev pub UntouchedByBoth : PendingFlowsConfig → Areas → Areas → Type 0
UntouchedByBoth l a a' =
    Untouched (max (words_needed (limits_of a.words)) (words_needed l))
    (max (limits_of a.words).max_total_bytes l.max_total_bytes) a a'

-- Records and entries are a table within the new limits, and stand for the templates that are left.
pub record Shrinks (l : PendingFlowsConfig) (w b w' b' : List ℕ) (r : Removed) : Type 0 where
  pub few_records : r.records ≤ l.max_pending_flows
  pub few_entries : r.entries ≤ max_bodies l
  pub bytes : r.bytes ≡ lens_sum (entries_from w' entries_at r.entries)
  pub legal : table_legal (table_left l r.records r.entries w') (index_from w' (records_at l) r.records) ≡ true
  pub templates : templates_at b' (entries_from w' entries_at r.entries) (records_from w' (records_at l) r.records)
      ≡ (shrunk l (cache_of (table_of w) b).held).held
  pub frame : UntouchedByBoth l (areas_of w b) (areas_of w' b')

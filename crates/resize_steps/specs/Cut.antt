-- Cutting to the new number of templates, entry size and cap.
use Rattle.std.specs.Prelude.{Some, None, false, List, ℕ, ◌+◌, ◌*◌, ◌-◌, length, take}
use Rattle.config.specs.declared.PendingFlowsConfig.{PendingFlowsConfig}
use Rattle.config.specs.Limits.{record_words}
use Rattle.table.specs.declared.Entry.{Entry}
use Rattle.table.specs.declared.TemplateRecord.{TemplateRecord}
use Rattle.table.specs.Layout.{entries_at}
use Rattle.table.specs.Table.{entries_from, records_from}
use Rattle.table_entries.specs.declared.StayTest.{StayTest}
use Rattle.table_entries.specs.Sums.{summed}
use Rattle.table_records.specs.Choose.{skipping, skipping_over}
use Rattle.pending_calls.specs.declared.removal.Removed.{Removed}
use Rattle.resize_steps.specs.Removing.{zeros, RemovesSkipped}

-- a body stays by itself where it is not over the new entry size
abbrev pub small_enough : PendingFlowsConfig → StayTest
small_enough l = record { ttl = None; clock = 0; only = Some 1024; max_size = l.max_entry_size_bytes }

-- of held records the oldest bodies beyond the new cap; all bodies of the least recent ones beyond the new number, and
-- of handed-out records
unfoldable pub cut_skips : PendingFlowsConfig → (held handed : List TemplateRecord) → List Entry → List ℕ → List ℕ
cut_skips l held handed es skip =
    skipping
    (skipping
    (skipping_over l.max_entries_per_template (summed (small_enough l) false zeros es) skip held)
    (take (length held - l.max_pending_flows) held))
    handed

-- n held records from word p on, c handed-out ones behind them, and m entries are cut
abbrev pub Cuts : PendingFlowsConfig → (p n c m : ℕ) → (w w' : List ℕ) → Removed → Type 0
Cuts l p n c m w w' r =
    RemovesSkipped (small_enough l) p (n + c) m
    (cut_skips l (records_from w p n) (records_from w (p + record_words * n) c) (entries_from w entries_at m) zeros) w w' r

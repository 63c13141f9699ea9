-- What the test of the header leaves to the passes.
use Rattle.std.specs.Prelude.{◌≡◌, List, ℕ, ◌+◌, ◌≤◌, length}
use Rattle.config.specs.declared.PendingFlowsConfig.{PendingFlowsConfig}
use Rattle.config.specs.Limits.{words_needed, max_bodies}
use Rattle.table.specs.Layout.{limits_of, held_count, entry_count, chance_count}

-- what the passes may count on once the header is tested, l being the limits
pub record HeaderLegal (l : PendingFlowsConfig) (w : List ℕ) : Type 0 where
  pub limits_read : l ≡ limits_of w
  pub templates_few : l.max_pending_flows ≤ 1024
  pub bodies_few : max_bodies l ≤ 262144
  pub cap_small : l.max_entries_per_template ≤ 262144
  pub size_within : l.max_entry_size_bytes ≤ l.max_total_bytes
  pub total_small : l.max_total_bytes ≤ 67108864
  pub words_enough : words_needed l ≤ length w
  pub chance_single : chance_count w ≤ 1
  pub records_fit : held_count w + chance_count w ≤ l.max_pending_flows
  pub entries_fit : entry_count w ≤ max_bodies l

-- How many bodies are held, by the header and the number of those handed out. Assumes nothing.
use mathlib.Core.Path.{◌≡◌, ◌∙◌}
use mathlib.Core.List.{List}
use Prim.Native.Nat.{ℕ, ◌-◌, ◌≤◌}
use native.Mathlib.Omega.{arith}
use lib.ListN.{length}
use Rattle.areas.specs.Overwrite.{overwritten}
use Rattle.config.specs.declared.PendingFlowsConfig.{PendingFlowsConfig}
use Rattle.table.specs.Table.{table_of}
use Rattle.table.specs.Reads.{count_sum}
use Rattle.cache_model.specs.Bodies.{all_bodies}
use Rattle.cache_model.specs.Cache.{raised}
use Rattle.pending_flows.specs.View.{cache_of}
use Rattle.pending_flows.specs.declared.header.HeaderFigures.{HeaderFigures}
use Rattle.pending_flows.specs.declared.header.Header.{Header}
use Rattle.pending_flows.specs.Header.{header_of, HoldsCache}
use Rattle.pending_flows.proofs.Figures.{bodies_read, held_counted}
use Rattle.offer_steps.specs.Settle.{settled_figures}

module _ (w b : List ℕ) {h : Header} (holds : HoldsCache h w (length b)) where
  -- n bodies are handed out
  module _ {n : ℕ} (handed : n ≡ count_sum (table_of w).handed) where
    pub held_rest : h.figures.entries - n ≡ length (all_bodies (cache_of (table_of w) b).held)
    held_rest = rw holds.figures (bodies_read w b holds.legal handed)

  pub held_most : length (all_bodies (cache_of (table_of w) b).held) ≤ h.figures.entries
  held_most = rw holds.figures (omega (arith, held_counted w b holds.legal))

-- the header that is written, with the counters raised
pub header_settled : (w : List ℕ) (l : PendingFlowsConfig) (f : HeaderFigures)
    (cached dropped total templates entries : ℕ) {c d : ℕ} {w' : List ℕ} → c ≡ raised f.cached cached →
    d ≡ raised f.dropped dropped →
    w' ≡ overwritten w (header_of l (record {
      cached = c;
      dropped = d;
      total = total;
      templates = templates;
      entries = entries;
      chance = 0;
    })) → w' ≡ overwritten w (header_of l (settled_figures f cached dropped total templates entries))
header_settled w l f cached dropped total templates entries e g written = written ∙ rw (e, g)

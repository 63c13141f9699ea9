-- The header after an offer.
use Rattle.std.specs.Prelude.{ℕ}
use Rattle.cache_model.specs.Cache.{raised}
use Rattle.pending_flows.specs.declared.header.HeaderFigures.{HeaderFigures}

-- so many bodies more are cached and dropped, so many bytes, templates and bodies are held, and nothing is handed out
abbrev pub settled_figures : HeaderFigures → (cached dropped total templates entries : ℕ) → HeaderFigures
settled_figures f cached dropped total templates entries = record {
  cached = raised f.cached cached;
  dropped = raised f.dropped dropped;
  total = total;
  templates = templates;
  entries = entries;
  chance = 0;
}

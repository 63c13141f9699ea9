use Rattle.std.proofs.Common.{arith, rules}
use Rattle.resize_steps.proofs.Steps.{ends_within, places_fit, places_packed}
use Rattle.resize_steps.proofs.fitting.fit_places.Goals as goal

pub last_end-requires : goal.last_end-requires
last_end-requires c = ends_within _ _ _ c.entries_in.ensures.entries c.requires.in_bytes (omega arith)

pub returns-then-last_end-room : goal.returns-then-last_end-room
returns-then-last_end-room c = search (places_fit, rules)

pub returns : goal.returns
returns c = search (places_packed, rules)

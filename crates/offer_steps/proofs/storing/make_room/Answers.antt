use borrow.Author.Rules.{rules}
use Rattle.table_entries.proofs.Ends.{last_small, end_fits}
use Rattle.offer_steps.proofs.Rooms.{parts_legal, holds_wider, room_behind, room_packed}
use Rattle.offer_steps.proofs.storing.make_room.Goals as goal

pub last_end-end-requires : goal.last_end-end-requires
last_end-end-requires c = search (last_small, parts_legal, rules)

pub overflow_add-end : goal.overflow_add-end
overflow_add-end c = record { fits = search (end_fits, parts_legal, rules) }

pub returns-then-end-len : goal.returns-then-end-len
returns-then-end-len c = search (room_behind, rules)

pub pack_bodies-requires : goal.pack_bodies-requires
pack_bodies-requires c = search (holds_wider, rules)

pub returns : goal.returns
returns c = search (room_packed, rules)

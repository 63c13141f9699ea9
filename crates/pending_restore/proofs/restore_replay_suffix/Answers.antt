use native.Mathlib.Nat.{pos_of_ne-zero}
use Rattle.pending_restore.proofs.Restores.{has_chance, put_back_of_none, put_back_refused, put_back_done}
use Rattle.pending_restore.proofs.restore_replay_suffix.Goals as goal

pub returns-then-n-eq0 : goal.returns-then-n-eq0
returns-then-n-eq0 c = put_back_of_none _ _ _ _ c.in_ok-header.ensures c.if-n-eq0.true

pub find_chance-requires : goal.find_chance-requires
find_chance-requires c = (c.in_ok-header.ensures, pos_of_ne-zero c.if-n-eq0.false)

pub returns-in_default : goal.returns-in_default
returns-in_default c =
    put_back_refused _ _ _ _ c.in_ok-header.ensures c.if-n-eq0.false c.find_chance.ensures c.in_default.is

pub put_back-requires : goal.put_back-requires
put_back-requires c = record {
  header_value = c.in_ok-header.ensures;
  n_nonzero = (pos_of_ne-zero c.if-n-eq0.false, has_chance c.find_chance.ensures c.in-Some.is);
}

pub returns : goal.returns
returns c = put_back_done _ _ _ _ c.in_ok-header.ensures c.if-n-eq0.false c.find_chance.ensures c.in-Some.is
    c.put_back.ensures

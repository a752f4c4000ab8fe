-- `turn_in` meets its contract: the parts are the worker's, and joined again they are its stretch after the turn.
use borrow.Author.Rules.{rules}
use Rattle.turn.proofs.Rules.{span_fits}
use Rattle.turn.proofs.Cut.{parted, lent_parts, parts_stored}
use Rattle.turn.proofs.turn_in.Goals as goal

pub turn-made-requires-clause-given : goal.turn-made-requires-clause-given
turn-made-requires-clause-given c =
    let some = c.requires.given in
    let x = some.given in
    let k = parted _ _ _ c.states-n.ensures (span_fits x) x.lent.own.words c.split_at_mut-cyan.ensures.value c.split_at_mut-cyan.ensures.front_len
    c.split_at_mut-gathered.ensures.value c.split_at_mut-gathered.ensures.front_len
    c.split_at_mut-outer.ensures.value c.split_at_mut-outer.ensures.front_len
    c.split_at_mut-inner.ensures.value c.split_at_mut-inner.ensures.front_len
    c.split_at_mut-taken.ensures.value c.split_at_mut-taken.ensures.front_len c.own_in-at.ensures in
    record { workers = some.workers; machine = some.machine; given = lent_parts x k }

pub returns : goal.returns
returns c =
    λ P m x.
    let k = parted _ _ _ c.states-n.ensures (span_fits x) x.lent.own.words c.split_at_mut-cyan.ensures.value c.split_at_mut-cyan.ensures.front_len
    c.split_at_mut-gathered.ensures.value c.split_at_mut-gathered.ensures.front_len
    c.split_at_mut-outer.ensures.value c.split_at_mut-outer.ensures.front_len
    c.split_at_mut-inner.ensures.value c.split_at_mut-inner.ensures.front_len
    c.split_at_mut-taken.ensures.value c.split_at_mut-taken.ensures.front_len c.own_in-at.ensures in
    let t = c.turn-made.ensures.turn P m (lent_parts x k) in
    let joined = parts_stored t.lent.own c.split_at_mut-taken.result.1.now (search rules) in
    record { move = t.move; lent = record { blue_is = t.lent.blue_is; red_is = t.lent.red_is; own = record { words = search rules } } }

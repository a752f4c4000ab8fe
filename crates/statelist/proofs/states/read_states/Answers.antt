-- `read_states` meets its contract. What is left of the text means, with the states so far, what the whole text means.
use mathlib.Core.Path.{◌≡◌, ap}
use native.Mathlib.Omega.{arith}
use Rattle.std.proofs.Common.{Err}
use Rattle.pairs.proofs.Chain.{inserted_room}
use Rattle.statelist.proofs.Declared.{label_short, declared_none, declared_more}
use Rattle.statelist.proofs.Here.{state_here}
use Rattle.statelist.proofs.states.read_states.Goals as goal

pub loop-labels-init : goal.loop-labels-init
loop-labels-init c = rw c.requires.none.0 (declared_none _ _ _ _ _ _ c.requires.none.1 c.requires.none.2)

pub returns-in_err-line : goal.returns-in_err-line
returns-in_err-line c =
    let stop : c.from_residual.result ≡ Err c.in_err-line.field-0.0 = grind arith in
    rw stop (λ t. c.in_err-line.ensures _ _ t c.loop-labels.invariant)

pub overflow_cast-places-in-loop-labels : goal.overflow_cast-places-in-loop-labels
overflow_cast-places-in-loop-labels c =
    let new = c.in_ok-line.ensures in
    omega (arith, label_short (state_here new.stands))

pub loop-labels-preserved : goal.loop-labels-preserved
loop-labels-preserved c =
    let new = c.in_ok-line.ensures in
    let l = c.insert.ensures.lists in
    let room = inserted_room _ _ _ _ l c.insert.ensures.len c.insert.new.self.chained in
    rw (ap (λ l. l.firsts) l, ap (λ l. l.seconds) l, c.insert.ensures.len)
    (declared_more c.loop-labels.invariant (state_here new.stands) new.new new.room
    (omega (arith, c.requires.held)) (omega (arith, c.requires.held)) room.0 room.1)

-- `turn` meets its contract: by the search that the worker is in.
use Rattle.theory.specs.Rules.{by_start, by_rest}
use Rattle.turn.proofs.Rules.{start_some, place_is, fresh, after_by, put_lent}
use Rattle.turn.proofs.stretch.Stretch.turn.Goals as goal

pub start-requires : goal.start-requires
start-requires c = record { some = start_some c.requires.given.given }

pub returns-in-Fresh-clause-turn : goal.returns-in-Fresh-clause-turn
returns-in-Fresh-clause-turn c =
    λ P m x.
    let at = place_is x c.in-Fresh.is in
    after_by x (by_start at) (put_lent x (c.start.ensures.worker _ _ x.lent.own at (fresh x c.in-Fresh.is).0))

pub returns-in-Outer-clause-turn : goal.returns-in-Outer-clause-turn
returns-in-Outer-clause-turn c = λ P m x. c.outer_turn.ensures.turn P m _ x

pub returns-in-Inner-clause-turn : goal.returns-in-Inner-clause-turn
returns-in-Inner-clause-turn c = λ P m x. c.inner_turn.ensures.turn P m _ x

pub returns-in-Waiting-clause-turn : goal.returns-in-Waiting-clause-turn
returns-in-Waiting-clause-turn c = λ P m x. c.waiting_turn.ensures.turn P _ m _ x

pub returns-in-Done-clause-turn : goal.returns-in-Done-clause-turn
returns-in-Done-clause-turn c = λ P m x. after_by x (by_rest (place_is x c.in-Done.is)) x.lent

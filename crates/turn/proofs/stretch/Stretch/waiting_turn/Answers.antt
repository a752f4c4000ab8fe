-- `waiting_turn` meets its contract: the two arms are the two rules of move 6.
use mathlib.Core.Path.{sym, ◌∙◌}
use Rattle.theory.specs.Rules.{by_paint, by_wait}
use Rattle.turn.proofs.Rules.{place_is, wait, seed_pops, after_by, red_lent}
use Rattle.turn.proofs.stretch.Stretch.waiting_turn.Goals as goal

pub returns-then-not-others_are_red-clause-turn : goal.returns-then-not-others_are_red-clause-turn
returns-then-not-others_are_red-clause-turn c =
    λ P p m blue x. after_by x (by_wait (place_is x c.requires.place) (sym (c.others_are_red.ensures _ p m x.lent.own x.lent.red_is) ∙ c.if-not-others_are_red.true)) x.lent

pub paint-requires-clause-top : goal.paint-requires-clause-top
paint-requires-clause-top c = (seed_pops c.requires.given.2.given c.requires.place).0

pub paint-requires-clause-deep : goal.paint-requires-clause-deep
paint-requires-clause-deep c = (seed_pops c.requires.given.2.given c.requires.place).2

pub returns-clause-turn : goal.returns-clause-turn
returns-clause-turn c =
    λ P p m blue x.
    let at = place_is x c.requires.place in
    let top = (wait x c.requires.place).0.top in
    let red = sym (c.others_are_red.ensures _ p m x.lent.own x.lent.red_is) ∙ c.if-not-others_are_red.false in
    after_by x (by_paint at top red) (red_lent x (c.dye.ensures.red _ _ _ x.lent.own x.lent.red_is) (c.paint.ensures.worker _ _ _ x.lent.own at top))

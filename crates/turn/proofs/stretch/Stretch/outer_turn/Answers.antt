-- `outer_turn` meets its contract: each arm is a rule of moves 2 and 3, by what was read of the top, of its next successor and of the colours.
use mathlib.Core.Path.{sym, ◌∙◌}
use borrow.Author.Rules.{rules}
use Rattle.graphs.specs.Graph.{graph}
use Rattle.graphs.specs.Words.{graph_of}
use Rattle.theory.specs.Rules.{by_skip, by_enter, by_leave, by_seed}
use Rattle.turn.proofs.Next.{first_some, first_none}
use Rattle.turn.proofs.Rules.{place_is, climb, climb_topped, outer_room, after_by, put_lent, blue_lent}
use Rattle.turn.proofs.stretch.Stretch.outer_turn.Goals as goal

pub outer_top-s-requires : goal.outer_top-s-requires
outer_top-s-requires c = climb_topped c.requires.given.1.given c.requires.place

pub enter-requires-clause-room : goal.enter-requires-clause-room
enter-requires-clause-room c =
    let x = c.requires.given.1.given in
    let m = c.requires.given.1.machine in
    let top = c.outer_top-s.ensures.top _ _ _ _ x.lent.own (climb x c.requires.place).top in
    let left = first_some _ c.in-Some.x (sym (c.next.ensures.next _ m x.lent.own) ∙ c.in-Some.is) in
    let unseen = sym (c.is_cyan_or_in.ensures _ _ _ x.lent.own x.lent.blue_is) ∙ c.if-is_cyan_or_in.false in
    outer_room x c.requires.place top left.1 unseen

pub returns-in-Some-clause-turn : goal.returns-in-Some-clause-turn
returns-in-Some-clause-turn c =
    λ P m red x.
    let top = c.outer_top-s.ensures.top _ _ _ _ x.lent.own (climb x c.requires.place).top in
    let left = first_some _ c.in-Some.x (sym (c.next.ensures.next _ m x.lent.own) ∙ c.in-Some.is) in
    let seen = sym (c.is_cyan_or_in.ensures _ _ _ x.lent.own x.lent.blue_is) ∙ c.if-is_cyan_or_in.true in
    after_by x (by_skip (place_is x c.requires.place) top left.1 seen) (put_lent x (c.take.ensures.worker _ _ x.lent.own))

pub returns-in-Some-2-clause-turn : goal.returns-in-Some-2-clause-turn
returns-in-Some-2-clause-turn c =
    λ P m red x.
    let top = c.outer_top-s.ensures.top _ _ _ _ x.lent.own (climb x c.requires.place).top in
    let left = first_some _ c.in-Some.x (sym (c.next.ensures.next _ m x.lent.own) ∙ c.in-Some.is) in
    let unseen = sym (c.is_cyan_or_in.ensures _ _ _ x.lent.own x.lent.blue_is) ∙ c.if-is_cyan_or_in.false in
    after_by x (by_enter (place_is x c.requires.place) top left.1 unseen) (put_lent x (c.enter.ensures.worker _ _ x.lent.own))

pub returns-then-is_marked-clause-turn : goal.returns-then-is_marked-clause-turn
unfolding graph_of graph
returns-then-is_marked-clause-turn c =
    λ P m red x.
    let at = place_is x c.requires.place in
    let top = c.outer_top-s.ensures.top _ _ _ _ x.lent.own (climb x c.requires.place).top in
    let none = first_none _ (sym (c.next.ensures.next _ m x.lent.own) ∙ c.in-None.is) in
    let flag = sym (rw c.from-top.ensures at c.is_marked.ensures) ∙ c.if-is_marked.true in
    rw c.from-top.ensures (after_by x (by_seed at top none flag) (blue_lent x _ (search rules) (c.seed.ensures.worker _ _ x.lent.own at (climb x c.requires.place).calm)))

pub returns-else-is_marked-clause-turn : goal.returns-else-is_marked-clause-turn
unfolding graph_of graph
returns-else-is_marked-clause-turn c =
    λ P m red x.
    let at = place_is x c.requires.place in
    let top = c.outer_top-s.ensures.top _ _ _ _ x.lent.own (climb x c.requires.place).top in
    let none = first_none _ (sym (c.next.ensures.next _ m x.lent.own) ∙ c.in-None.is) in
    let flag = sym (rw c.from-top.ensures at c.is_marked.ensures) ∙ c.if-is_marked.false in
    rw c.from-top.ensures (after_by x (by_leave at top none flag) (blue_lent x _ (search rules) (c.leave.ensures.worker _ _ _ x.lent.own at top)))

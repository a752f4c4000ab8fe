-- `inner_turn` meets its contract: each arm is a rule of moves 4 and 5, by what was read of the top, of its next successor and of the colours.
use mathlib.Core.Path.{sym, ◌∙◌}
use Rattle.theory.specs.Rules.{by_hit, by_pass, by_join, by_back}
use Rattle.turn.proofs.Next.{first_some, first_none}
use Rattle.turn.proofs.Rules.{place_is, hunt, hunt_topped, inner_room, after_by, put_lent}
use Rattle.turn.proofs.stretch.Stretch.inner_turn.Goals as goal

pub inner_top-s-requires : goal.inner_top-s-requires
inner_top-s-requires c = hunt_topped c.requires.given.1.given c.requires.place

pub join-requires-clause-room : goal.join-requires-clause-room
join-requires-clause-room c =
    let x = c.requires.given.1.given in
    let m = c.requires.given.1.machine in
    let top = c.inner_top-s.ensures.top _ _ _ _ x.lent.own (hunt x c.requires.place).1.stack in
    let left = first_some _ c.in-Some.x (sym (c.next.ensures.next _ m x.lent.own) ∙ c.in-Some.is) in
    let away = sym (c.is_cyan.ensures _ _ x.lent.own) ∙ c.if-is_cyan.false in
    let unseen = sym (c.is_gathered_or_in.ensures _ _ _ x.lent.own x.lent.red_is) ∙ c.if-is_gathered_or_in.false in
    inner_room x c.requires.place top left.1 away unseen

pub returns-in-Some-clause-turn : goal.returns-in-Some-clause-turn
returns-in-Some-clause-turn c =
    λ P m blue x.
    let top = c.inner_top-s.ensures.top _ _ _ _ x.lent.own (hunt x c.requires.place).1.stack in
    let left = first_some _ c.in-Some.x (sym (c.next.ensures.next _ m x.lent.own) ∙ c.in-Some.is) in
    let cyan = sym (c.is_cyan.ensures _ _ x.lent.own) ∙ c.if-is_cyan.true in
    after_by x (by_hit (place_is x c.requires.place) top left.1 cyan) (put_lent x (c.take.ensures.worker _ _ x.lent.own))

pub returns-in-Some-2-clause-turn : goal.returns-in-Some-2-clause-turn
returns-in-Some-2-clause-turn c =
    λ P m blue x.
    let top = c.inner_top-s.ensures.top _ _ _ _ x.lent.own (hunt x c.requires.place).1.stack in
    let left = first_some _ c.in-Some.x (sym (c.next.ensures.next _ m x.lent.own) ∙ c.in-Some.is) in
    let away = sym (c.is_cyan.ensures _ _ x.lent.own) ∙ c.if-is_cyan.false in
    let seen = sym (c.is_gathered_or_in.ensures _ _ _ x.lent.own x.lent.red_is) ∙ c.if-is_gathered_or_in.true in
    after_by x (by_pass (place_is x c.requires.place) top left.1 away seen) (put_lent x (c.take-in-Some-2.ensures.worker _ _ x.lent.own))

pub returns-in-Some-3-clause-turn : goal.returns-in-Some-3-clause-turn
returns-in-Some-3-clause-turn c =
    λ P m blue x.
    let top = c.inner_top-s.ensures.top _ _ _ _ x.lent.own (hunt x c.requires.place).1.stack in
    let left = first_some _ c.in-Some.x (sym (c.next.ensures.next _ m x.lent.own) ∙ c.in-Some.is) in
    let away = sym (c.is_cyan.ensures _ _ x.lent.own) ∙ c.if-is_cyan.false in
    let unseen = sym (c.is_gathered_or_in.ensures _ _ _ x.lent.own x.lent.red_is) ∙ c.if-is_gathered_or_in.false in
    after_by x (by_join (place_is x c.requires.place) top left.1 away unseen) (put_lent x (c.join.ensures.worker _ _ x.lent.own))

pub returns-in-None-clause-turn : goal.returns-in-None-clause-turn
returns-in-None-clause-turn c =
    λ P m blue x.
    let at = place_is x c.requires.place in
    let top = c.inner_top-s.ensures.top _ _ _ _ x.lent.own (hunt x c.requires.place).1.stack in
    let none = first_none _ (sym (c.next.ensures.next _ m x.lent.own) ∙ c.in-None.is) in
    after_by x (by_back at top none) (put_lent x (c.back.ensures.worker _ _ _ _ x.lent.own at top))

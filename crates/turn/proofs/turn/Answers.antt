-- `turn` meets its contract: what is cut out of the room is the machine's, whatever machine it is; the one that is asked for keeps the cuts in bounds, and
-- its turn is what the words give.
use borrow.Author.Rules.{rules}
use Rattle.moves.proofs.Stretch.{others_stay}
use Rattle.turn.proofs.Given.{Given, given, few, seen, inside}
use Rattle.turn.proofs.Cut.{room_cut, cut_lent, room_joined}
use Rattle.turn.proofs.Turned.{words_turned}
use Rattle.turn.proofs.turn.Goals as goal

pub overflow_mul-size : goal.overflow_mul-size
overflow_mul-size c = let low = few (given c.requires) in search rules

pub overflow_add-size : goal.overflow_add-size
overflow_add-size c = let low = few (given c.requires) in search rules

pub split_at_mut-blue-requires : goal.split_at_mut-blue-requires
split_at_mut-blue-requires c = let room = inside (given c.requires) in search rules

pub split_at_mut-red-requires : goal.split_at_mut-red-requires
split_at_mut-red-requires c = let room = inside (given c.requires) in search rules

pub overflow_mul-p : goal.overflow_mul-p
overflow_mul-p c = let room = inside (given c.requires) in search rules

pub split_at_mut-later-requires : goal.split_at_mut-later-requires
split_at_mut-later-requires c = let room = inside (given c.requires) in search rules

pub split_at_mut-own-requires : goal.split_at_mut-own-requires
split_at_mut-own-requires c = let room = inside (given c.requires) in search rules

pub turn_in-requires-clause-given : goal.turn_in-requires-clause-given
turn_in-requires-clause-given c =
    let x = given c.requires in
    let cut = room_cut _ _ c.args.p _ _ c.states-n.ensures x.named (seen x).fits x.formed.form c.split_at_mut-blue.ensures.value c.split_at_mut-blue.ensures.front_len
    c.split_at_mut-red.ensures.value c.split_at_mut-red.ensures.front_len
    c.split_at_mut-later.ensures.value c.split_at_mut-later.ensures.front_len
    c.split_at_mut-own.ensures.value c.split_at_mut-own.ensures.front_len in
    record { workers = c.requires.workers; machine = c.requires.machine; given = cut_lent x.named x.formed.inv cut }

pub returns-clause-turn : goal.returns-clause-turn
returns-clause-turn c =
    λ P m rest named formed.
    let x : Given c.args.graph.now.offsets.now c.args.graph.now.targets.now c.args.graph.now.flags.now P c.args.p m rest c.args.room.now = record { is = c.requires.graph; named = named; formed = formed } in
    let cut = room_cut _ _ c.args.p _ _ c.states-n.ensures named (seen x).fits formed.form c.split_at_mut-blue.ensures.value c.split_at_mut-blue.ensures.front_len
    c.split_at_mut-red.ensures.value c.split_at_mut-red.ensures.front_len
    c.split_at_mut-later.ensures.value c.split_at_mut-later.ensures.front_len
    c.split_at_mut-own.ensures.value c.split_at_mut-own.ensures.front_len in
    let t = c.turn_in.ensures P m (cut_lent named formed.inv cut) in
    record {
      move = t.move;
      room' = room_joined cut named _ (others_stay _ c.args.p m) t.lent.blue_is t.lent.red_is t.lent.own.words;
    }

pub returns-clause-words : goal.returns-clause-words
returns-clause-words c = let x = given c.requires in words_turned x (returns-clause-turn c _ _ _ x.named x.formed)

-- `step` meets its contract: the verdict is read from the room that the turn leaves.
use Rattle.steps.proofs.Answered.{room_held_after, stepped}
use Rattle.steps.proofs.step.Goals as goal

pub turn-made-requires : goal.turn-made-requires
turn-made-requires c =
    let due = c.requires in
    record { graph = due.held.graph; workers = c.args.workers; machine = due.machine; rest = due.rest; named = due.named; formed = due.formed }

pub verdict_after-requires : goal.verdict_after-requires
verdict_after-requires c =
    let due = c.requires in
    rw c.states.ensures (room_held_after due.held due.named due.formed (c.turn-made.ensures.turn _ due.machine due.rest due.named due.formed))

pub returns : goal.returns
returns c =
    let due = c.requires in
    λ m rest formed. stepped due.held due.named formed (c.turn-made.ensures.turn _ m rest due.named formed) c.raise.ensures
    (rw c.states.ensures at c.verdict_after.ensures)

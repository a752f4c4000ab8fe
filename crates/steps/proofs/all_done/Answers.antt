-- `all_done` meets its contract: a worker that is not done.
use Rattle.std.proofs.Common.{arith, sym}
use borrow.Author.Tests.{ne_eqb}
use Rattle.graphs.proofs.Every.{every_not}
use Rattle.steps.specs.Verdict.{all_done_in}
use Rattle.steps.proofs.all_done.Goals as goal

pub returns-then-room-stretch_at-ne4 : goal.returns-then-room-stretch_at-ne4
unfolding all_done_in
returns-then-room-stretch_at-ne4 c =
    let going = rw c.stretch_at.ensures at c.if-room-stretch_at-ne4.true in
    sym (every_not _ _ c.loop-q.q (omega arith) (ne_eqb _ _ going))

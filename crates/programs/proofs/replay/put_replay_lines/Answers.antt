-- `put_replay_lines` writes the lines of the run, the turns used, and the workers.
use Rattle.std.proofs.Common.{rules, arith, subst}
use Rattle.limits.specs.Plans.{listed}
use Rattle.page.specs.Page.{Adds}
use Rattle.page.proofs.Written.{adds_then}
use Rattle.programs.specs.Replay.{ending}
use Rattle.programs.proofs.Pages.{replay_shows, replay_shows_end, replay_long, replay_is}
use Rattle.programs.proofs.replay.put_replay_lines.Goals as goal

pub put_run-requires-clause-labels : goal.put_run-requires-clause-labels
put_run-requires-clause-labels c =
    let run = c.run-outcome in
    replay_shows (ending c.args.plan) (listed c.args.plan) c.args.workers c.args.list.now.offsets.now c.args.list.now.targets.now run.result.outcome c.args.list.now.given run.ensures

pub put_run-requires-clause-room : goal.put_run-requires-clause-room
put_run-requires-clause-room c =
    let run = c.run-outcome in
    omega (arith, replay_long (ending c.args.plan) (listed c.args.plan) c.args.workers c.args.list.now.offsets.now c.args.list.now.targets.now run.result.outcome c.args.list.now.given run.ensures (search rules))

pub put_end-requires-clause-labels : goal.put_end-requires-clause-labels
put_end-requires-clause-labels c =
    let run = c.run-outcome in
    rw c.workers_of.ensures
    (replay_shows_end (ending c.args.plan) (listed c.args.plan) c.args.workers c.args.list.now.offsets.now c.args.list.now.targets.now run.result.outcome c.args.list.now.given run.ensures)

pub put_end-requires-clause-room : goal.put_end-requires-clause-room
put_end-requires-clause-room c =
    let run = c.run-outcome in
    rw c.workers_of.ensures
    (omega (arith, c.put_run.ensures.end, c.put_run.ensures.long, replay_long (ending c.args.plan) (listed c.args.plan) c.args.workers c.args.list.now.offsets.now c.args.list.now.targets.now run.result.outcome c.args.list.now.given run.ensures (search rules)))

pub returns : goal.returns
returns c =
    let run = c.run-outcome in
    subst (Adds _ _) (replay_is (ending c.args.plan) (listed c.args.plan) c.args.workers c.args.list.now.offsets.now c.args.list.now.targets.now run.result.outcome c.args.list.now.given run.ensures)
    (adds_then _ _ c.put_run.ensures (rw c.workers_of.ensures at c.put_end.ensures))

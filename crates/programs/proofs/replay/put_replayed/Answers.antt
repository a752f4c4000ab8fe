-- `put_replayed` writes what is printed of a text: refused, or the lines of its graph's run.
use Rattle.std.proofs.Common.{arith, subst}
use Rattle.limits.specs.Plans.{listed}
use Rattle.page.specs.Page.{Adds}
use Rattle.programs.specs.Replay.{ending}
use Rattle.std.specs.Prelude.{Err}
use Rattle.statelist.specs.Told.{told}
use Rattle.programs.proofs.Reading.{reading_long, replay_refused, replay_graph}
use Rattle.programs.proofs.replay.put_replayed.Goals as goal

pub put_reading-requires : goal.put_reading-requires
put_reading-requires c = omega (arith, reading_long (told (Err c.in-Err.error)))

pub returns-in-Ok : goal.returns-in-Ok
returns-in-Ok c =
    let cut = c.new-list.ensures in
    subst (Adds _ _)
    (replay_graph (ending c.args.plan) (listed c.args.plan) c.args.workers c.args.text.now c.in-Ok.size _ _ _ _ c.in-Ok.ensures)
    (rw (cut.offsets, cut.targets, cut.flags, cut.places, cut.text) at c.put_replay_lines.ensures)

pub returns-in-Err : goal.returns-in-Err
returns-in-Err c =
    subst (Adds _ _) (replay_refused (ending c.args.plan) (listed c.args.plan) c.args.workers c.args.text.now c.in-Err.error _ _ _ _ c.in-Err.ensures)
    c.put_reading.ensures

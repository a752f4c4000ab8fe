-- `put_search_lines` writes the lines of the run to the end with two workers.
use Rattle.std.proofs.Common.{rules, arith, subst}
use Rattle.page.specs.Page.{Adds}
use Rattle.programs.proofs.Pages.{search_shows, search_long, search_is}
use Rattle.programs.proofs.skiffplank.put_search_lines.Goals as goal

pub put_run-requires-clause-labels : goal.put_run-requires-clause-labels
put_run-requires-clause-labels c =
    let run = c.counted_run_to_end-outcome in search_shows c.args.list.now.offsets.now c.args.list.now.targets.now run.result.outcome c.args.list.now.given run.ensures.0

pub put_run-requires-clause-room : goal.put_run-requires-clause-room
put_run-requires-clause-room c =
    let run = c.counted_run_to_end-outcome in
    omega (arith, search_long c.args.list.now.offsets.now c.args.list.now.targets.now run.result.outcome c.args.list.now.given run.ensures.0 (search rules))

pub returns : goal.returns
returns c =
    let run = c.counted_run_to_end-outcome in
    subst (Adds _ _) (search_is c.args.list.now.offsets.now c.args.list.now.targets.now run.result.outcome c.args.list.now.given run.ensures.0) c.put_run.ensures

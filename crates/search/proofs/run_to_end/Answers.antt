-- The run to the end is the run by rounds of the usual workers, and so it is settled.
use Rattle.std.proofs.Common.{◌≡◌}
use Rattle.search.specs.Outcomes.{lent, outcome_to_end}
use Rattle.search.proofs.Runs.{left_settles}
use Rattle.search.proofs.run_to_end.Goals as goal

pub returns : goal.returns
unfolding outcome_to_end
returns c =
    let leaves : lent c.over.result c.over.new.room c.over.new.lasso c.over.new.tally
    ≡ outcome_to_end c.args.offsets.now c.args.targets.now c.args.flags.now c.args.workers c.args.room.now c.args.lasso.now c.args.tally.now =
    rw c.usual.ensures at c.over.ensures in
    (leaves, left_settles _ _ _ _ _ _ _ _ leaves)

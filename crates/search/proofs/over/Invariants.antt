-- Where the loop over the turns stands; a turn more is used in each iteration.
use Rattle.std.proofs.Common.{◌≡◌, ◌-◌, length, drop}
use Rattle.moves.specs.Room.{room_size}
use Rattle.search.specs.Plans.{turns_of}
use Rattle.search.proofs.Along.{Along}
use Rattle.search.proofs.over.Given as goal

abbrev pub invariant-loop-p : goal.invariant-loop-p
invariant-loop-p l = record {
  lasso : l.lasso ≡ l.fn.lasso;
  along :
      Along l.graph.offsets.now l.graph.targets.now l.graph.flags.now
      (turns_of l.plan l.graph.offsets.now l.graph.targets.now l.graph.flags.now l.workers) l.workers
      (drop (room_size (length l.graph.flags.now) l.workers) l.fn.room) l.used l.room l.tally;
}

abbrev pub decreases-loop-p : goal.decreases-loop-p
decreases-loop-p l = length (turns_of l.plan l.graph.offsets.now l.graph.targets.now l.graph.flags.now l.workers) - l.used

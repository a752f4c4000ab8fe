-- `read_states` meets its contract. What is left of the text means, with the states so far, what the whole text means.
use Prim.Native.Nat.{◌-◌}
use lib.ListN.{length}
use Rattle.statelist.specs.Loops.{Declared}
use Rattle.statelist.proofs.states.read_states.Given as goal

abbrev pub invariant-loop-labels : goal.invariant-loop-labels
invariant-loop-labels l = Declared l.text l.held l.flags l.places l.labels.first l.labels.second l.at l.labels.len

abbrev pub decreases-loop-labels : goal.decreases-loop-labels
decreases-loop-labels l = length l.text - l.at

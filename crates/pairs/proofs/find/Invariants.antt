-- `find` meets its contract. It goes along the chain of the pair's bucket, from the last number to the first.
use Rattle.pairs.proofs.Chain.{Way}
use Rattle.pairs.proofs.find.Given as goal

abbrev pub invariant-loop-at : goal.invariant-loop-at
invariant-loop-at l = Way l.first l.second l.a l.b l.n l.at

abbrev pub decreases-loop-at : goal.decreases-loop-at
decreases-loop-at l = l.at

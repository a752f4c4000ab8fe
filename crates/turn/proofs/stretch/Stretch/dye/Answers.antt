-- `dye` meets its contract: the words joined one by one are those of the joined sets.
use native.Mathlib.Omega.{arith}
use Rattle.moves.proofs.Stores.{dyed_words}
use Rattle.turn.proofs.stretch.Stretch.dye.Goals as goal

pub returns-clause-red : goal.returns-clause-red
returns-clause-red c = λ n w r h e. dyed_words h.R e c.loop-i.invariant.long (λ s k. c.loop-i.invariant.joined s (omega (arith, c.loop-i-test.false)))

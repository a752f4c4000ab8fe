-- `start` meets its contract: its stores are those of move 1, whatever the parts hold.
use borrow.Author.Rules.{rules}
use Rattle.turn.proofs.Put.{start_put}
use Rattle.turn.proofs.stretch.Stretch.start.Goals as goal

pub returns-clause-stores : goal.returns-clause-stores
returns-clause-stores c = let put = start_put c.args.self.now c.requires.some in search rules

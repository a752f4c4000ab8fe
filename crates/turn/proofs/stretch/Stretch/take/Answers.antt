-- `take` meets its contract: its store is that of moves 2 and 4, whatever the parts hold.
use borrow.Author.Rules.{rules}
use Rattle.turn.proofs.Put.{take_put}
use Rattle.turn.proofs.stretch.Stretch.take.Goals as goal

pub returns-clause-stores : goal.returns-clause-stores
returns-clause-stores c = let put = take_put c.args.self.now c.args.s c.requires.from in search rules

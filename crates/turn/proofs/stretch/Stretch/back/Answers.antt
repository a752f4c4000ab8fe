-- `back` meets its contract: its stores are those of move 5, whatever the parts hold.
use borrow.Author.Rules.{rules}
use Rattle.turn.proofs.Put.{back_put}
use Rattle.turn.proofs.stretch.Stretch.back.Goals as goal

pub returns-clause-stores : goal.returns-clause-stores
returns-clause-stores c = let put = back_put c.args.self.now c.args.s c.requires.top c.requires.some c.requires.deep in search rules

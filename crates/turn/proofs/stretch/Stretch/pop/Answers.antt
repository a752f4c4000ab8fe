-- `pop` meets its contract: its stores take the top off the outer stack, whatever the parts hold.
use borrow.Author.Rules.{rules}
use Rattle.turn.proofs.Put.{pop_put}
use Rattle.turn.proofs.stretch.Stretch.pop.Goals as goal

pub returns-clause-stores : goal.returns-clause-stores
returns-clause-stores c = let put = pop_put c.args.self.now c.args.s c.requires.top c.requires.some c.requires.deep c.args.self.now.place in search rules

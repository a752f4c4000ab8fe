-- `enter` meets its contract: its stores are those of move 2, whatever the parts hold.
use borrow.Author.Rules.{rules}
use Rattle.turn.proofs.Put.{enter_put}
use Rattle.turn.proofs.stretch.Stretch.enter.Goals as goal

pub returns-clause-stores : goal.returns-clause-stores
returns-clause-stores c = let put = enter_put c.args.self.now c.args.s c.args.x c.requires.from c.requires.to c.requires.room in search rules

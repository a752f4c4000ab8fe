-- `seed` meets its contract: its stores are those of move 3, accepting, whatever the parts hold.
use borrow.Author.Rules.{rules}
use Rattle.turn.proofs.Put.{seed_put}
use Rattle.turn.proofs.stretch.Stretch.seed.Goals as goal

pub returns-clause-stores : goal.returns-clause-stores
returns-clause-stores c = let put = seed_put c.args.self.now c.args.s c.requires.top in search rules

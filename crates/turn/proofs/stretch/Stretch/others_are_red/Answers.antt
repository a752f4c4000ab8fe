-- `others_are_red` meets its contract: the test that it makes of each state is the machine's.
use borrow.Author.Rules.{rules}
use Rattle.turn.proofs.Others.{others_are}
use Rattle.turn.proofs.stretch.Stretch.others_are_red.Goals as goal

pub returns : goal.returns
returns c = λ n p m h e. others_are _ _ _ _ _ n p m _ _ (search rules) h.R e c.are_red.ensures

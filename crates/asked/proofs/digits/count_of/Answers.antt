-- `count_of` meets its contract: no digit is below `0`, and the count is that of the digits, one after the other.
use Rattle.std.proofs.Common.{rules, ◌∙◌}
use Rattle.std.proofs.iter.Serving.{serving}
use Rattle.asked.proofs.Numbers.{digits_low, counted}
use Rattle.asked.proofs.digits.count_of.Goals as goal

pub fold-requires-clause-callable : goal.fold-requires-clause-callable
fold-requires-clause-callable c = let low = digits_low c.args.word.now c.requires in grind serving

pub returns : goal.returns
returns c = search rules ∙ counted c.args.word.now c.requires

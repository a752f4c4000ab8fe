-- `is_number` meets its contract.
use Rattle.std.proofs.Common.{rules}
use Rattle.asked.proofs.Numbers.{tested_number}
use Rattle.asked.proofs.digits.is_number.Goals as goal

pub returns-then-not-is_empty : goal.returns-then-not-is_empty
returns-then-not-is_empty c = tested_number c.all.result c.args.word.now (search rules) (search rules)

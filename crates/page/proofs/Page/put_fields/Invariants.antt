-- `put_fields` has written a field for each number before.
use Rattle.std.proofs.Common.{take}
use Rattle.page.specs.Page.{Adds}
use Rattle.page.specs.Numbers.{fields}
use Rattle.page.proofs.Page.put_fields.Given as goal

abbrev pub invariant-loop-n : goal.invariant-loop-n
invariant-loop-n l = Adds l.initial.self l.self (fields (take l.n-index l.numbers))

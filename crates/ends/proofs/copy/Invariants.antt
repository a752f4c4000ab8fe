-- `copy` meets its contract: the words below i are copied.
use Rattle.std.proofs.Common.{◌≡◌, length, take}
use Rattle.ends.proofs.copy.Given as goal

abbrev pub invariant-loop-i : goal.invariant-loop-i
invariant-loop-i l = (take l.i l.to ≡ take l.i l.from) × (length l.to ≡ length l.from)

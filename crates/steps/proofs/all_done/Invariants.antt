-- `all_done` meets its contract: the workers before q are done.
use Prim.Native.Nat.{◌+◌, ◌*◌}
use mathlib.Core.Bool.{true}
use mathlib.Core.Path.{◌≡◌}
use lib.Dec.{eqb}
use lib.ListN.{get_or}
use Rattle.graphs.specs.Lists.{every}
use Rattle.moves.specs.Room.{stretch_at}
use Rattle.steps.proofs.all_done.Given as goal

abbrev pub invariant-loop-q : goal.invariant-loop-q
invariant-loop-q l = every l.q (λ i. eqb (get_or l.room (stretch_at l.n i + 5 * l.n) 0) 4) ≡ true

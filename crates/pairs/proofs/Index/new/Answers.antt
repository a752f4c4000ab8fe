-- `new` is an index: its chains are empty.
use mathlib.Core.Path.{refl}
use Rattle.pairs.proofs.Chain.{chain_none}
use Rattle.pairs.proofs.Index.new.Goals as goal

pub invariant_of-result : goal.invariant_of-result
invariant_of-result g c = record { chained = chain_none _ _ _ _ refl }

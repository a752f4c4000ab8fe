-- `largest` lends the first of the offsets and of the targets.
use Rattle.std.proofs.Common.{arith, sym}
use Rattle.std.proofs.lemmas.List.{length-take-le}
use Rattle.graphs_cases.proofs.largest.Goals as goal

pub slice_bounds-case-end-2 : goal.slice_bounds-case-end-2
slice_bounds-case-end-2 g c = let few = c.offsets-few in sym (length-take-le 4097 few.result (omega (arith, few.ensures)))

pub slice_bounds-case-end-3 : goal.slice_bounds-case-end-3
slice_bounds-case-end-3 g c = let targets = c.targets-targets in sym (length-take-le 16384 targets.result (omega (arith, targets.ensures)))

pub slice_bounds-case-end-7 : goal.slice_bounds-case-end-7
slice_bounds-case-end-7 g c = let targets = c.targets-targets in sym (length-take-le 16384 targets.result (omega (arith, targets.ensures)))

-- `new` cuts the lists to what the text takes, and each state's label is within the text.
use Rattle.std.proofs.Common.{arith, sym, length-take-le}
use Rattle.programs.proofs.Reading.{list_fits, list_graph, read_given}
use Rattle.programs.proofs.list.StateList.new.Goals as goal

pub overflow_add-result : goal.overflow_add-result
overflow_add-result c = record { fits = omega (arith, list_fits _ _ _ _ _ _ _ _ _ _ c.requires.read) }

pub slice_bounds-result-end : goal.slice_bounds-result-end
slice_bounds-result-end c = sym (length-take-le _ _ (list_fits _ _ _ _ _ _ _ _ _ _ c.requires.read).0)

pub slice_bounds-result-end-2 : goal.slice_bounds-result-end-2
slice_bounds-result-end-2 c = sym (length-take-le _ _ (list_fits _ _ _ _ _ _ _ _ _ _ c.requires.read).1)

pub slice_bounds-result-end-3 : goal.slice_bounds-result-end-3
slice_bounds-result-end-3 c = sym (length-take-le _ _ (list_fits _ _ _ _ _ _ _ _ _ _ c.requires.read).2)

pub invariant_of-result : goal.invariant_of-result
invariant_of-result c =
    record { is_graph = list_graph _ _ _ _ _ _ _ _ _ _ c.requires.read; given = read_given _ _ _ _ _ _ _ _ _ c.requires.read }

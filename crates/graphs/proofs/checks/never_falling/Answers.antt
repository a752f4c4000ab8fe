-- `never_falling` meets its contract.
use Rattle.std.proofs.lemmas.List.Sorted.{non_decreasing_from_is_sorted}
use Rattle.graphs.proofs.Bridge.{is_never_falling}
use Rattle.graphs.proofs.checks.never_falling.Goals as goal

pub returns : goal.returns
returns c = is_never_falling _ _ (non_decreasing_from_is_sorted _ _ c.is_sorted.ensures.cases)

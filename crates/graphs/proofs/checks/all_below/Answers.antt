-- `all_below` meets its contract.
use Rattle.std.proofs.Common.{rules}
use Rattle.graphs.proofs.Bridge.{is_all_below}
use Rattle.graphs.proofs.checks.all_below.Goals as goal

pub returns : goal.returns
returns c = is_all_below _ _ _ (search rules)

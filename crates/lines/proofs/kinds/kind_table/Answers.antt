-- `kind_table` meets its contract, by the rule of the whole table.
use Rattle.lines.proofs.Table.{table_is_rule}
use Rattle.lines.proofs.kinds.kind_table.Goals as goal

pub returns : goal.returns
returns c = table_is_rule

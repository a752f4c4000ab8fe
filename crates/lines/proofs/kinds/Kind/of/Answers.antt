-- `Kind::of` meets its contract: the table has at each byte the kind of that byte.
use mathlib.Core.Path.{ap, ◌∙◌}
use native.Mathlib.Omega.{arith}
use Rattle.lines.specs.Bytes.{kind_of}
use Rattle.lines.proofs.Table.{table_at}
use Rattle.lines.proofs.kinds.Kind.of.Goals as goal

pub returns : goal.returns
returns c = table_at _ c.from.result _ c.kind_table.ensures (omega arith) ∙ ap kind_of c.from.ensures

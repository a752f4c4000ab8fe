-- `put_cycle` writes one piece after another.
use Rattle.std.proofs.Common.{codes}
use Rattle.page.proofs.Written.{adds_then}
use Rattle.report.specs.Report.{cycle_lines}
use Rattle.report.proofs.put_cycle.Goals as goal

pub returns : goal.returns
unfolding cycle_lines
returns c = adds_then (codes "answer\tcycle\n") _ c.put.ensures (search adds_then)

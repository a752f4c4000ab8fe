-- The lines of the workers below q are written.
use Rattle.page.specs.Page.{Adds}
use Rattle.report.specs.Shows.{label_of}
use Rattle.moves.specs.Own.{own_at}
use Rattle.report.specs.Report.{worker_lines}
use Rattle.report.proofs.workers.put_workers.Given as goal

abbrev pub invariant-loop-q : goal.invariant-loop-q
invariant-loop-q l = Adds l.initial.page l.page (worker_lines (label_of l.labels) (own_at l.room l.n) l.q)

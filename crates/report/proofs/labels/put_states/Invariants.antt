-- The lines of the states before are written.
use Rattle.std.proofs.Common.{take}
use Rattle.page.specs.Page.{Adds}
use Rattle.report.specs.Shows.{label_of}
use Rattle.report.specs.Report.{state_lines}
use Rattle.report.proofs.labels.put_states.Given as goal

abbrev pub invariant-loop-s : goal.invariant-loop-s
invariant-loop-s l = Adds l.initial.page l.page (state_lines l.word (label_of l.labels) (take l.s-index l.states))

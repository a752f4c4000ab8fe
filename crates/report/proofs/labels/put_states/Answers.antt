-- `put_states` has room for the line of each state.
use Rattle.std.proofs.Common.{arith}
use Rattle.report.specs.Shows.{label_of}
use Rattle.report.proofs.Labelled.{labelled_at, states_long}
use Rattle.report.proofs.labels.put_states.Goals as goal

pub put_state-requires-clause-label : goal.put_state-requires-clause-label
put_state-requires-clause-label c = labelled_at _ _ _ c.requires.labels c.loop-s-test.true

pub put_state-requires-clause-room : goal.put_state-requires-clause-room
put_state-requires-clause-room c =
    omega (arith, states_long c.args.word.now (label_of c.args.labels.now) c.args.states.now c.loop-s.s-index c.loop-s-test.true)

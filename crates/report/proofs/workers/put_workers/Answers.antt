-- `put_workers` has room for the line of each worker.
use Rattle.std.proofs.Common.{arith}
use Rattle.moves.specs.Own.{own_at}
use Rattle.report.specs.Shows.{label_of}
use Rattle.report.proofs.Below.{workers_long}
use Rattle.report.proofs.workers.put_workers.Goals as goal

pub put_worker-requires-clause-room : goal.put_worker-requires-clause-room
put_worker-requires-clause-room c =
    rw c.own_at.ensures
    (omega (arith, workers_long (label_of c.args.labels.now) (own_at c.args.room.now c.args.n) c.loop-q.q c.args.p c.loop-q-test.true))

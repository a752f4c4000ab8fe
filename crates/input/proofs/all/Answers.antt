-- `all` meets its contract: each read gives the bytes that follow.
use Rattle.std.proofs.Common.{rules}
use Rattle.input.proofs.Steps.{consumes_more}
use Rattle.input.proofs.all.Goals as goal

pub loop-n-preserved : goal.loop-n-preserved
loop-n-preserved g c =
    let before = c.loop-n.invariant in let read = c.in_ok-k.ensures in
    record {
      len = search rules;
      within = search rules;
      bytes = consumes_more _ _ _ _ _ _ _ _ before.within read.bound.0 before.bytes read.bytes.0;
    }

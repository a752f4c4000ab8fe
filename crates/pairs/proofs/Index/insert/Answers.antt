-- `insert` keeps the chains.
use Rattle.std.proofs.Common.{rules}
use Rattle.pairs.specs.Pairs.{lists}
use Rattle.pairs.proofs.Chain.{chain_inserted}
use Rattle.pairs.proofs.Index.insert.Goals as goal

pub invariant_of-self : goal.invariant_of-self
invariant_of-self g c =
    let s = c.args.self.now in
    record {
      chained =
          chain_inserted (lists s.first s.second s.head s.next) s.len c.args.a c.args.b c.insert.ensures s.chained (search rules) (search rules) (search rules);
    }

-- The contract of `ask` settles the call: two outcomes that it allows are the same.
use Rattle.std.proofs.Common.{ℕ, ◌≡◌, ap, List, Option}
use Rattle.graphs.proofs.Settled.{settled}
use Rattle.asked.specs.declared.Asked.{Asked}
use Rattle.asked.specs.Asked.{Call, called, asks}

pub ask_settled : (workers turns : List ℕ) (r r' : Option Asked) (after after' : List ℕ)
    → called r after ≡ asks workers turns → called r' after' ≡ asks workers turns → (r ≡ r') × (after ≡ after')
ask_settled workers turns r r' after after' p q =
    let same = settled p q in
    (ap (λ (c : Call). c.asked) same, ap (λ (c : Call). c.turns) same)

-- What `of_reading`, `of_run` and the conversions promise is one equation each and settles the call: two refusals that one allows are the same.
use Rattle.std.proofs.Common.{◌≡◌}
use Rattle.std.specs.Prelude.{Result}
use Rattle.graphs.proofs.Settled.{settled}
use Rattle.limits.specs.declared.RunError.{RunError}
use Rattle.ends.specs.declared.Outcome.{Outcome}
use Rattle.ends.specs.Told.{told}
use Rattle.statelist.specs.declared.Size.{Size}
use Rattle.statelist.specs.declared.ReadError.{ReadError}
use Rattle.statelist.specs.Told.{told as told_reading}
use Rattle.refusals.specs.declared.Refusal.{Refusal}
use Rattle.refusals.specs.Refusals.{of_reading, of_run}

module _ {r r' : Refusal} where
  pub of_reading_settled : (reading : Result Size ReadError) → r ≡ of_reading (told_reading reading) → r' ≡ of_reading (told_reading reading) → r ≡ r'
  of_reading_settled reading = settled

  pub of_run_settled : (outcome : Result Outcome RunError) → r ≡ of_run (told outcome) → r' ≡ of_run (told outcome) → r ≡ r'
  of_run_settled outcome = settled

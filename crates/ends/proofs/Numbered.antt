-- What is told tells the outcome.
use mathlib.Core.Path.{◌≡◌, refl, sym, ap, ◌∙◌}
use Rattle.std.specs.Prelude.{Result, Ok, Err}
use Rattle.limits.specs.declared.RunError.{RunError}
use Rattle.limits.specs.declared.RunError.TheVariants.{NoWorkers, NoGraph, RoomShort, LassoShort, NoSuchWorker}
use Rattle.limits.proofs.Settled.{error_of}
use Rattle.ends.specs.Told.{Told, told_cycle, told_none, told_undecided, told_refusal, told}
use Rattle.ends.specs.declared.Outcome.{Outcome}
use Rattle.ends.specs.declared.Outcome.TheVariants.{Cycle, None, Undecided}

-- the outcome that is told
abbrev untold : Told → Result Outcome RunError
untold (told_cycle stem loop used) = Ok (Cycle stem loop used)
untold (told_none used) = Ok (None used)
untold (told_undecided used) = Ok (Undecided used)
untold (told_refusal number line) = Err (error_of number)

untold_told : (r : Result Outcome RunError) → untold (told r) ≡ r
untold_told (Ok (Cycle stem round used)) = refl
untold_told (Ok (None used)) = refl
untold_told (Ok (Undecided used)) = refl
untold_told (Err NoWorkers) = refl
untold_told (Err NoGraph) = refl
untold_told (Err RoomShort) = refl
untold_told (Err LassoShort) = refl
untold_told (Err NoSuchWorker) = refl

pub told_one : (r r' : Result Outcome RunError) → told r ≡ told r' → r ≡ r'
told_one r r' e = sym (untold_told r) ∙ ap untold e ∙ untold_told r'

-- What a run tells, and what it shows in the lasso room.
use Rattle.std.specs.Prelude.{ℕ, List, ◌++◌, length, drop, Result, Ok, Err}
use Rattle.moves.specs.Run.{Answer, cycle, none, undecided}
use Rattle.limits.specs.declared.RunError.{RunError}
use Rattle.limits.specs.Refusals.{number_of}
use Rattle.ends.specs.declared.Outcome.{Outcome}
use Rattle.ends.specs.declared.Outcome.TheVariants.{Cycle, None, Undecided}

-- the answer, with the lengths of stem and loop, and how many turns were used; or 01's number of the refusal and its line
pub data Told : Type 0 where
  told_cycle : (stem loop used : ℕ) → Told
  told_none : (used : ℕ) → Told
  told_undecided : (used : ℕ) → Told
  told_refusal : (number line : ℕ) → Told

-- the paper's values for each case. 01: "A refusal for which no line is named carries 0."
abbrev pub told : Result Outcome RunError → Told
told (Ok (Cycle stem round used)) = told_cycle stem round used
told (Ok (None used)) = told_none used
told (Ok (Undecided used)) = told_undecided used
told (Err e) = told_refusal (number_of e) 0

-- 01: "Stem and then loop go to the front of the lasso room, their lengths into the result; the rest of it, and all of it at any other answer, is
-- unchanged."
abbrev pub tells_of : Answer → ℕ → Told
tells_of (cycle stem loop) used = told_cycle (length stem) (length loop) used
tells_of none used = told_none used
tells_of undecided used = told_undecided used

abbrev pub shown : Answer → List ℕ → List ℕ
shown (cycle stem loop) lasso = (stem ++ loop) ++ drop (length (stem ++ loop)) lasso
shown none lasso = lasso
shown undecided lasso = lasso

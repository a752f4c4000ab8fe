-- What a run has come to after a move, read from the room l of n states and P workers.
use Rattle.std.specs.Prelude.{ℕ, ◌+◌, ◌*◌, Bool, cond, List, eqb, get_or, Option, None, Some}
use Rattle.graphs.specs.Lists.{every}
use Rattle.moves.specs.declared.Move.{Move}
use Rattle.moves.specs.declared.Move.TheVariants.{Hit}
use Rattle.moves.specs.Machine.{Machine}
use Rattle.moves.specs.Room.{stretch_at}
use Rattle.moves.specs.Run.{Answer, cycle, none, undecided, stem_of, loop_of, all_done}
use Rattle.steps.specs.declared.Verdict.{Verdict}
use Rattle.steps.specs.declared.Verdict.TheVariants.{Quiet, Found}

-- the answer that a verdict after worker p's turn stands for, with the machine
abbrev pub answer_of : Machine → ℕ → Option Verdict → Answer
answer_of m p None = undecided
answer_of m p (Some Quiet) = none
answer_of m p (Some (Found x)) = cycle (stem_of (m.worker p) x) (loop_of (m.worker p) x)

-- 01: ""None" is the answer as soon as every worker is done."
unfoldable pub all_done_in : ℕ → ℕ → List ℕ → Bool
all_done_in n P l = every P (λ q. eqb (get_or l (stretch_at n q + 5 * n) 0) 4)

-- the verdict after a move, where every worker is done or not
abbrev pub verdict_by : Move → Bool → Option Verdict
verdict_by (Hit s x) done = Some (Found x)
verdict_by made done = cond done (Some Quiet) None

abbrev pub verdict_in : ℕ → ℕ → Move → List ℕ → Option Verdict
verdict_in n P made l = verdict_by made (all_done_in n P l)

-- the same of a machine
abbrev pub verdict_of : ℕ → Machine → Move → Option Verdict
verdict_of P m made = verdict_by made (all_done P m)

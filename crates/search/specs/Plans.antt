-- What a run by a plan leaves: the run over the list that the plan's turns are.
use Rattle.std.specs.Prelude.{ℕ, List, length}
use Rattle.graphs.specs.Words.{graph_of}
use Rattle.moves.specs.declared.Tally.{Tally}
use Rattle.moves.specs.Run.{run, rounds}
use Rattle.theory.specs.Turns.{most_moves}
use Rattle.limits.specs.declared.Plan.{Plan}
use Rattle.limits.specs.declared.Plan.TheVariants.{Turns, Rounds}
use Rattle.limits.specs.Plans.{listed}
use Rattle.limits.specs.Refusals.{refusal_of}
use Rattle.search.specs.Outcomes.{Lent, left, unless}

-- the turns; so many rounds always bring an answer
abbrev pub turns_of : Plan → (offsets targets flags : List ℕ) → ℕ → List ℕ
turns_of (Turns turns) offsets targets flags P = turns.now
turns_of Rounds offsets targets flags P = rounds P (most_moves (graph_of offsets targets flags) P)

abbrev pub outcome_by : Plan → (offsets targets flags : List ℕ) (P : ℕ) (room lasso : List ℕ) → Tally → Lent
outcome_by plan offsets targets flags P room lasso t =
    unless (refusal_of (length room) (length lasso) (listed plan) offsets targets flags P)
    (left (length flags) P (run (graph_of offsets targets flags) P (turns_of plan offsets targets flags P)) room lasso) room lasso t

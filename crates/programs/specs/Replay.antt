-- What `replay` prints for a run over the turns, or to the end, of so many workers, and a text.
use Rattle.std.specs.Prelude.{ℕ, ◌+◌, Bool, true, false, cond, List, ◌++◌, length, take}
use Rattle.moves.specs.Tally.{zeroes}
use Rattle.moves.specs.Room.{room_size}
use Rattle.limits.specs.declared.Plan.{Plan}
use Rattle.limits.specs.declared.Plan.TheVariants.{Turns, Rounds}
use Rattle.limits.specs.Refusals.{usual}
use Rattle.text.specs.Lists as reader
use Rattle.text.specs.Labels.{label_at}
use Rattle.search.specs.Outcomes.{Lent, outcome, outcome_to_end}
use Rattle.report.specs.Report.{refused_line, run_lines, end_lines}

-- a full-size list: 4,096 states, 16,384 transitions
abbrev pub reading : List ℕ → reader.Outcome
reading text = reader.outcome 4097 16384 4096 8192 text

-- whether a plan's run is the run to the end
abbrev pub ending : Plan → Bool
ending (Turns turns) = false
ending Rounds = true

unfoldable pub ran : Bool → (turns : List ℕ) → ℕ → (offsets targets flags room lasso : List ℕ) → Lent
ran ending turns workers offsets targets flags room lasso =
    cond ending (outcome_to_end offsets targets flags workers room lasso zeroes) (outcome turns offsets targets flags workers room lasso zeroes)

-- how many workers run
unfoldable pub named : Bool → ℕ → ℕ
named ending workers = cond ending (usual workers) workers

unfoldable pub replay_lines : Bool → (turns : List ℕ) → ℕ → (text offsets targets flags places : List ℕ) → List ℕ
replay_lines ending turns workers text offsets targets flags places =
    let out = ran ending turns workers offsets targets flags (reader.zeros (room_size 4096 8)) (reader.zeros 8192) in
    run_lines (label_at text places) out.lasso out.tells out.tally
    ++ end_lines (label_at text places) out.room (length flags) (named ending workers) out.tells

-- the lines of a reading
abbrev pub lines_of : Bool → (turns : List ℕ) → ℕ → List ℕ → reader.Outcome → reader.Told → List ℕ
lines_of ending turns workers text out (reader.graph n e) =
    replay_lines ending turns workers text (take (n + 1) out.offsets) (take e out.targets) (take n out.flags) out.places
lines_of ending turns workers text out (reader.refusal number line) = refused_line number line

unfoldable pub replayed : Bool → (turns : List ℕ) → ℕ → List ℕ → List ℕ
replayed ending turns workers text = lines_of ending turns workers text (reading text) (reading text).tells

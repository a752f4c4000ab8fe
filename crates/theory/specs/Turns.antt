-- Turn lists and answers, in the words of the demands.
use Rattle.std.specs.Prelude.{ℕ, zero, suc, ◌+◌, ◌*◌, ◌<◌, ◌≡◌, true, false, List, [], ◌++◌, ◌⊎◌, ◌≢◌}
use Rattle.graphs.specs.Lists.{Mem, Once}
use Rattle.graphs.specs.Graph.{Graph, edges}
use Rattle.graphs.specs.Lasso.{Lasso, MarkedLoop}
use Rattle.moves.specs.Machine.{Machine}
use Rattle.moves.specs.Moves.{turn}
use Rattle.moves.specs.Tally.{changes}
use Rattle.moves.specs.Run.{Answer, cycle, none, undecided, all_done, Result, run_rounds}
use Rattle.theory.specs.Stacks.{Shallow}
use Rattle.theory.specs.Invariant.{SeedAt, Invariant}

-- every turn names a worker below P: what refusal 13 leaves
abbrev pub Named : ℕ → List ℕ → Type 0
Named P l = (p : ℕ) → Mem p l → p < P

-- the stretch names every worker
abbrev pub NamesAll : ℕ → List ℕ → Type 0
NamesAll P l = (p : ℕ) → p < P → Mem p l

-- the list can be cut into k stretches, each naming every worker
abbrev pub Cut : ℕ → ℕ → List ℕ → Type 0
Cut P zero l = l ≡ []
Cut P (suc k) l = (s : List ℕ) × (r : List ℕ) × (l ≡ s ++ r) × NamesAll P s × Cut P k r

-- worker p can make a move that changes something
abbrev pub CanMove : Graph → Machine → ℕ → Type 0
CanMove g m p = changes (turn g p m).move ≡ true

-- from r to r' the count of moves rises by one and the machine changes, or neither
abbrev pub Counts : Result → Result → Type 0
Counts r r' =
    ((r'.tally.moves ≡ r.tally.moves + 1) × (r'.machine ≢ r.machine)) ⊎ ((r'.tally.moves ≡ r.tally.moves) × (r'.machine ≡ r.machine))

-- "P × (1 + 4N + 3E)": as many moves that change something as a turn list can hold
unfoldable pub most_moves : Graph → ℕ → ℕ
most_moves g P = P * (1 + 4 * g.size + 3 * edges g)

-- 01: "a run to the end with turns 0, 1, .., P−1 repeated": that many rounds always bring an answer
abbrev pub run_to_end : Graph → ℕ → Result
run_to_end g P = run_rounds g P (most_moves g P)

-- the word of an answer
pub data Word : Type 0 where
  word_cycle : Word
  word_none : Word
  word_undecided : Word

abbrev pub word_of : Answer → Word
word_of (cycle stem loop) = word_cycle
word_of none = word_none
word_of undecided = word_undecided

-- "cycle" or "none"
abbrev pub Decided : Answer → Type 0
Decided (cycle stem loop) = Unit {0}
Decided none = Unit {0}
Decided undecided = ⊥

-- what an answer says of the graph; and where there is none yet, the machine has the invariant and some worker is not done
abbrev pub Right : Graph → ℕ → Machine → Answer → Type 0
Right g P m (cycle stem loop) = Lasso g stem loop × Once (stem ++ loop)
Right g P m none = MarkedLoop g → ⊥
Right g P m undecided = Invariant g P m × (all_done P m ≡ false)

-- the same of a result
abbrev pub Stands : Graph → ℕ → Result → Type 0
Stands g P r = Right g P r.machine r.answer

-- every worker's stacks are at most N deep and hold only states
abbrev pub AllShallow : Graph → Machine → Type 0
AllShallow g m = (q : ℕ) → Shallow g.size (m.worker q).outer (m.worker q).inner

-- every worker's seed is a state
abbrev pub SeedsInside : Graph → Machine → Type 0
SeedsInside g m = (q z : ℕ) → SeedAt (m.worker q).place z → z < g.size

-- What a graph is, and a walk through it. The states are the numbers below the size, and the initial state is 0.
-- A search knows a graph only through these four fields and what `Sound` says of them: whatever gives the successors serves.
use Rattle.std.specs.Prelude.{ℕ, ◌<◌, ◌%◌, ◌≡◌, Bool, List, ◌++◌, length, take, drop}
use Rattle.graphs.specs.Lists.{Mem, sum}

pub record Graph : Type 0 where
  pub size : ℕ
  -- the successors of a state, in the order of its T lines
  pub next : ℕ → List ℕ
  -- the states with a mark
  pub accepting : ℕ → Bool
  -- the successors of a state in the order in which worker p looks at them
  pub order : ℕ → ℕ → List ℕ

-- 01: "Worker p looks at the successors of a state with d successors starting at number p mod d and going round once"
unfoldable pub turned : ℕ → List ℕ → List ℕ
turned p l = drop (p % length l) l ++ take (p % length l) l

-- the graph with 01's order of looking
unfoldable pub graph : ℕ → (ℕ → List ℕ) → (ℕ → Bool) → Graph
graph size next accepting = record { size = size; next = next; accepting = accepting; order = λ p s. turned p (next s) }

-- a transition from s to t
abbrev pub Edge : Graph → ℕ → ℕ → Type 0
Edge g s t = Mem t (g.next s)

-- E: the transitions of all states, counted
unfoldable pub edges : Graph → ℕ
edges g = sum g.size (λ s. length (g.next s))

-- a walk of no step or more
pub data Walk (g : Graph) : ℕ → ℕ → Type 0 where
  stay : {s : ℕ} → Walk g s s
  step : {s t u : ℕ} → Edge g s t → Walk g t u → Walk g s u

-- a walk of one step or more
pub record Far (g : Graph) (s u : ℕ) : Type 0 where
  pub mid : ℕ
  pub edge : Edge g s mid
  pub walk : Walk g mid u

-- What a search may rely on: there is an initial state, transitions stay among the states, and each worker looks at every successor and at
-- nothing else, once for each transition.
pub record Sound (g : Graph) : Type 0 where
  pub first : 0 < g.size
  pub bound : (s t : ℕ) → s < g.size → Edge g s t → t < g.size
  pub seen : (p s t : ℕ) → Mem t (g.order p s) → Edge g s t
  pub shown : (p s t : ℕ) → Edge g s t → Mem t (g.order p s)
  pub long : (p s : ℕ) → length (g.order p s) ≡ length (g.next s)

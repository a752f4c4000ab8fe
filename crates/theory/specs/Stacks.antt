-- What concerns only a worker's stacks, whatever search they serve: the outer stack is exactly what is cyan, holds nothing twice, and is a path
-- from the initial state; a state on neither stack has taken nothing.
use Rattle.std.specs.Prelude.{ℕ, ◌<◌, ◌≤◌, ◌≡◌, Bool, true, List, [], ◌∷◌, length}
use Rattle.graphs.specs.Lists.{Mem, Once}
use Rattle.graphs.specs.Graph.{Graph, Edge}

-- the stack with top x and l under it is a path from its bottom b
abbrev pub Trail : Graph → ℕ → ℕ → List ℕ → Type 0
Trail g b x [] = x ≡ b
Trail g b x (y ∷ l) = Edge g y x × Trail g b y l

-- the same of a stack that may be empty
abbrev pub Stacked : Graph → ℕ → List ℕ → Type 0
Stacked g b [] = Unit {0}
Stacked g b (x ∷ l) = Trail g b x l

pub record Stacks (g : Graph) (cyan : ℕ → Bool) (outer inner : List ℕ) (taken : ℕ → ℕ) : Type 0 where
  pub on : (x : ℕ) → cyan x ≡ true → Mem x outer
  pub is : (x : ℕ) → Mem x outer → cyan x ≡ true
  pub once : Once outer
  pub trail : Stacked g 0 outer
  pub free : (x : ℕ) → (Mem x outer → ⊥) → (Mem x inner → ⊥) → taken x ≡ 0

-- both stacks are at most n deep, and hold only numbers below n
pub record Shallow (n : ℕ) (outer inner : List ℕ) : Type 0 where
  pub outer_deep : length outer ≤ n
  pub inner_deep : length inner ≤ n
  pub outer_below : (x : ℕ) → Mem x outer → x < n
  pub inner_below : (x : ℕ) → Mem x inner → x < n

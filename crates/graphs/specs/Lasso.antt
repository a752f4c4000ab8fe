-- What a finding is: a lasso, and that a loop through a mark can be reached. Said here once, for every search.
use Rattle.std.specs.Prelude.{ℕ, ◌≡◌, true, List, [], ◌∷◌, ◌++◌}
use Rattle.graphs.specs.Lists.{Mem}
use Rattle.graphs.specs.Graph.{Graph, Edge, Walk, Far}

-- the list begins with s
abbrev pub Begins : ℕ → List ℕ → Type 0
Begins s [] = ⊥
Begins s (x ∷ l) = x ≡ s

-- x leads to the first of the list, and each of the list to its neighbour
abbrev pub Linked : Graph → ℕ → List ℕ → Type 0
Linked g x [] = Unit {0}
Linked g x (y ∷ l) = Edge g x y × Linked g y l

-- neighbours in the list are transitions
abbrev pub Chain : Graph → List ℕ → Type 0
Chain g [] = Unit {0}
Chain g (x ∷ l) = Linked g x l

-- the last of x ∷ l
unfoldable pub final : ℕ → List ℕ → ℕ
final x [] = x
final x (y ∷ l) = final y l

-- the last of the list leads to its first
abbrev pub Closes : Graph → List ℕ → Type 0
Closes g [] = ⊥
Closes g (x ∷ l) = Edge g (final x l) x

-- a stem and a loop, as lists of states
pub record Lasso (g : Graph) (stem loop : List ℕ) : Type 0 where
  pub starts : Begins 0 (stem ++ loop)
  pub steps : Chain g (stem ++ loop)
  pub closes : Closes g loop
  pub mark : ℕ
  pub in_loop : Mem mark loop
  pub accepts : g.accepting mark ≡ true

-- a loop through a mark can be reached
pub record MarkedLoop (g : Graph) : Type 0 where
  pub mark : ℕ
  pub accepts : g.accepting mark ≡ true
  pub reached : Walk g 0 mark
  pub loops : Far g mark mark

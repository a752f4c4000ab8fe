-- When the parts of a stretch are those of a worker, and what else the contracts of a stretch's methods speak of.
use Rattle.std.specs.Prelude.{ℕ, ◌≡◌, ◌<◌, Option, Some, None, List, [], ◌∷◌, length}
use Rattle.graphs.specs.declared.graph.Graph as checked
use Rattle.graphs.specs.Graph.{Graph}
use Rattle.graphs.specs.Words.{graph_of}
use Rattle.moves.specs.Machine.{Worker}
use Rattle.moves.specs.Words.{IsSet, IsStack, IsCounts}
use Rattle.turn.specs.declared.stretch.Stretch.{Stretch}

-- the parts are those of the worker w of n states
pub record Holds (k : Stretch) (n : ℕ) (w : Worker) : Type 0 where
  pub place : k.place ≡ w.place
  pub cyan : IsSet n w.cyan k.cyan.now
  pub R : IsSet n w.R k.gathered.now
  pub outer : IsStack n w.outer k.outer.now k.outer_depth
  pub inner : IsStack n w.inner k.inner.now k.inner_depth
  pub taken : IsCounts n w.taken k.taken.now

-- the parts lie where they lay
pub record SameParts (old new : Stretch) : Type 0 where
  pub cyan : new.cyan.ghost_name ≡ old.cyan.ghost_name
  pub gathered : new.gathered.ghost_name ≡ old.gathered.ghost_name
  pub outer : new.outer.ghost_name ≡ old.outer.ghost_name
  pub inner : new.inner.ghost_name ≡ old.inner.ghost_name
  pub taken : new.taken.ghost_name ≡ old.taken.ghost_name

-- the words are those of a stack with a state on top
pub record Topped (l : List ℕ) (depth : ℕ) : Type 0 where
  pub top : ℕ
  pub under : List ℕ
  pub stack : IsStack (length l) (top ∷ under) l depth
  pub state : top < length l

-- the graph whose words these are
abbrev pub graph_in : checked.Graph → Graph
graph_in k = graph_of k.offsets.now k.targets.now k.flags.now

abbrev pub first_of : List ℕ → Option ℕ
first_of [] = None
first_of (x ∷ l) = Some x

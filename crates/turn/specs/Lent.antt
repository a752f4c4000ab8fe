-- What is lent to worker p's turn: the words of the shared colours, and those of its stretch, in one piece or cut into parts. They are the colours and the
-- worker of a machine, and after the turn those of the machine after it.
use Rattle.std.specs.Prelude.{ℕ, ◌<◌, ◌≡◌, List, length}
use Rattle.graphs.specs.declared.graph.Graph as checked
use Rattle.moves.specs.declared.Move.{Move}
use Rattle.moves.specs.Machine.{Worker, Machine}
use Rattle.moves.specs.Moves.{turn}
use Rattle.moves.specs.Room.{span}
use Rattle.moves.specs.Words.{IsSet}
use Rattle.theory.specs.Invariant.{Invariant}
use Rattle.turn.specs.Holds.{graph_in}

-- `Own n w` says that the stretch is that of the worker w of n states
pub record Lent (n p : ℕ) (m : Machine) (blue red : List ℕ) (Own : ℕ → Worker → Type 0) : Type 0 where
  pub blue_is : IsSet n m.blue blue
  pub red_is : IsSet n m.red red
  pub own : Own n (m.worker p)

-- the machine is one of P workers that the rules lead to
pub record LentOf (g : checked.Graph) (P p : ℕ) (m : Machine) (blue red : List ℕ) (Own : ℕ → Worker → Type 0) : Type 0 where
  pub named : p < P
  pub inv : Invariant (graph_in g) P m
  pub lent : Lent (length g.flags.now) p m blue red Own

pub record SomeLent (g : checked.Graph) (p : ℕ) (blue red : List ℕ) (Own : ℕ → Worker → Type 0) : Type 0 where
  pub workers : ℕ
  pub machine : Machine
  pub given : LentOf g workers p machine blue red Own

-- the move, and what is lent after it
pub record LentAfter (g : checked.Graph) (p : ℕ) (m : Machine) (blue red : List ℕ) (Own : ℕ → Worker → Type 0) (r : Move) : Type 0 where
  pub move : r ≡ (turn (graph_in g) p m).move
  pub lent : Lent (length g.flags.now) p (turn (graph_in g) p m).machine blue red Own

-- a stretch in one piece
pub record IsSpan (l : List ℕ) (n : ℕ) (w : Worker) : Type 0 where
  pub words : l ≡ span n w

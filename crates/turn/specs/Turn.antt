-- What a turn of worker p asks and promises: the room is the form of a machine, and then of the machine after exactly that worker's move; and the same of
-- the words alone.
use Rattle.std.specs.Prelude.{ℕ, ◌<◌, ◌≡◌, true, List, ◌++◌, length}
use Rattle.graphs.specs.Words.{graph_of, is_graph}
use Rattle.moves.specs.declared.Move.{Move}
use Rattle.moves.specs.Machine.{Machine}
use Rattle.moves.specs.Moves.{turn}
use Rattle.moves.specs.Room.{room, stretch_at}
use Rattle.moves.specs.Own.{own_at}
use Rattle.theory.specs.Invariant.{Invariant}
use Rattle.turn.specs.Look.{chosen}
use Rattle.turn.specs.Made.{made_words}

-- l is the form of the machine m of P workers, and other words after it
pub record Formed (offsets targets flags : List ℕ) (P : ℕ) (m : Machine) (rest l : List ℕ) : Type 0 where
  pub form : l ≡ room (length flags) P m ++ rest
  pub inv : Invariant (graph_of offsets targets flags) P m

pub record Poised (offsets targets flags : List ℕ) (p : ℕ) (l : List ℕ) : Type 0 where
  pub graph : is_graph offsets targets flags ≡ true
  pub workers : ℕ
  pub machine : Machine
  pub rest : List ℕ
  pub named : p < workers
  pub formed : Formed offsets targets flags workers machine rest l

-- the move, and the room after it
pub record Turned (offsets targets flags : List ℕ) (p P : ℕ) (m : Machine) (rest l' : List ℕ) (r : Move) : Type 0 where
  pub move : r ≡ (turn (graph_of offsets targets flags) p m).move
  pub room' : l' ≡ room (length flags) P (turn (graph_of offsets targets flags) p m).machine ++ rest

-- whatever machine it is the form of
abbrev pub Turns : (offsets targets flags : List ℕ) (p : ℕ) (l l' : List ℕ) (r : Move) → Type 0
Turns offsets targets flags p l l' r =
    (P : ℕ) (m : Machine) (rest : List ℕ) → p < P → Formed offsets targets flags P m rest l → Turned offsets targets flags p P m rest l' r

-- the move is the one that the words give, and the room after it has what making that move writes
pub record WordsTurned (offsets targets flags : List ℕ) (p : ℕ) (l l' : List ℕ) (r : Move) : Type 0 where
  pub choice : r ≡ chosen offsets targets flags (stretch_at (length flags) p) p (own_at l (length flags) p) l
  pub made : l' ≡ made_words (length flags) (stretch_at (length flags) p) (own_at l (length flags) p) r l

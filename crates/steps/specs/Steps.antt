-- What a turn of worker p asks and promises: the room is the form of a machine, and then of the machine after that worker's move, which the tally
-- counts. No entry point's contract cites this page.
use Rattle.std.specs.Prelude.{ℕ, ◌<◌, ◌≤◌, ◌≡◌, true, List, ◌++◌, length, Option}
use Rattle.graphs.specs.Words.{graph_of, is_graph}
use Rattle.moves.specs.declared.Tally.{Tally}
use Rattle.moves.specs.Machine.{Machine}
use Rattle.moves.specs.Moves.{turn}
use Rattle.moves.specs.Tally.{raised, Low}
use Rattle.moves.specs.Room.{room}
use Rattle.turn.specs.Turn.{Formed}
use Rattle.limits.specs.Refusals.{most_workers}
use Rattle.steps.specs.declared.Verdict.{Verdict}
use Rattle.steps.specs.Verdict.{verdict_of}

-- the words are a graph, and there are 1 to 8 workers
pub record Held (offsets targets flags : List ℕ) (P : ℕ) : Type 0 where
  pub graph : is_graph offsets targets flags ≡ true
  pub some : 0 < P
  pub few : P ≤ most_workers

pub record Due (offsets targets flags : List ℕ) (P p : ℕ) (l : List ℕ) (t : Tally) : Type 0 where
  pub held : Held offsets targets flags P
  pub named : p < P
  pub machine : Machine
  pub rest : List ℕ
  pub formed : Formed offsets targets flags P machine rest l
  pub low : Low t

pub record Stepped (offsets targets flags : List ℕ) (P p : ℕ) (m : Machine) (rest : List ℕ) (t : Tally)
    (r : Option Verdict) (l' : List ℕ) (t' : Tally) : Type 0 where
  pub form : l' ≡ room (length flags) P (turn (graph_of offsets targets flags) p m).machine ++ rest
  pub tally : t' ≡ raised t (turn (graph_of offsets targets flags) p m).move
  pub verdict : r ≡ verdict_of P (turn (graph_of offsets targets flags) p m).machine (turn (graph_of offsets targets flags) p m).move

-- whatever machine the room is the form of
abbrev pub Steps : (offsets targets flags : List ℕ) (P p : ℕ) (l : List ℕ) (t : Tally) (r : Option Verdict) (l' : List ℕ) (t' : Tally) → Type 0
Steps offsets targets flags P p l t r l' t' =
    (m : Machine) (rest : List ℕ) → Formed offsets targets flags P m rest l → Stepped offsets targets flags P p m rest t r l' t'

-- The machine: the colours that the workers share, and what each worker has of its own. Sets are tests of numbers, and stacks are lists with the
-- top first.
use Rattle.std.specs.Prelude.{ℕ, Bool, false, List, []}
use Rattle.moves.specs.declared.Place.{Place}
use Rattle.moves.specs.declared.Place.TheVariants.{Fresh}

pub record Worker : Type 0 where
  -- 01: "A worker's place is one value"
  pub place : Place
  -- 01: "cyan and the set R are each worker's own"
  pub cyan : ℕ → Bool
  pub R : ℕ → Bool
  pub outer : List ℕ
  pub inner : List ℕ
  -- how many successors of a state are taken in the search that it is in now; 0 for a state in none
  pub taken : ℕ → ℕ

pub record Machine : Type 0 where
  -- 01: "blue and red are shared"
  pub blue : ℕ → Bool
  pub red : ℕ → Bool
  pub worker : ℕ → Worker

-- 01: "All start empty."
abbrev pub empty : ℕ → Bool
empty x = false

abbrev pub fresh : Worker
fresh = record { place = Fresh; cyan = empty; R = empty; outer = []; inner = []; taken = λ s. 0 }

abbrev pub start : Machine
start = record { blue = empty; red = empty; worker = λ p. fresh }

-- When words are those of a set, of a stack or of counts: the three kinds of which a worker's stretch and the shared colours are made.
use Rattle.std.specs.Prelude.{ℕ, ◌≡◌, Bool, List, length}
use Rattle.graphs.specs.Lists.{tab}
use Rattle.moves.specs.Room.{bits, pile}

pub record IsSet (n : ℕ) (f : ℕ → Bool) (l : List ℕ) : Type 0 where
  pub words : l ≡ bits n f

-- the stack u, bottom first, in n words, of which d are its own
pub record IsStack (n : ℕ) (u l : List ℕ) (d : ℕ) : Type 0 where
  pub long : length l ≡ n
  pub words : l ≡ pile n u
  pub depth : d ≡ length u

pub record IsCounts (n : ℕ) (t : ℕ → ℕ) (l : List ℕ) : Type 0 where
  pub words : l ≡ tab 0 n t

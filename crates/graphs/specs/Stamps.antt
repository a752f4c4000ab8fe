-- What the private functions of src/checks.rt that look for a repeated target ask and promise. No public contract cites this page.
use Rattle.std.specs.Prelude.{ℕ, ◌+◌, ◌<◌, ◌≤◌, ◌≡◌, Bool, not, List, length, get_or}
use Rattle.graphs.specs.Lists.{repeats}
use Rattle.graphs.specs.Words.{most_states}

-- n + 1 offsets never fall and end at the number of targets, and the targets are below n
pub record Fit (offsets targets : List ℕ) (n : ℕ) : Type 0 where
  pub few : n ≤ most_states
  pub count : length offsets ≡ n + 1
  pub last : get_or offsets n 0 ≡ length targets
  pub rising : (s : ℕ) → s < n → get_or offsets s 0 ≤ get_or offsets (s + 1) 0
  pub inside : (k : ℕ) → k < length targets → get_or targets k 0 < n

-- the targets are places of the table, and no place has the stamp or one above it
pub record Blank (table targets : List ℕ) (stamp : ℕ) : Type 0 where
  pub inside : (i : ℕ) → i < length targets → get_or targets i 0 < length table
  pub fresh : (x : ℕ) → get_or table x 0 < stamp

-- the answer; and no place has a stamp above this one
pub record Stamped (table targets : List ℕ) (stamp : ℕ) (r : Bool) : Type 0 where
  pub answer : r ≡ not (repeats targets)
  pub used : (x : ℕ) → get_or table x 0 < stamp + 1

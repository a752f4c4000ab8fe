-- The potential: how many moves that change something are still to come, at most. It is counted for each worker, state by state, as an outer part
-- and a join part. Every such move lowers its worker's count, and no move raises another's (proved in theory's Cost and Total).
use Rattle.std.specs.Prelude.{ℕ, ◌+◌, ◌*◌, ◌-◌, Bool, true, false, if◌then◌else◌, not, ◌&&◌, ◌||◌, ◌==◌, length}
use Rattle.graphs.specs.Lists.{sum, elem}
use Rattle.graphs.specs.Graph.{Graph}
use Rattle.moves.specs.declared.Place.{Place}
use Rattle.moves.specs.declared.Place.TheVariants.{Fresh, Outer, Inner, Waiting, Done}
use Rattle.moves.specs.Machine.{Worker, Machine}

abbrev pub is_fresh : Place → Bool
is_fresh Fresh = true
is_fresh Outer = false
is_fresh (Inner z) = false
is_fresh (Waiting z) = false
is_fresh Done = false

-- t is the seed, in the inner search; and t is the seed, waiting
abbrev pub searches_at : Place → ℕ → Bool
searches_at Fresh t = false
searches_at Outer t = false
searches_at (Inner z) t = t == z
searches_at (Waiting z) t = false
searches_at Done t = false

abbrev pub waits_at : Place → ℕ → Bool
waits_at Fresh t = false
waits_at Outer t = false
waits_at (Inner z) t = false
waits_at (Waiting z) t = t == z
waits_at Done t = false

module _ (g : Graph) (blue red : ℕ → Bool) (w : Worker) where
  -- t's successors; and those that are left in the search that t is in now
  abbrev pub degree : ℕ → ℕ
  degree t = length (g.next t)

  abbrev pub untaken : ℕ → ℕ
  untaken t = degree t - w.taken t

  -- On the outer stack a state has its takes and the move that ends them; if that makes it the seed, the takes of the inner search, the move that
  -- ends them, and the painting. A fresh worker starts at state 0, blue or not.
  abbrev pub outer_part : ℕ → ℕ
  outer_part t =
      if w.cyan t
      then (if searches_at w.place t then untaken t + 2 else if waits_at w.place t then 1 else untaken t + 1 + (degree t + 2))
      else if not (is_fresh w.place && t == 0) && blue t
      then 0
      else 2 * degree t + 3

  -- On the inner stack a state has its takes and the move that ends them; the seed's are in its outer part.
  abbrev pub join_part : ℕ → ℕ
  join_part t = if not (searches_at w.place t) && elem t w.inner then untaken t + 1 else if w.R t || red t then 0 else degree t + 1

  abbrev pub cell : ℕ → ℕ
  cell t = outer_part t + join_part t

  -- the start is one move more
  unfoldable pub work_left : ℕ
  work_left = (if is_fresh w.place then 1 else 0) + sum g.size cell

-- the sum over the workers below P
unfoldable pub total : Graph → ℕ → Machine → ℕ
total g P m = sum P (λ q. work_left g m.blue m.red (m.worker q))

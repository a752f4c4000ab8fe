-- A worker's place and the depths of its stacks: of a worker of the machine, and as they stand in four words.
use Rattle.std.specs.Prelude.{ℕ, ◌+◌, ◌*◌, List, length, get_or}
use Rattle.moves.specs.Machine.{Worker}
use Rattle.moves.specs.Room.{place_of, stretch_at}
use Rattle.moves.specs.declared.own.Own.{Own}

abbrev pub own_of : Worker → Own
own_of w = record { place = w.place; outer = length w.outer; inner = length w.inner }

abbrev pub own_in : List ℕ → ℕ → Own
own_in l at = record { place = place_of (get_or l at 0) (get_or l (at + 1) 0); outer = get_or l (at + 2) 0; inner = get_or l (at + 3) 0 }

-- worker q's place and depths, as the room of a machine of n states has them (docs/ROOM.md)
abbrev pub own_at : List ℕ → ℕ → ℕ → Own
own_at room n q = own_in room (stretch_at n q + 5 * n)

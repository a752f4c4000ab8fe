-- What moves change: a worker, and the machine. The moves that make these changes are in Moves. A state's count of taken successors goes back to 0
-- when it leaves a stack, and when it becomes the seed.
use Rattle.std.specs.Prelude.{ℕ, suc, Bool, true, false, ◌||◌, List, [], ◌∷◌, ◌==◌}
use Rattle.graphs.specs.Lists.{upd}
use Rattle.moves.specs.declared.Place.{Place}
use Rattle.moves.specs.declared.Place.TheVariants.{Fresh, Outer, Inner}
use Rattle.moves.specs.Place.{started, seeded, backed}
use Rattle.moves.specs.Machine.{Worker, Machine}

abbrev pub is_empty : List ℕ → Bool
is_empty [] = true
is_empty (x ∷ l) = false

-- only s
unfoldable pub only : ℕ → ℕ → Bool
only s x = x == s

-- the initial state becomes cyan and the outer stack's only entry
abbrev pub starts : Worker → Worker
starts w = record { place = started Fresh; cyan = upd w.cyan 0 true; R = w.R; outer = 0 ∷ []; inner = w.inner; taken = w.taken }

-- one more successor of s is taken
abbrev pub takes : Worker → ℕ → Worker
takes w s = record { place = w.place; cyan = w.cyan; R = w.R; outer = w.outer; inner = w.inner; taken = upd w.taken s (suc (w.taken s)) }

-- x is taken from s, becomes cyan and goes on the stack
abbrev pub enters : Worker → ℕ → ℕ → Worker
enters w s x =
    record {
      place = w.place;
      cyan = upd w.cyan x true;
      R = w.R;
      outer = x ∷ w.outer;
      inner = w.inner;
      taken = upd w.taken s (suc (w.taken s));
    }

-- s loses cyan and leaves the outer stack, which is u then; place and R after it are given
abbrev pub pops : Worker → ℕ → List ℕ → Place → (ℕ → Bool) → Worker
pops w s u q k = record { place = q; cyan = upd w.cyan s false; R = k; outer = u; inner = w.inner; taken = upd w.taken s 0 }

-- s becomes the seed, R holds only it, and it starts the inner stack
abbrev pub seeds : Worker → ℕ → Worker
seeds w s = record { place = seeded Outer s; cyan = w.cyan; R = only s; outer = w.outer; inner = s ∷ []; taken = upd w.taken s 0 }

-- x is taken from s, and joins R and the inner stack
abbrev pub joins : Worker → ℕ → ℕ → Worker
joins w s x =
    record {
      place = w.place;
      cyan = w.cyan;
      R = upd w.R x true;
      outer = w.outer;
      inner = x ∷ w.inner;
      taken = upd w.taken s (suc (w.taken s));
    }

-- under the seed z, s leaves the inner stack, which is u then
abbrev pub backs : Worker → ℕ → ℕ → List ℕ → Worker
backs w z s u = record { place = backed (Inner z) (is_empty u); cyan = w.cyan; R = w.R; outer = w.outer; inner = u; taken = upd w.taken s 0 }

-- Worker p is w now. With that nothing shared changes, s becomes blue, or all of p's R becomes red.

abbrev pub put : Machine → ℕ → Worker → Machine
put m p w = record { blue = m.blue; red = m.red; worker = upd m.worker p w }

abbrev pub put_blue : Machine → ℕ → Worker → ℕ → Machine
put_blue m p w s = record { blue = upd m.blue s true; red = m.red; worker = upd m.worker p w }

abbrev pub dyed : Machine → ℕ → ℕ → Bool
dyed m p x = m.red x || (m.worker p).R x

abbrev pub put_red : Machine → ℕ → Worker → Machine
put_red m p w = record { blue = m.blue; red = dyed m p; worker = upd m.worker p w }

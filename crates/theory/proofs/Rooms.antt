-- The room of every machine that turns can lead to: its stacks fit, so that it has the words that 01 counts and tells the machine; and a turn
-- writes only the shared colours and its worker's own stretch.
use Rattle.std.proofs.Common.{ℕ, suc, ◌*◌, ◌<◌, ◌≤◌, ◌≡◌, refl, List, [], ◌∷◌, ◌++◌, ◌⊎◌, inl, inr, length, get_or}
use Rattle.graphs.specs.Lists.{Mem}
use Rattle.graphs.specs.Graph.{Graph, Sound}
use Rattle.graphs.proofs.Member.{mem_cases}
use Rattle.moves.specs.Moves.{turn}
use Rattle.moves.specs.Run.{run, undecided}
use Rattle.moves.specs.Room.{room, room_size, stretch_at, Fits, AllFit, SameBelow}
use Rattle.moves.proofs.Room.{room_long, forms_differ}
use Rattle.moves.proofs.Stretch.{move_own_stretch}
use Rattle.theory.specs.Turns.{Named}
use Rattle.theory.proofs.Run.{step_ind, run_shallow}
use Rattle.theory.proofs.Demands.{each_turn, each_turn_moves}

module _ (g : Graph) (P : ℕ) (sound : Sound g) (some : 0 < P) where
  pub run_fits : (l : List ℕ) → Named P l → AllFit g.size P (run g P l).machine
  run_fits l n q h = let s = run_shallow g P sound some l n q in record { outer_fits = s.outer_deep; inner_fits = s.inner_deep }

  pub run_room_long : (l : List ℕ) → Named P l → length (room g.size P (run g P l).machine) ≡ room_size g.size P
  run_room_long l n = room_long g.size P (run g P l).machine (run_fits l n)

  -- "different forms for different states"
  pub run_forms_differ : (l k : List ℕ) → Named P l → Named P k → room g.size P (run g P l).machine ≡ room g.size P (run g P k).machine
      → SameBelow g.size P (run g P l).machine (run g P k).machine
  run_forms_differ l k n o = forms_differ g.size P (run g P l).machine (run g P k).machine (run_fits l n) (run_fits k o)

  -- "Apart from the shared colours, each worker writes only its own stretch of the room."
  pub turn_own_stretch : (l : List ℕ) → Named P l → (p : ℕ) → p < P
      → (i : ℕ) → 2 * g.size ≤ i → (i < stretch_at g.size p) ⊎ (stretch_at g.size (suc p) ≤ i)
      → get_or (room g.size P (run g P (l ++ (p ∷ []))).machine) i 0 ≡ get_or (room g.size P (run g P l).machine) i 0
  turn_own_stretch l n p h i past away =
      rw (each_turn g P l p)
      (step_ind g P (λ r. get_or (room g.size P r.machine) i 0 ≡ get_or (room g.size P (run g P l).machine) i 0) (run g P l) p refl moves)
    where
      named : Named P (l ++ (p ∷ []))
      named q m = go (mem_cases q l (p ∷ []) m)
        where
          go : Mem q l ⊎ Mem q (p ∷ []) → q < P
          go (inl k) = n q k
          go (inr (inl e)) = rw e h
          go (inr (inr k)) = absurd k

      moves : (run g P l).answer ≡ undecided
          → get_or (room g.size P (turn g p (run g P l).machine).machine) i 0 ≡ get_or (room g.size P (run g P l).machine) i 0
      moves e = move_own_stretch g g.size P p (run g P l).machine h (run_fits l n) fits i past away
        where
          fits : Fits g.size ((turn g p (run g P l).machine).machine.worker p)
          fits = rw (each_turn_moves g P l p e) at (run_fits (l ++ (p ∷ [])) named p h)

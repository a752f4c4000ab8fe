-- A turn goes by the rules: where a worker in a search has its stack, what its turn makes is one of the lines of `Rule`.
use Rattle.std.proofs.Common.{ℕ, ◌≡◌, refl, ◌||◌, List, [], ◌∷◌}
use Rattle.graphs.specs.Graph.{Graph}
use Rattle.graphs.proofs.Tests.{cond_ind}
use Rattle.moves.specs.declared.Place.{Place}
use Rattle.moves.specs.declared.Place.TheVariants.{Fresh, Outer, Inner, Waiting, Done}
use Rattle.moves.specs.Machine.{Machine}
use Rattle.moves.specs.Moves.{on_first, remaining, others_red, turn, turn_at, move_1, move_2, move_3, move_4, move_5, move_6, move_7}
use Rattle.theory.specs.Rules.{Rule, At, Outermost, Innermost}
use Rattle.theory.specs.Rules.{by_start, by_skip, by_enter, by_leave, by_seed, by_hit, by_pass, by_join, by_back, by_paint, by_wait, by_rest}
use Rattle.theory.specs.Invariant.{Local}
use Rattle.theory.proofs.Phase.{at}

module _ (g : Graph) (p : ℕ) (m : Machine) where
  outer_goes : (s : ℕ) (u k : List ℕ) → At p m Outer → Outermost p m s u → remaining g p m s ≡ k
      → Rule g p m (on_first k (move_3 g p m s u) (λ x l. move_2 g p m s x))
  unfolding move_2 move_3
  outer_goes s u [] ep eo er = cond_ind (Rule g p m) (g.accepting s) (by_seed ep eo er) (by_leave ep eo er)
  outer_goes s u (x ∷ l) ep eo er = cond_ind (Rule g p m) ((m.worker p).cyan x || m.blue x) (by_skip ep eo er) (by_enter ep eo er)

  inner_goes : (z s : ℕ) (u k : List ℕ) → At p m (Inner z) → Innermost p m s u → remaining g p m s ≡ k
      → Rule g p m (on_first k (move_5 g p m z s u) (λ x l. move_4 g p m s x))
  unfolding move_4 move_5
  inner_goes z s u [] ep ei er = by_back ep ei er
  inner_goes z s u (x ∷ l) ep ei er =
      cond_ind (Rule g p m) ((m.worker p).cyan x) (by_hit ep ei er)
      (λ e. cond_ind (Rule g p m) ((m.worker p).R x || m.red x) (by_pass ep ei er e) (by_join ep ei er e))

  waiting_goes : (z : ℕ) (u : List ℕ) → At p m (Waiting z) → Outermost p m z u → Rule g p m (move_6 g p m z u)
  unfolding move_6
  waiting_goes z u ep eo = cond_ind (Rule g p m) (others_red g p m z) (by_paint ep eo) (by_wait ep)

  pub obeys : {dead : ℕ → Type 0} → Local g m.blue dead p (m.worker p) → Rule g p m (turn g p m)
  unfolding turn turn_at move_1 move_7
  obeys {dead} l = go (m.worker p).place refl
    where
      go : (q : Place) → At p m q → Rule g p m (turn_at g p m q)
      go Fresh e = by_start e
      go Outer e = let c = at l e in rw c.top (outer_goes c.head c.under _ e c.top refl)
      go (Inner z) e = let d = (at l e).1 in rw d.stack (inner_goes z d.head d.rest _ e d.stack refl)
      go (Waiting z) e = let h = (at l e).0 in rw h.top (waiting_goes z h.under e h.top)
      go Done e = by_rest e

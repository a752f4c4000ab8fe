-- A lasso shows that a loop through a mark can be reached, and holds only states.
use Rattle.std.proofs.Common.{ℕ, ◌<◌, refl, sym, List, [], ◌∷◌, ◌++◌, inl, inr}
use Rattle.graphs.specs.Lists.{Mem}
use Rattle.graphs.specs.Graph.{Graph, Walk, stay, step, Far, Sound}
use Rattle.graphs.specs.Lasso.{Begins, Linked, Chain, final, Closes, Lasso, MarkedLoop}
use Rattle.graphs.proofs.Member.{mem_right}
use Rattle.graphs.proofs.Walk.{walk_far, far_join, edge_far, walk_inside}

module _ (g : Graph) where
  -- along a chain one walks from its first to any, and from any to its last
  pub linked_walk : (x : ℕ) (l : List ℕ) → Linked g x l → (y : ℕ) → Mem y (x ∷ l) → Walk g x y
  linked_walk x [] k y (inl e) = rw e stay
  linked_walk x [] k y (inr m) = absurd m
  linked_walk x (z ∷ l) k y (inl e) = rw e stay
  linked_walk x (z ∷ l) k y (inr m) = step k.0 (linked_walk z l k.1 y m)

  pub linked_final : (x : ℕ) (l : List ℕ) → Linked g x l → (y : ℕ) → Mem y (x ∷ l) → Walk g y (final x l)
  unfolding final
  linked_final x [] k y (inl e) = rw e stay
  linked_final x [] k y (inr m) = absurd m
  linked_final x (z ∷ l) k y (inl e) = rw e (step k.0 (linked_final z l k.1 z (inl refl)))
  linked_final x (z ∷ l) k y (inr m) = linked_final z l k.1 y m

  linked_right : (x : ℕ) (s t : List ℕ) → Linked g x (s ++ t) → Chain g t
  linked_right x [] [] k = tt
  linked_right x [] (y ∷ t) k = k.1
  linked_right x (y ∷ s) t k = linked_right y s t k.1

  pub chain_right : (s t : List ℕ) → Chain g (s ++ t) → Chain g t
  chain_right [] t k = k
  chain_right (x ∷ s) t k = linked_right x s t k

  pub chain_walk : (s y : ℕ) (l : List ℕ) → Begins s l → Chain g l → Mem y l → Walk g s y
  chain_walk s y [] e k m = elim e [ ]
  chain_walk s y (x ∷ l) e k m = rw (sym e) (linked_walk x l k y m)

  pub closed_far : (y : ℕ) (l : List ℕ) → Chain g l → Closes g l → Mem y l → Far g y y
  closed_far y [] k e m = elim e [ ]
  closed_far y (x ∷ l) k e m = walk_far (linked_final x l k y m) (far_join (edge_far e) (linked_walk x l k y m))

  pub lasso_marked_loop : (stem loop : List ℕ) → Lasso g stem loop → MarkedLoop g
  lasso_marked_loop stem loop l =
      record {
        mark = l.mark;
        accepts = l.accepts;
        reached = chain_walk 0 l.mark (stem ++ loop) l.starts l.steps (mem_right l.mark stem loop l.in_loop);
        loops = closed_far l.mark loop (chain_right stem loop l.steps) l.closes l.in_loop;
      }

  pub lasso_inside : Sound g → (stem loop : List ℕ) → Lasso g stem loop → (s : ℕ) → Mem s (stem ++ loop) → s < g.size
  lasso_inside sound stem loop l s m = walk_inside sound sound.first (chain_walk 0 s (stem ++ loop) l.starts l.steps m)

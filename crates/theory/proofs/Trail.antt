-- Laws of trails: one walks from the bottom of the stack to any of it, and from any of it to the top; so a stack from a state holds only states.
use Rattle.std.proofs.Common.{ℕ, ◌<◌, sym, List, [], ◌∷◌, inl, inr}
use Rattle.graphs.specs.Lists.{Mem}
use Rattle.graphs.specs.Graph.{Graph, Walk, stay, Sound}
use Rattle.graphs.proofs.Walk.{walk_end, walk_inside}
use Rattle.theory.specs.Stacks.{Trail, Stacked}

module _ (g : Graph) where
  pub trail_bottom : (b x : ℕ) (l : List ℕ) → Trail g b x l → Mem b (x ∷ l)
  trail_bottom b x [] t = inl (sym t)
  trail_bottom b x (y ∷ l) t = inr (trail_bottom b y l t.1)

  pub trail_from : (b x : ℕ) (l : List ℕ) → Trail g b x l → (y : ℕ) → Mem y (x ∷ l) → Walk g y x
  trail_from b x [] t y (inl e) = rw e stay
  trail_from b x [] t y (inr m) = absurd m
  trail_from b x (z ∷ l) t y (inl e) = rw e stay
  trail_from b x (z ∷ l) t y (inr m) = walk_end (trail_from b z l t.1 y m) t.0

  pub trail_walk : (b x : ℕ) (l : List ℕ) → Trail g b x l → Walk g b x
  trail_walk b x l t = trail_from b x l t b (trail_bottom b x l t)

  pub trail_to : (b x : ℕ) (l : List ℕ) → Trail g b x l → (y : ℕ) → Mem y (x ∷ l) → Walk g b y
  trail_to b x [] t y (inl e) = rw (e, t) stay
  trail_to b x [] t y (inr m) = absurd m
  trail_to b x (z ∷ l) t y (inl e) = rw e (trail_walk b x (z ∷ l) t)
  trail_to b x (z ∷ l) t y (inr m) = trail_to b z l t.1 y m

  pub trail_inside : (b x : ℕ) (l : List ℕ) → Sound g → b < g.size → Trail g b x l → (y : ℕ) → Mem y (x ∷ l) → y < g.size
  trail_inside b x l sound h t y m = walk_inside sound h (trail_to b x l t y m)

  pub stacked_inside : (b : ℕ) (l : List ℕ) → Sound g → b < g.size → Stacked g b l → (y : ℕ) → Mem y l → y < g.size
  stacked_inside b [] sound h t y m = absurd m
  stacked_inside b (x ∷ l) sound h t y m = trail_inside b x l sound h t y m

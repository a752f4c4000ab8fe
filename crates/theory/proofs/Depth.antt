-- A worker's stacks and its set R hold only states, and its seed is one; and as nothing stands twice in a stack, no stack is deeper than there are states.
use Rattle.std.proofs.Common.{ℕ, ◌<◌, ◌≤◌, ◌≡◌, refl, sym, Bool, true, ◌⊎◌, inl, inr, length}
use Rattle.graphs.specs.Lists.{Mem, Once}
use Rattle.graphs.specs.Graph.{Graph, Walk, stay, Sound}
use Rattle.graphs.proofs.Tests.{clash}
use Rattle.graphs.proofs.Walk.{walk_end, walk_inside}
use Rattle.graphs.proofs.Once.{once_bound}
use Rattle.moves.specs.declared.Place.{Place}
use Rattle.moves.specs.declared.Place.TheVariants.{Fresh, Outer, Inner, Waiting, Done}
use Rattle.moves.specs.Machine.{Worker}
use Rattle.theory.specs.Stacks.{Shallow}
use Rattle.theory.specs.Invariant.{Within, here, onward, Calm, Hunt, Phase, Local, SeedAt}
use Rattle.theory.proofs.Trail.{stacked_inside}

pub within_walk : {g : Graph} {set : ℕ → Bool} {s t : ℕ} → Within g set s t → Walk g s t
within_walk here = stay
within_walk (onward v e m) = walk_end (within_walk v) e

module _ {g : Graph} {blue : ℕ → Bool} {dead : ℕ → Type 0} {p : ℕ} {w : Worker} (l : Local g blue dead p w) where
  -- a worker without a seed has an empty inner stack and an empty R
  pub calm_or_hunt : Calm w ⊎ ((z : ℕ) × Hunt g blue dead p w z)
  calm_or_hunt = go w.place l.phase
    where
      go : (q : Place) → Phase g blue dead p w q → Calm w ⊎ ((z : ℕ) × Hunt g blue dead p w z)
      go Fresh f = inl f.1
      go Outer f = inl f.calm
      go (Inner z) f = inr (z, f.0)
      go (Waiting z) f = inr (z, f.0)
      go Done f = inl f.1

  pub inner_once : Once w.inner
  inner_once = go w.place l.phase
    where
      go : (q : Place) → Phase g blue dead p w q → Once w.inner
      go Fresh f = rw f.1.bare tt
      go Outer f = rw f.calm.bare tt
      go (Inner z) f = f.1.once
      go (Waiting z) f = rw f.1 tt
      go Done f = rw f.1.bare tt

module _ {g : Graph} {blue : ℕ → Bool} {dead : ℕ → Type 0} {p : ℕ} {w : Worker} (sound : Sound g) (l : Local g blue dead p w) where
  pub outer_inside : (x : ℕ) → Mem x w.outer → x < g.size
  outer_inside = stacked_inside g 0 w.outer sound sound.first l.stacks.trail

  pub seed_inside : {z : ℕ} → Hunt g blue dead p w z → z < g.size
  seed_inside {z} h = outer_inside z (rw h.top (inl refl))

  pub seed_below : (z : ℕ) → SeedAt w.place z → z < g.size
  seed_below z = go w.place l.phase
    where
      go : (q : Place) → Phase g blue dead p w q → SeedAt q z → z < g.size
      go Fresh f s = absurd s
      go Outer f s = absurd s
      go (Inner y) f s = rw (sym s) (seed_inside f.0)
      go (Waiting y) f s = rw (sym s) (seed_inside f.0)
      go Done f s = absurd s

  pub R_inside : (x : ℕ) → w.R x ≡ true → x < g.size
  R_inside x e = go (calm_or_hunt l)
    where
      go : Calm w ⊎ ((z : ℕ) × Hunt g blue dead p w z) → x < g.size
      go (inl c) = absurd (clash e (c.clear x))
      go (inr h) = walk_inside sound (seed_inside h.1) (within_walk (h.1.way x e))

  pub inner_inside : (x : ℕ) → Mem x w.inner → x < g.size
  inner_inside x m = go (calm_or_hunt l)
    where
      go : Calm w ⊎ ((z : ℕ) × Hunt g blue dead p w z) → x < g.size
      go (inl c) = absurd (rw c.bare at m)
      go (inr h) = R_inside x (h.1.held x m)

  pub outer_depth : length w.outer ≤ g.size
  outer_depth = once_bound g.size w.outer l.stacks.once outer_inside

  pub inner_depth : length w.inner ≤ g.size
  inner_depth = once_bound g.size w.inner (inner_once l) inner_inside

  pub local_shallow : Shallow g.size w.outer w.inner
  local_shallow = record { outer_deep = outer_depth; inner_deep = inner_depth; outer_below = outer_inside; inner_below = inner_inside }

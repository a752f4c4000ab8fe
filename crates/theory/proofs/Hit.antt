-- What a worker's stacks hold when it takes a cyan successor in the inner search is a lasso in which no state stands twice.
use Rattle.std.proofs.Common.{ℕ, ◌≡◌, subst, Bool, true, List, ◌∷◌, ◌++◌, ◌≢◌, drop}
use Rattle.graphs.specs.Lists.{Mem, Once}
use Rattle.graphs.specs.Graph.{Graph, Sound}
use Rattle.graphs.specs.Lasso.{Lasso}
use Rattle.graphs.proofs.Tests.{clash}
use Rattle.graphs.proofs.Member.{drop_mem}
use Rattle.moves.specs.declared.Place.TheVariants.{Inner}
use Rattle.moves.specs.Machine.{Worker}
use Rattle.moves.specs.Run.{stem_of, loop_of}
use Rattle.theory.specs.Stacks.{Trail, Stacked}
use Rattle.theory.specs.Invariant.{Local, Hunt, Deep}
use Rattle.theory.proofs.Phase.{at, deep_trail}
use Rattle.theory.proofs.Lasso.{two_stacks, two_stacks_once}

module _ {g : Graph} {blue : ℕ → Bool} {dead : ℕ → Type 0} {p : ℕ} {w : Worker} {z s : ℕ} {u : List ℕ}
    (l : Local g blue dead p w) (ep : w.place ≡ Inner z) (ei : w.inner ≡ s ∷ u) where
  hunt : Hunt g blue dead p w z
  hunt = (at l ep).0

  deep : Deep g w z
  deep = (at l ep).1

  inner : Trail g z s u
  inner = deep_trail deep ei

  pub hit_lasso : Sound g → {c : ℕ} {k : List ℕ} → drop (w.taken s) (g.order p s) ≡ c ∷ k → w.cyan c ≡ true
      → Lasso g (stem_of w c) (loop_of w c)
  hit_lasso sound {c} {k} er cyan =
      let outer = subst (Stacked g 0) hunt.top l.stacks.trail in
      let on = subst (Mem c) hunt.top (l.stacks.on c cyan) in
      let edge = sound.seen p s c (drop_mem (w.taken s) (g.order p s) c k er) in
      rw (ei, hunt.top) (two_stacks g z s c hunt.under u outer inner on edge hunt.accepts)

  -- above the seed the inner stack is not cyan, and the outer one is
  apart : (x : ℕ) → Mem x (s ∷ u) → x ≢ z → Mem x (z ∷ hunt.under) → ⊥
  apart x m ne n = clash (l.stacks.is x (rw hunt.top n)) (hunt.off x (hunt.held x (rw ei m)) ne)

  pub hit_once : (c : ℕ) → Once (stem_of w c ++ loop_of w c)
  hit_once c =
      let outer_once = subst Once hunt.top l.stacks.once in
      rw (ei, hunt.top) (two_stacks_once g z s c hunt.under u outer_once (subst Once ei deep.once) inner apart)

-- The workers never all stand and wait: some worker can make a move that changes something, or all are done. If none could, each waiting worker's
-- seed would lead by a step or more to the seed of a waiting worker, and after more such steps than there are workers some seed would come up
-- twice and lie on a loop, which the seed of a waiting worker does not.
use Rattle.std.proofs.Common.{ℕ, zero, suc, ◌+◌, ◌<◌, ◌≡◌, refl, subst, sym, ◌∙◌, Bool, true, false, not, ◌&&◌, ◌||◌, List, [], ◌∷◌, ◌⊎◌, inl, inr, ◌≢◌}
use Rattle.std.proofs.Common.{⊎_elim, arith, eqb, length, eq-eqb}
use mathlib.Core.Logic.{⊎_map}
use borrow.Author.Tests.{not-true, not-false}
use Rattle.graphs.specs.Lists.{Mem, Once, elem}
use Rattle.graphs.specs.Graph.{Graph, Walk, Far, Sound}
use Rattle.graphs.proofs.Tests.{clash, either, below?, or_left, or_right, and_cases}
use Rattle.graphs.proofs.Every.{find, every_fails}
use Rattle.graphs.proofs.Member.{elem_mem, elem_not, mem_to, mem_nil}
use Rattle.graphs.proofs.Once.{once_bound}
use Rattle.graphs.proofs.Walk.{walk_far, far_join, far_walk, edge_far}
use Rattle.moves.specs.declared.Place.TheVariants.{Fresh, Waiting, Done}
use Rattle.moves.specs.Machine.{Machine}
use Rattle.moves.specs.Moves.{turn, others_red}
use Rattle.moves.specs.Tally.{changes}
use Rattle.theory.specs.Stacks.{Stacked}
use Rattle.theory.specs.Invariant.{Within, here, onward, Hunt, Dead, SeedAt, SomeCyan, SomeSeed, Invariant}
use Rattle.theory.specs.Turns.{CanMove}
use Rattle.theory.proofs.Rules.{obeys}
use Rattle.theory.proofs.Idle.{Waits, Idle, still}
use Rattle.theory.proofs.Phase.{at}
use Rattle.theory.proofs.Trail.{trail_from}
use Rattle.theory.proofs.Depth.{within_walk}
use Rattle.theory.proofs.Whole.{waiting_hunt, seed_on_no_loop}

module _ {g : Graph} (sound : Sound g) {P : ℕ} {m : Machine} (v : Invariant g P m) where
  -- a worker that waits has moved
  waits_below : {p : ℕ} → Waits g m p → p < P
  waits_below {p} w = ⊎_elim (λ h. h) (λ h. absurd (fresh (sym w.waits ∙ v.spare p h))) (below? p P)
    where
      fresh : Waiting w.seed ≡ Fresh → ⊥
      fresh e = clash {b = true} refl (cc)

  module _ (stuck : (q : ℕ) → q < P → Idle g m q) where
    standing : (q : ℕ) → Idle g m q ⊎ ((m.worker q).place ≡ Fresh)
    standing q = ⊎_map (stuck q) (v.spare q) (below? q P)

    -- a worker with a stack waits, and every state of the stack leads to its seed
    holder : (q x : ℕ) → Mem x (m.worker q).outer → (w : Waits g m q) × Walk g x w.seed
    holder q x n = go (standing q)
      where
        up : (w : Waits g m q) → Walk g x w.seed
        up w =
            let h = waiting_hunt sound v w.waits in
            trail_from g 0 w.seed h.under (subst (Stacked g 0) h.top (v.local q).stacks.trail) x (mem_to x h.top n)

        go : Idle g m q ⊎ ((m.worker q).place ≡ Fresh) → (w : Waits g m q) × Walk g x w.seed
        go (inl (inl w)) = (w, up w)
        go (inl (inr e)) = absurd (mem_nil x (at (v.local q) e).0 n)
        go (inr e) = absurd (mem_nil x (at (v.local q) e).0 n)

    -- the worker whose seed is s waits
    seeded : (q s : ℕ) → SeedAt (m.worker q).place s → (w : Waits g m q) × (w.seed ≡ s)
    seeded q s k = go (standing q)
      where
        go : Idle g m q ⊎ ((m.worker q).place ≡ Fresh) → (w : Waits g m q) × (w.seed ≡ s)
        go (inl (inl w)) = (w, subst (λ a. SeedAt a s) w.waits k)
        go (inl (inr e)) = absurd (subst (λ a. SeedAt a s) e k)
        go (inr e) = absurd (subst (λ a. SeedAt a s) e k)

    -- a waiting worker's seed leads to a waiting worker's seed
    abbrev Next : (p : ℕ) → Waits g m p → Type 0
    Next p w = (q : ℕ) × (w' : Waits g m q) × Far g w.seed w'.seed

    leads : (p : ℕ) (w : Waits g m p) → Next p w
    unfolding others_red
    leads p w = finish (along a (hunt.way a in_R))
      where
        hunt : Hunt g m.blue (Dead m) p (m.worker p) w.seed
        hunt = waiting_hunt sound v w.waits

        wanted : (i : ℕ) × (i < g.size) × ((not ((m.worker p).R i && g.accepting i && not (eqb i w.seed)) || m.red i) ≡ false)
        wanted = every_fails g.size _ w.blocked

        a : ℕ
        a = wanted.0

        -- a is in R, accepting, not the seed and not red
        waited : Bool
        waited = (m.worker p).R a && g.accepting a && not (eqb a w.seed)

        not_red : m.red a ≡ false
        not_red = or_right (not waited) (m.red a) wanted.2

        all_three : (((m.worker p).R a && g.accepting a) ≡ true) × (not (eqb a w.seed) ≡ true)
        all_three =
            and_cases ((m.worker p).R a && g.accepting a) (not (eqb a w.seed))
            (not-false waited (or_left (not waited) (m.red a) wanted.2))

        in_R : (m.worker p).R a ≡ true
        in_R = (and_cases ((m.worker p).R a) (g.accepting a) all_three.0).0

        accepts : g.accepting a ≡ true
        accepts = (and_cases ((m.worker p).R a) (g.accepting a) all_three.0).1

        other : a ≢ w.seed
        other q = clash (eq-eqb a w.seed q) (not-true (eqb a w.seed) all_three.1)

        -- each state on the way is blue, or the first that is not is cyan for a waiting worker
        along : (t : ℕ) → Within g (m.worker p).R w.seed t → (m.blue t ≡ true) ⊎ Next p w
        along _ here = inl hunt.is_blue
        along t (onward {t = y} k e r) = go (along y k)
          where
            cyan : (m.blue t ≡ true) ⊎ SomeCyan m t → (m.blue t ≡ true) ⊎ Next p w
            cyan (inl b) = inl b
            cyan (inr c) =
                let h = holder c.0 t ((v.local c.0).stacks.on t c.1) in
                inr (c.0, h.0, walk_far (within_walk k) (far_join (edge_far e) h.1))

            go : (m.blue y ≡ true) ⊎ Next p w → (m.blue t ≡ true) ⊎ Next p w
            go (inl b) = cyan (v.blue_next y t b e)
            go (inr f) = inr f

        far : {t : ℕ} → Within g (m.worker p).R w.seed t → t ≢ w.seed → Far g w.seed t
        far here ne = absurd (ne refl)
        far (onward k e r) ne = walk_far (within_walk k) (edge_far e)

        -- a itself is blue, so it is the seed of a waiting worker
        finish : (m.blue a ≡ true) ⊎ Next p w → Next p w
        finish (inr f) = f
        finish (inl b) = go (v.blue_dead a accepts b)
          where
            go : Dead m a ⊎ SomeSeed m a → Next p w
            go (inl d) = absurd (clash d not_red)
            go (inr c) = let s = seeded c.0 a c.1 in (c.0, s.0, rw s.1 (far (hunt.way a in_R) other))

    -- so nobody waits
    chase : (k : ℕ) (l : List ℕ) → length l + k ≡ suc P → Once l → ((r : ℕ) → Mem r l → r < P) → (p : ℕ) (w : Waits g m p)
        → ((r z : ℕ) → Mem r l → (m.worker r).place ≡ Waiting z → Far g z w.seed) → ⊥
    chase zero l e once below p w far = omega (arith, once_bound P l once below)
    chase (suc k) l e once below p w far = go (leads p w) (either (elem p l)) (λ o b q w' f. chase k (p ∷ l) (omega arith) o b q w' f)
      where
        seed_is : (z : ℕ) → (m.worker p).place ≡ Waiting z → z ≡ w.seed
        seed_is z q = let e : Waiting z ≡ Waiting w.seed = sym q ∙ w.waits in cc

        inside : (r : ℕ) → Mem r (p ∷ l) → r < P
        inside r (inl q) = rw q (waits_below w)
        inside r (inr h) = below r h

        onward_far : {q : ℕ} (w' : Waits g m q) → Far g w.seed w'.seed → (r z : ℕ) → Mem r (p ∷ l) → (m.worker r).place ≡ Waiting z
            → Far g z w'.seed
        onward_far w' f r z (inl q) at = rw (seed_is z (subst (λ i. (m.worker i).place ≡ Waiting z) q at)) f
        onward_far w' f r z (inr h) at = far_join (far r z h at) (far_walk f)

        go : Next p w → (elem p l ≡ true) ⊎ (elem p l ≡ false)
            → (Once (p ∷ l) → ((r : ℕ) → Mem r (p ∷ l) → r < P) → (q : ℕ) (w' : Waits g m q)
            → ((r z : ℕ) → Mem r (p ∷ l) → (m.worker r).place ≡ Waiting z → Far g z w'.seed) → ⊥)
            → ⊥
        go n (inl on) rest = seed_on_no_loop sound v w.waits (far p w.seed (elem_mem p l on) w.waits)
        go (q, w', f) (inr off) rest = rest (elem_not p l off, once) inside q w' (onward_far w' f)

    nobody_waits : (p : ℕ) → Waits g m p → ⊥
    nobody_waits p w = chase (suc P) [] (omega arith) tt (λ r h. absurd h) p w (λ r z h at. absurd h)

  pub progress : ((p : ℕ) × (p < P) × CanMove g m p) ⊎ ((q : ℕ) → q < P → (m.worker q).place ≡ Done)
  progress = go (find P (λ p. changes (turn g p m).move))
    where
      go : ((p : ℕ) × (p < P) × CanMove g m p) ⊎ ((p : ℕ) → p < P → changes (turn g p m).move ≡ false)
          → ((p : ℕ) × (p < P) × CanMove g m p) ⊎ ((q : ℕ) → q < P → (m.worker q).place ≡ Done)
      go (inl p) = inl p
      go (inr all_still) = inr (λ q h. done q (stuck q h))
        where
          stuck : (q : ℕ) → q < P → Idle g m q
          stuck q h = (still (turn g q m) (obeys g q m (v.local q)) (all_still q h)).1

          done : (q : ℕ) → Idle g m q → (m.worker q).place ≡ Done
          done q (inl w) = absurd (nobody_waits stuck q w)
          done q (inr e) = e

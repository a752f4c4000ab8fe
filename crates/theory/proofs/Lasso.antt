-- The lasso that two stacks give, whatever search they serve: the outer one is a path from the initial state to the seed, the inner one a path
-- from the seed, and the inner top leads to c on the outer one. Read from their bottoms they are one path, which c cuts into stem and loop.
use Rattle.std.proofs.Common.{ℕ, ◌≡◌, refl, sym, ap, subst, ◌∙◌, Bool, true, false, cond, List, [], ◌∷◌, ◌++◌, reverse, append_assoc, ◌⊎◌, inl, inr, ◌≢◌, eqb}
use Rattle.std.proofs.Common.{drop, eqb-true, eq-eqb}
use mathlib.Core.List.{reverse_aux, reverse_aux-eq, reverse-append}
use Rattle.graphs.specs.Lists.{Mem, Once}
use Rattle.graphs.specs.Graph.{Graph, Edge}
use Rattle.graphs.specs.Lasso.{Linked, final, Lasso}
use Rattle.graphs.proofs.Tests.{either, clash}
use Rattle.graphs.proofs.Member.{mem_left, mem_reverse, reverse_mem}
use Rattle.graphs.proofs.Once.{once_join, once_reverse}
use Rattle.moves.specs.Run.{below, down_to}
use Rattle.theory.specs.Stacks.{Trail}

-- a stack is cut below c; what is above the cut keeps the top, and ends with c
pub down_to_below : (c : ℕ) (l : List ℕ) → down_to c l ++ below c l ≡ l
unfolding down_to below
down_to_below c [] = refl
down_to_below c (x ∷ l) = go (eqb x c) (down_to_below c l)
  where
    go : (b : Bool) → down_to c l ++ below c l ≡ l → cond b (x ∷ []) (x ∷ down_to c l) ++ cond b l (below c l) ≡ x ∷ l
    go true e = refl
    go false e = ap (λ k. x ∷ k) e

pub down_to_top : (c x : ℕ) (l : List ℕ) → (k : List ℕ) × (down_to c (x ∷ l) ≡ x ∷ k)
unfolding down_to
down_to_top c x l = go (eqb x c)
  where
    go : (b : Bool) → (k : List ℕ) × (cond b (x ∷ []) (x ∷ down_to c l) ≡ x ∷ k)
    go true = ([], refl)
    go false = (down_to c l, refl)

pub down_to_last : (c : ℕ) (l : List ℕ) → Mem c l → (k : List ℕ) × (down_to c l ≡ k ++ (c ∷ []))
unfolding down_to
down_to_last c [] m = elim m [ ]
down_to_last c (x ∷ l) m = go (either (eqb x c)) m (down_to_last c l)
  where
    go : (eqb x c ≡ true) ⊎ (eqb x c ≡ false) → Mem c (x ∷ l) → (Mem c l → (k : List ℕ) × (down_to c l ≡ k ++ (c ∷ [])))
        → (k : List ℕ) × (down_to c (x ∷ l) ≡ k ++ (c ∷ []))
    go (inl e) m rest = ([], rw (e, eqb-true x c e))
    go (inr e) (inl q) rest = absurd (clash (eq-eqb x c (sym q)) e)
    go (inr e) (inr m) rest = (x ∷ (rest m).0, rw e (ap (λ k. x ∷ k) (rest m).1))

pub down_to_first : (c : ℕ) (l : List ℕ) → Mem c l → (k : List ℕ) × (reverse (down_to c l) ≡ c ∷ k)
down_to_first c l m = let d = down_to_last c l m in (reverse d.0, rw d.1 (reverse-append d.0 (c ∷ [])))

-- stem and loop together are the outer stack from its bottom up, and then k
pub cut_reverse : (c : ℕ) (l k : List ℕ) → reverse (below c l) ++ (reverse (down_to c l) ++ k) ≡ reverse_aux l k
cut_reverse c l k =
    rw (← append_assoc (reverse (below c l)) (reverse (down_to c l)) k, ← reverse-append (down_to c l) (below c l), down_to_below c l)
    (sym (reverse_aux-eq l k))

-- the last of a list turned round is the last of what it is put before
final_reverse : (x : ℕ) (l m : List ℕ) (b : ℕ) (k : List ℕ) → reverse_aux l (x ∷ m) ≡ b ∷ k → final b k ≡ final x m
unfolding final
final_reverse x [] m b k e = cc
final_reverse x (y ∷ l) m b k e = final_reverse y l (x ∷ m) b k e

module _ (g : Graph) where
  -- a trail, read from its bottom b, and what goes on from its top
  trail_reverse : (b x : ℕ) (l m : List ℕ) → Trail g b x l → Linked g x m
      → (k : List ℕ) × (reverse_aux l (x ∷ m) ≡ b ∷ k) × Linked g b k
  trail_reverse b x [] m t n = (m, ap (λ i. i ∷ m) t, subst (λ i. Linked g i m) t n)
  trail_reverse b x (y ∷ l) m t n = trail_reverse b y l (x ∷ m) t.1 (t.0, n)

  pub two_stacks : (z s c : ℕ) (u l : List ℕ)
      → Trail g 0 z u → Trail g z s l → Mem c (z ∷ u) → Edge g s c → g.accepting z ≡ true
      → Lasso g (reverse (below c (z ∷ u))) (reverse (down_to c (z ∷ u)) ++ drop 1 (reverse (s ∷ l)))
  unfolding final
  two_stacks z s c u l outer inner on edge accepts =
      let i = trail_reverse z s l [] inner tt in
      let k = i.0 in
      let o = trail_reverse 0 z u k outer i.2 in
      let top = down_to_top c z u in
      let first = down_to_first c (z ∷ u) on in
      let turned = ap (λ a. reverse_aux a k) (sym top.1) ∙ reverse_aux-eq (down_to c (z ∷ u)) k ∙ ap (λ a. a ++ k) first.1 in
      rw i.1
      record {
        starts = rw (cut_reverse c (z ∷ u) k, o.1) refl;
        steps = rw (cut_reverse c (z ∷ u) k, o.1) o.2;
        closes = rw (first.1, final_reverse z top.0 k c (first.0 ++ k) turned, final_reverse s l [] z k i.1) edge;
        mark = z;
        in_loop = mem_left z (reverse (down_to c (z ∷ u))) k (mem_reverse z (down_to c (z ∷ u)) (rw top.1 (inl refl)));
        accepts = accepts;
      }

  -- no state stands twice in a lasso
  pub two_stacks_once : (z s c : ℕ) (u l : List ℕ)
      → Once (z ∷ u) → Once (s ∷ l) → Trail g z s l → ((x : ℕ) → Mem x (s ∷ l) → x ≢ z → Mem x (z ∷ u) → ⊥)
      → Once (reverse (below c (z ∷ u)) ++ (reverse (down_to c (z ∷ u)) ++ drop 1 (reverse (s ∷ l))))
  two_stacks_once z s c u l outer_once inner_once inner apart =
      rw (i.1, cut_reverse c (z ∷ u) k, reverse_aux-eq (z ∷ u) k)
      (once_join (reverse (z ∷ u)) k (once_reverse (z ∷ u) outer_once) once.1 above)
    where
      i : (k : List ℕ) × (reverse (s ∷ l) ≡ z ∷ k) × Linked g z k
      i = trail_reverse z s l [] inner tt

      k : List ℕ
      k = i.0

      once : Once (z ∷ k)
      once = rw i.1 at (once_reverse (s ∷ l) inner_once)

      above : (x : ℕ) → Mem x (reverse (z ∷ u)) → Mem x k → ⊥
      above x m n =
          apart x (reverse_mem x (s ∷ l) (rw i.1 (inr n))) (λ e. once.0 (subst (λ a. Mem a k) e n)) (reverse_mem x (z ∷ u) m)

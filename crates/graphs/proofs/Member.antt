-- Laws of membership: in joined lists, in a list turned round, in the part of a list that was taken, and in a list known by an equation.
use Rattle.std.proofs.Common.{ℕ, zero, suc, ◌<◌, ◌≡◌, refl, sym, ap, subst, true, false, List, [], ◌∷◌, ◌++◌, reverse, ◌⊎◌, inl, inr, ◌≢◌, eqb, length}
use Rattle.std.proofs.Common.{get_or, take, drop, take-append-drop, arith, eqb-true, eq-eqb}
use mathlib.Core.List.{reverse-cons, reverse-reverse}
use Rattle.graphs.specs.Lists.{Mem, elem}
use Rattle.graphs.proofs.Tests.{clash, not_both, or_cases, or_inl, or_inr}

pub mem_left : (x : ℕ) (s t : List ℕ) → Mem x s → Mem x (s ++ t)
mem_left x [] t absent = elim absent [ ]
mem_left x (y ∷ s) t (inl e) = inl e
mem_left x (y ∷ s) t (inr h) = inr (mem_left x s t h)

pub mem_right : (x : ℕ) (s t : List ℕ) → Mem x t → Mem x (s ++ t)
mem_right x [] t h = h
mem_right x (y ∷ s) t h = inr (mem_right x s t h)

pub mem_cases : (x : ℕ) (s t : List ℕ) → Mem x (s ++ t) → Mem x s ⊎ Mem x t
mem_cases x [] t h = inr h
mem_cases x (y ∷ s) t (inl e) = inl (inl e)
mem_cases x (y ∷ s) t (inr h) = go (mem_cases x s t h)
  where
    go : Mem x s ⊎ Mem x t → Mem x (y ∷ s) ⊎ Mem x t
    go (inl m) = inl (inr m)
    go (inr m) = inr m

pub mem_reverse : (x : ℕ) (l : List ℕ) → Mem x l → Mem x (reverse l)
mem_reverse x [] absent = elim absent [ ]
mem_reverse x (y ∷ l) (inl e) = rw (reverse-cons y l) (mem_right x (reverse l) (y ∷ []) (inl e))
mem_reverse x (y ∷ l) (inr m) = rw (reverse-cons y l) (mem_left x (reverse l) (y ∷ []) (mem_reverse x l m))

pub reverse_mem : (x : ℕ) (l : List ℕ) → Mem x (reverse l) → Mem x l
reverse_mem x l m = rw (reverse-reverse l) at (mem_reverse x (reverse l) m)

pub mem_take : (x k : ℕ) (l : List ℕ) → Mem x (take k l) → Mem x l
mem_take x k l h = rw (take-append-drop k l) at (mem_left x (take k l) (drop k l) h)

pub mem_drop : (x k : ℕ) (l : List ℕ) → Mem x (drop k l) → Mem x l
mem_drop x k l h = rw (take-append-drop k l) at (mem_right x (take k l) (drop k l) h)

-- every member stands at a place below the length
pub mem_place : (x : ℕ) (l : List ℕ) → Mem x l → (i : ℕ) × (i < length l) × (get_or l i 0 ≡ x)
mem_place x [] absent = elim absent [ ]
mem_place x (y ∷ l) (inl e) = (0, omega arith, sym e)
mem_place x (y ∷ l) (inr h) = let p = mem_place x l h in (suc p.0, omega (arith, p.1), p.2)

-- k successors were taken, and y is next
pub all_taken : (k : ℕ) (l : List ℕ) → drop k l ≡ [] → take k l ≡ l
all_taken zero l e = sym e
all_taken (suc k) [] e = refl
all_taken (suc k) (x ∷ l) e = ap (λ r. x ∷ r) (all_taken k l e)

pub drop_mem : (k : ℕ) (l : List ℕ) (y : ℕ) (r : List ℕ) → drop k l ≡ y ∷ r → Mem y l
drop_mem k l y r e = mem_drop y k l (rw e (inl refl))

pub take_one : (k : ℕ) (l : List ℕ) (y : ℕ) (r : List ℕ) → drop k l ≡ y ∷ r
    → (x : ℕ) → Mem x (take (suc k) l) → Mem x (take k l) ⊎ (x ≡ y)
take_one k [] y r e x h = absurd h
take_one zero (z ∷ l) y r e x (inl p) = inr (cc)
take_one zero (z ∷ l) y r e x (inr h) = absurd h
take_one (suc k) (z ∷ l) y r e x (inl p) = inl (inl p)
take_one (suc k) (z ∷ l) y r e x (inr h) = go (take_one k l y r e x h)
  where
    go : Mem x (take k l) ⊎ (x ≡ y) → Mem x (z ∷ take k l) ⊎ (x ≡ y)
    go (inl m) = inl (inr m)
    go (inr q) = inr q

-- membership in a list that is known by an equation
pub mem_to : {l k : List ℕ} (x : ℕ) → l ≡ k → Mem x l → Mem x k
mem_to x e h = subst (Mem x) e h

pub mem_of : {l k : List ℕ} (x : ℕ) → l ≡ k → Mem x k → Mem x l
mem_of x e h = subst (Mem x) (sym e) h

pub mem_top : {l k : List ℕ} {x : ℕ} → l ≡ x ∷ k → Mem x l
mem_top {x} e = mem_of x e (inl refl)

pub mem_under : {l k : List ℕ} {x : ℕ} (y : ℕ) → l ≡ x ∷ k → Mem y k → Mem y l
mem_under y e h = mem_of y e (inr h)

pub mem_rest : {l k : List ℕ} {s : ℕ} (x : ℕ) → l ≡ s ∷ k → x ≢ s → Mem x l → Mem x k
mem_rest {k} {s} x e ne h = go (mem_to x e h)
  where
    go : Mem x (s ∷ k) → Mem x k
    go (inl q) = absurd (ne q)
    go (inr m) = m

pub mem_nil : {l : List ℕ} (x : ℕ) → l ≡ [] → Mem x l → ⊥
mem_nil x e h = mem_to x e h

-- the test of membership
pub elem_mem : (x : ℕ) (l : List ℕ) → elem x l ≡ true → Mem x l
unfolding elem
elem_mem x [] e = absurd (clash e refl)
elem_mem x (y ∷ l) e = go (elem_mem x l) (or_cases (eqb x y) (elem x l) e)
  where
    go : (elem x l ≡ true → Mem x l) → (eqb x y ≡ true) ⊎ (elem x l ≡ true) → Mem x (y ∷ l)
    go rest (inl p) = inl (eqb-true x y p)
    go rest (inr p) = inr (rest p)

pub mem_elem : (x : ℕ) (l : List ℕ) → Mem x l → elem x l ≡ true
unfolding elem
mem_elem x [] absent = elim absent [ ]
mem_elem x (y ∷ l) (inl p) = or_inl (eqb x y) (elem x l) (eq-eqb x y p)
mem_elem x (y ∷ l) (inr h) = or_inr (eqb x y) (elem x l) (mem_elem x l h)

pub not_elem : (x : ℕ) (l : List ℕ) → (Mem x l → ⊥) → elem x l ≡ false
not_elem x l h = not_both (λ e. h (elem_mem x l e))

pub elem_not : (x : ℕ) (l : List ℕ) → elem x l ≡ false → Mem x l → ⊥
elem_not x l e h = clash (mem_elem x l h) e

-- Laws of lists in which nothing stands twice: the test `repeats`, joined lists, a list turned round, and the pigeonhole lemma.
use Rattle.std.proofs.Common.{ℕ, ◌≤◌, ◌<◌, zero-le, suc-le-suc, ◌≡◌, refl, subst, Bool, true, false, ◌||◌, cond, List, [], ◌∷◌, ◌++◌, reverse, ◌⊎◌, inl, inr}
use Rattle.std.proofs.Common.{length, arith, le_refl, le_trans, eqb, eq-eqb}
use mathlib.Core.List.{reverse-cons}
use Rattle.graphs.specs.Lists.{Mem, Once, elem, repeats, sum}
use Rattle.graphs.proofs.Tests.{or_left, or_right}
use Rattle.graphs.proofs.Sum.{sum_lt, sum_all}
use Rattle.graphs.proofs.Member.{not_elem, elem_not, mem_cases, reverse_mem}

pub once_repeats : (l : List ℕ) → Once l → repeats l ≡ false
unfolding repeats
once_repeats [] o = refl
once_repeats (x ∷ l) o = rw (not_elem x l o.0) (once_repeats l o.1)

pub repeats_once : (l : List ℕ) → repeats l ≡ false → Once l
unfolding repeats
repeats_once [] e = tt
repeats_once (x ∷ l) e = (elem_not x l (or_left (elem x l) (repeats l) e), repeats_once l (or_right (elem x l) (repeats l) e))

-- two lists without repeats that share nothing, joined
pub once_join : (s t : List ℕ) → Once s → Once t → ((x : ℕ) → Mem x s → Mem x t → ⊥) → Once (s ++ t)
once_join [] t o p apart = p
once_join (x ∷ s) t o p apart = (λ m. go (mem_cases x s t m), once_join s t o.1 p (λ y a b. apart y (inr a) b))
  where
    go : Mem x s ⊎ Mem x t → ⊥
    go (inl m) = o.0 m
    go (inr m) = apart x (inl refl) m

pub once_reverse : (l : List ℕ) → Once l → Once (reverse l)
once_reverse [] o = tt
once_reverse (x ∷ l) o = rw (reverse-cons x l) (once_join (reverse l) (x ∷ []) (once_reverse l o.1) (λ m. m, tt) apart)
  where
    apart : (y : ℕ) → Mem y (reverse l) → Mem y (x ∷ []) → ⊥
    apart y m (inl e) = o.0 (subst (λ i. Mem i l) e (reverse_mem y l m))
    apart y m (inr k) = k

-- 1 for a member, 0 for any other number: a list without repeats counts each of its members once
here : List ℕ → ℕ → ℕ
here l i = cond (elem i l) 1 0

here_counts : (n : ℕ) (l : List ℕ) → Once l → ((y : ℕ) → Mem y l → y < n) → length l ≤ sum n (here l)
unfolding here elem
here_counts n [] o below = zero-le
here_counts n (x ∷ l) o below =
    le_trans (suc-le-suc (here_counts n l o.1 (λ y m. below y (inr m)))) (sum_lt n (here l) (here (x ∷ l)) grows x (below x (inl refl)) counted)
  where
    grows : (i : ℕ) → i < n → here l i ≤ here (x ∷ l) i
    grows i k = go (eqb i x) (elem i l)
      where
        go : (a b : Bool) → cond b 1 0 ≤ cond (a || b) 1 0
        go true true = omega arith
        go true false = omega arith
        go false b = le_refl _

    counted : here l x < here (x ∷ l) x
    counted = rw (not_elem x l o.0, eq-eqb x x refl) (omega arith)

-- a list without repeats of numbers below n is at most n long
pub once_bound : (n : ℕ) (l : List ℕ) → Once l → ((y : ℕ) → Mem y l → y < n) → length l ≤ n
unfolding here
once_bound n l o below = omega (arith, here_counts n l o below, sum_all n (here l) 1 (λ i k. at_most i))
  where
    at_most : (i : ℕ) → here l i ≤ 1
    at_most i = go (elem i l)
      where
        go : (b : Bool) → cond b 1 0 ≤ 1
        go true = omega arith
        go false = omega arith

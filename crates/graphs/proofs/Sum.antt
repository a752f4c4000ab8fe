-- Laws of `sum` over the numbers below n: pointwise order, strictness at one place, a bound, and a sum of the same.
use Rattle.std.proofs.Common.{ℕ, zero, suc, ◌+◌, ◌*◌, ◌≤◌, ◌<◌, ◌≡◌, subst, ◌⊎◌, inl, inr, ◌≢◌, arith, suc-mul, le_of_lt}
use Rattle.graphs.specs.Lists.{sum}
use Rattle.graphs.proofs.Tests.{same?}

pub sum_le : (n : ℕ) (f h : ℕ → ℕ) → ((i : ℕ) → i < n → f i ≤ h i) → sum n f ≤ sum n h
unfolding sum
sum_le zero f h le = omega arith
sum_le (suc n) f h le = omega (arith, le n (omega arith), sum_le n f h (λ i k. le i (omega arith)))

pub sum_lt : (n : ℕ) (f h : ℕ → ℕ) → ((i : ℕ) → i < n → f i ≤ h i) → (j : ℕ) → j < n → f j < h j → sum n f < sum n h
unfolding sum
sum_lt zero f h le j k lt = absurd (omega arith)
sum_lt (suc n) f h le j k lt = go (λ b. sum_lt n f h (λ i c. le i (omega arith)) j b lt) (same? j n)
  where
    go : (j < n → sum n f < sum n h) → (j ≡ n) ⊎ (j ≢ n) → f n + sum n f < h n + sum n h
    go rest (inl e) = let l : f n < h n = subst (λ i. f i < h i) e lt in omega (arith, sum_le n f h (λ i c. le i (omega arith)))
    go rest (inr ne) = omega (arith, rest (omega arith), le n (omega arith))

pub sum_all : (n : ℕ) (f : ℕ → ℕ) (c : ℕ) → ((i : ℕ) → i < n → f i ≤ c) → sum n f ≤ n * c
unfolding sum
sum_all zero f c le = omega arith
sum_all (suc n) f c le = omega (arith, suc-mul n c, le n (omega arith), sum_all n f c (λ i k. le i (omega arith)))

-- a sum falls that falls at s and rises nowhere else
pub sum_falls : (n : ℕ) (f h : ℕ → ℕ) (s : ℕ) → s < n → f s < h s → ((t : ℕ) → t ≢ s → f t ≤ h t) → sum n f < sum n h
sum_falls n f h s inside here there = sum_lt n f h (λ t k. go t (same? t s)) s inside here
  where
    go : (t : ℕ) → (t ≡ s) ⊎ (t ≢ s) → f t ≤ h t
    go t (inl e) = rw e (le_of_lt here)
    go t (inr ne) = there t ne

pub sum_same : (n c : ℕ) → sum n (λ i. c) ≡ n * c
unfolding sum
sum_same zero c = omega arith
sum_same (suc n) c = omega (arith, suc-mul n c, sum_same n c)

-- Laws of `every`: a test of all numbers below n. A loop that counts up keeps `every i f ≡ true` and leaves at the first i that fails. Whether some
-- number below n passes a test can be found out.
use Rattle.std.proofs.Common.{ℕ, zero, suc, ◌+◌, ◌<◌, ◌≡◌, refl, ap, ◌∙◌, Bool, true, false, not, ◌⊎◌, inl, inr, ◌≢◌, arith}
use borrow.Author.Tests.{not-true, not-false}
use native.Mathlib.Numerals.{add-one}
use Rattle.graphs.specs.Lists.{every}
use Rattle.graphs.proofs.Tests.{either, same?, clash, not_both, and_cases}

pub every_at : (n : ℕ) (f : ℕ → Bool) → every n f ≡ true → (i : ℕ) → i < n → f i ≡ true
unfolding every
every_at zero f e i h = absurd (omega arith)
every_at (suc n) f e i h = go (λ k. every_at n f (and_cases (f n) (every n f) e).1 i k) (same? i n)
  where
    go : (i < n → f i ≡ true) → (i ≡ n) ⊎ (i ≢ n) → f i ≡ true
    go rest (inl q) = ap f q ∙ (and_cases (f n) (every n f) e).0
    go rest (inr ne) = rest (omega arith)

pub every_of : (n : ℕ) (f : ℕ → Bool) → ((i : ℕ) → i < n → f i ≡ true) → every n f ≡ true
unfolding every
every_of zero f h = refl
every_of (suc n) f h = rw (h n (omega arith)) (every_of n f (λ i k. h i (omega arith)))

pub every_ext : (n : ℕ) (f h : ℕ → Bool) → ((i : ℕ) → i < n → f i ≡ h i) → every n f ≡ every n h
unfolding every
every_ext zero f h e = refl
every_ext (suc n) f h e = rw (e n (omega arith), every_ext n f h (λ i k. e i (omega arith)))

pub every_more : (i : ℕ) (f : ℕ → Bool) → every i f ≡ true → f i ≡ true → every (i + 1) f ≡ true
unfolding every
every_more i f e h = rw (add-one, h) e

pub every_not : (n : ℕ) (f : ℕ → Bool) (i : ℕ) → i < n → f i ≡ false → every n f ≡ false
every_not n f i h e = not_both (λ a. clash (every_at n f a i h) e)

pub find : (n : ℕ) (f : ℕ → Bool) → ((i : ℕ) × (i < n) × (f i ≡ true)) ⊎ ((i : ℕ) → i < n → f i ≡ false)
find zero f = inr (λ i h. absurd (omega arith))
find (suc n) f = go (find n f) (either (f n))
  where
    go : ((i : ℕ) × (i < n) × (f i ≡ true)) ⊎ ((i : ℕ) → i < n → f i ≡ false) → (f n ≡ true) ⊎ (f n ≡ false)
        → ((i : ℕ) × (i < suc n) × (f i ≡ true)) ⊎ ((i : ℕ) → i < suc n → f i ≡ false)
    go (inl k) e = inl (k.0, omega (arith, k.1), k.2)
    go (inr h) (inl e) = inl (n, omega arith, e)
    go (inr h) (inr e) = inr (λ i k. last i k (same? i n))
      where
        last : (i : ℕ) → i < suc n → (i ≡ n) ⊎ (i ≢ n) → f i ≡ false
        last i k (inl q) = rw q e
        last i k (inr ne) = h i (omega arith)

pub every_fails : (n : ℕ) (f : ℕ → Bool) → every n f ≡ false → (i : ℕ) × (i < n) × (f i ≡ false)
every_fails n f e = go (find n (λ i. not (f i)))
  where
    go : ((i : ℕ) × (i < n) × (not (f i) ≡ true)) ⊎ ((i : ℕ) → i < n → not (f i) ≡ false) → (i : ℕ) × (i < n) × (f i ≡ false)
    go (inl k) = (k.0, k.1, not-true (f k.0) k.2)
    go (inr h) = absurd (clash (every_of n f (λ i k. not-false (f i) (h i k))) e)

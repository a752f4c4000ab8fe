-- Laws of `up_from`, the numbers from n on: how many there are, which one stands where, and which they are.
use Rattle.std.proofs.Common.{ℕ, zero, suc, ◌+◌, ◌<◌, ◌≤◌, ◌≡◌, refl, ap, ◌∙◌, ◌∷◌, ◌⊎◌, inl, inr, ◌≢◌, length, get_or, arith}
use Rattle.graphs.specs.Lists.{Mem}
use Rattle.graphs.proofs.Tests.{same?}
use Rattle.moves.specs.Run.{up_from}

pub up_from_long : (n k : ℕ) → length (up_from n k) ≡ k
unfolding up_from
up_from_long n zero = refl
up_from_long n (suc k) = ap suc (up_from_long (suc n) k)

pub up_from_at : (n k i : ℕ) → i < k → get_or (up_from n k) i 0 ≡ n + i
unfolding up_from
up_from_at n zero i h = absurd (omega arith)
up_from_at n (suc k) zero h = omega arith
up_from_at n (suc k) (suc i) h = up_from_at (suc n) k i (omega arith) ∙ omega arith

pub up_from_below : (n k P : ℕ) → n + k ≤ P → (p : ℕ) → Mem p (up_from n k) → p < P
unfolding up_from
up_from_below n zero P h p m = absurd m
up_from_below n (suc k) P h p (inl e) = omega arith
up_from_below n (suc k) P h p (inr m) = up_from_below (suc n) k P (omega arith) p m

pub up_from_all : (i k p : ℕ) → i ≤ p → p < i + k → Mem p (up_from i k)
unfolding up_from
up_from_all i zero p h j = absurd (omega arith)
up_from_all i (suc k) p h j = go (λ a b. up_from_all (suc i) k p a b) (same? p i)
  where
    go : (suc i ≤ p → p < suc i + k → Mem p (up_from (suc i) k)) → (p ≡ i) ⊎ (p ≢ i) → Mem p (i ∷ up_from (suc i) k)
    go rest (inl e) = inl e
    go rest (inr ne) = inr (rest (omega arith) (omega arith))

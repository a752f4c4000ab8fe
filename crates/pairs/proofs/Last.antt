-- Laws of `last_with` and `found`, the last number below n that passes a test: what it is, and that a search through the numbers that pass a wider
-- test loses nothing.
use Prim.Native.Nat.{ℕ, zero, suc, ◌<◌, ◌≤◌}
use mathlib.Core.Path.{◌≡◌, refl}
use mathlib.Core.Bool.{Bool, true, false, cond}
use mathlib.Core.Logic.{◌⊎◌, inl, inr, ◌≢◌}
use native.Mathlib.Omega.{arith}
use Rattle.graphs.specs.Lists.{any, tab}
use Rattle.graphs.proofs.Tests.{either, clash, not_both, same?}
use Rattle.graphs.proofs.Tab.{any_tab_none, any_tab_some}
use Rattle.std.proofs.Common.{Some, None}
use Rattle.pairs.specs.Pairs.{last_with, found_at, found}

module _ (f : ℕ → Bool) where
  pub last_hit : (i : ℕ) → f i ≡ true → last_with f (suc i) ≡ suc i
  unfolding last_with
  last_hit i e = rw e

  pub last_miss : (i : ℕ) → f i ≡ false → last_with f (suc i) ≡ last_with f i
  unfolding last_with
  last_miss i e = rw e

  pub last_le : (n : ℕ) → last_with f n ≤ n
  unfolding last_with
  last_le zero = omega arith
  last_le (suc n) = go (last_le n) (either (f n))
    where
      go : last_with f n ≤ n → (f n ≡ true) ⊎ (f n ≡ false) → cond (f n) (suc n) (last_with f n) ≤ suc n
      go le (inl e) = rw e (omega arith)
      go le (inr e) = rw e (omega arith)

  pub last_at : (n i : ℕ) → last_with f n ≡ suc i → (i < n) × (f i ≡ true)
  unfolding last_with
  last_at zero i q = absurd (omega arith)
  last_at (suc n) i q = go (last_at n i) (either (f n))
    where
      go : (last_with f n ≡ suc i → (i < n) × (f i ≡ true)) → (f n ≡ true) ⊎ (f n ≡ false) → (i < suc n) × (f i ≡ true)
      go rest (inl e) = let same : suc n ≡ suc i = rw e at q in let is : n ≡ i = omega arith in (omega arith, rw is at e)
      go rest (inr e) = let r = rest (rw e at q) in (omega (arith, r.0), r.1)

  pub last_none : (n : ℕ) → last_with f n ≡ 0 → (i : ℕ) → i < n → f i ≡ false
  unfolding last_with
  last_none zero q i h = absurd (omega arith)
  last_none (suc n) q i h = go (λ r. last_none n r i) (either (f n)) (same? i n)
    where
      go : (last_with f n ≡ 0 → i < n → f i ≡ false) → (f n ≡ true) ⊎ (f n ≡ false) → (i ≡ n) ⊎ (i ≢ n) → f i ≡ false
      go rest (inl e) s = let none : suc n ≡ 0 = rw e at q in absurd (omega arith)
      go rest (inr e) (inl s) = rw s e
      go rest (inr e) (inr ne) = rest (rw e at q) (omega arith)

  pub last_ext : (h : ℕ → Bool) (n : ℕ) → ((i : ℕ) → i < n → f i ≡ h i) → last_with f n ≡ last_with h n
  unfolding last_with
  last_ext h zero e = refl
  last_ext h (suc n) e = rw (e n (omega arith), last_ext h n (λ i k. e i (omega arith)))

  -- the numbers that pass a wider test are enough to look at
  pub last_skip : (wider : ℕ → Bool) → ((i : ℕ) → f i ≡ true → wider i ≡ true) → (n : ℕ) → last_with f (last_with wider n) ≡ last_with f n
  unfolding last_with
  last_skip wider w zero = refl
  last_skip wider w (suc n) = go (last_skip wider w n) (either (wider n))
    where
      go : last_with f (last_with wider n) ≡ last_with f n → (wider n ≡ true) ⊎ (wider n ≡ false)
          → last_with f (cond (wider n) (suc n) (last_with wider n)) ≡ cond (f n) (suc n) (last_with f n)
      go rest (inl e) = rw e
      go rest (inr e) = rw (e, not_both (λ t. clash (w n t) e)) rest

  pub found_none : (n : ℕ) → found f n ≡ None → (i : ℕ) → i < n → f i ≡ false
  unfolding found
  found_none n q = last_none n (go (last_with f n) q)
    where
      go : (k : ℕ) → found_at k ≡ None → k ≡ 0
      go zero e = refl
      go (suc k) e = cc

  pub found_some : (n i : ℕ) → found f n ≡ Some i → (i < n) × (f i ≡ true)
  unfolding found
  found_some n i q = last_at n i (go (last_with f n) q)
    where
      go : (k : ℕ) → found_at k ≡ Some i → k ≡ suc i
      go zero e = cc
      go (suc k) e = cc

  -- whether some value of h below n passes the test g
  module _ {ℓ} {A : Type ℓ} (g : A → Bool) (h : ℕ → A) (n : ℕ) where
    pub any_found_none : found f n ≡ None → ((i : ℕ) → i < n → f i ≡ false → g (h i) ≡ false) → any g (tab 0 n h) ≡ false
    any_found_none q e = any_tab_none n g h (λ i k. e i k (found_none n q i k))

    pub any_found_some : (i : ℕ) → found f n ≡ Some i → (f i ≡ true → g (h i) ≡ true) → any g (tab 0 n h) ≡ true
    any_found_some i q e = let at = found_some n i q in any_tab_some n g h i at.0 (e at.1)

-- From a fact at each index, as iterators give it, to `every`.
use Rattle.std.proofs.Common.{ℕ, ◌≡◌, ◌<◌, ◌+◌, ◌-◌, Bool, true, false, IsTrue, ◌↔◌, List, length, get_or, refl, sym, arith, MatchBool, ltb-true, lt-ltb}
use Rattle.std.proofs.Common.{le-leb}
use Rattle.std.specs.List.Sorted.{IsNonDecreasing}
use borrow.Author.Tests.{lt-leb}
use Rattle.graphs.specs.Lists.{every}
use Rattle.graphs.specs.Words.{never_falling, all_below}
use Rattle.graphs.proofs.Every.{every_of, every_at, every_not}
use Rattle.graphs.proofs.Tests.{clash}

-- an answer that is true just where the test holds of each number is `every`
pub is_every : (r : Bool) (n : ℕ) (f : ℕ → Bool) → (IsTrue r ↔ ((i : ℕ) → i < n → f i ≡ true)) → r ≡ every n f
is_every true n f h = sym (every_of n f (h.0 refl))
is_every false n f h = go (every n f) refl
  where
    go : (b : Bool) → every n f ≡ b → false ≡ b
    go false e = refl
    go true e = absurd (clash (h.1 (every_at n f e)) refl)

-- what `is_sorted` says
pub is_never_falling : (offsets : List ℕ) (r : Bool)
    → MatchBool r (IsNonDecreasing offsets) ((k : ℕ) × (k + 1 < length offsets) × ((d : ℕ) → get_or offsets (k + 1) d < get_or offsets k d))
    → r ≡ never_falling offsets (length offsets - 1)
unfolding never_falling
is_never_falling offsets true h = sym (every_of _ _ (λ s k. le-leb _ _ (h s (s + 1) 0 (omega arith) (omega arith))))
is_never_falling offsets false h = sym (every_not _ _ h.0 (omega (arith, h.1)) (lt-leb _ _ (h.2 0)))

pub is_all_below : (r : Bool) (words : List ℕ) (bound : ℕ) → (IsTrue r ↔ ((k : ℕ) → k < length words → get_or words k 0 < bound)) → r ≡ all_below words bound
unfolding all_below
is_all_below r words bound h =
    is_every r (length words) _ (λ t i k. lt-ltb _ _ (h.0 t i k), λ all. h.1 (λ i k. ltb-true _ _ (all i k)))

-- Laws of the bytes that a label may hold: each is a byte and not 0, and neither a tab nor a line feed is one.
use Prim.Native.Nat.{ℕ, ◌≤◌, ◌<◌}
use mathlib.Core.Path.{◌≡◌, refl}
use mathlib.Core.Bool.{true, false, ◌||◌}
use mathlib.Core.Logic.{◌⊎◌, inl, inr}
use lib.Dec.{eqb, leb}
use borrow.Author.Tests.{eqb-true, leb-true}
use native.Mathlib.Omega.{arith}
use Rattle.graphs.proofs.Tests.{and_cases, or_cases, clash, cond_ind}
use Rattle.lines.specs.Bytes.{between, kind_of, of_label, in_label}
use Rattle.lines.specs.declared.kinds.Kind.{Kind}
use Rattle.lines.specs.declared.kinds.Kind.TheVariants.{Upper, Lower, Digit, Mark}

pub between_low : (low high x : ℕ) → between low high x ≡ true → (low ≤ x) × (x ≤ high)
unfolding between
between_low low high x e =
    let parts = and_cases (leb low x) (leb x high) e in
    (leb-true low x parts.0, leb-true x high parts.1)

-- b is a byte and not 0 if k is the kind of a label's byte
abbrev Low : ℕ → Kind → Type 0
Low b k = of_label k ≡ true → (0 < b) × (b < 256)

within : (b low high : ℕ) (k : Kind) → 0 < low → high < 256 → between low high b ≡ true → Low b k
within b low high k l h e t = let i = between_low low high b e in (omega (arith, i.0), omega (arith, i.1))

one_of : (b : ℕ) (k : Kind) → (eqb b 45 || eqb b 95 || eqb b 46) ≡ true → Low b k
one_of b k e t = go (or_cases (eqb b 45 || eqb b 95) (eqb b 46) e)
  where
    is : (x : ℕ) → 0 < x → x < 256 → eqb b x ≡ true → (0 < b) × (b < 256)
    is x l h q = (omega (arith, eqb-true b x q), omega (arith, eqb-true b x q))

    first : (eqb b 45 ≡ true) ⊎ (eqb b 95 ≡ true) → (0 < b) × (b < 256)
    first (inl q) = is 45 (omega arith) (omega arith) q
    first (inr q) = is 95 (omega arith) (omega arith) q

    go : ((eqb b 45 || eqb b 95) ≡ true) ⊎ (eqb b 46 ≡ true) → (0 < b) × (b < 256)
    go (inl q) = first (or_cases (eqb b 45) (eqb b 95) q)
    go (inr q) = is 46 (omega arith) (omega arith) q

pub label_byte : (b : ℕ) → in_label b ≡ true → (0 < b) × (b < 256)
unfolding in_label kind_of
label_byte b e =
    cond_ind (Low b) (between 65 90 b) (within b 65 90 Upper (omega arith) (omega arith)) (λ _.
    cond_ind (Low b) (between 97 122 b) (within b 97 122 Lower (omega arith) (omega arith)) (λ _.
    cond_ind (Low b) (between 48 57 b) (within b 48 57 Digit (omega arith) (omega arith)) (λ _.
    cond_ind (Low b) (eqb b 45 || eqb b 95 || eqb b 46) (one_of b Mark) (λ _.
    cond_ind (Low b) (eqb b 9) (λ _ t. absurd (clash t refl)) (λ _.
    cond_ind (Low b) (eqb b 10) (λ _ t. absurd (clash t refl)) (λ _ t. absurd (clash t refl))))))) e

-- what ends a label
pub tab_ends : in_label 9 ≡ false
unfolding in_label kind_of between
tab_ends = refl

pub line_feed_ends : in_label 10 ≡ false
unfolding in_label kind_of between
line_feed_ends = refl

-- `==` of two slices of bytes is the test that they are the same, word by word; what that is where one is of three letters, or of one; and no word
-- is one of another length.
use Rattle.std.proofs.Common.{◌≡◌, ◌≢◌, ◌<◌, ℕ, suc, false, List, [], ◌∷◌, ◌&&◌, length, get_or, drop, refl, ap, arith}
use Rattle.std.specs.Prelude.{bytes_eq}
use mathlib.Core.Bool.{◌&&◌, and-true, and_assoc}
use lib.Dec.{eqb}
use lib.ListN.{drop_of_length-le}
use lib.Seq.{drop-cons}
use Rattle.graphs.specs.Lists.{same}
use Rattle.graphs.proofs.Same.{ne_same}

pub bytes_eq_same : (l m : List ℕ) → bytes_eq l m ≡ same l m
unfolding same
bytes_eq_same [] [] = refl
bytes_eq_same [] (y ∷ m) = refl
bytes_eq_same (x ∷ l) [] = refl
bytes_eq_same (x ∷ l) (y ∷ m) = ap (λ b. eqb x y && b) (bytes_eq_same l m)

pub other_length : (l m : List ℕ) → length l ≢ length m → same l m ≡ false
other_length l m ne = ne_same l m (λ e. ne (ap length e))

module _ (l : List ℕ) where
  letter : (i y : ℕ) (m : List ℕ) → i < length l → same (drop i l) (y ∷ m) ≡ (eqb (get_or l i 0) y && same (drop (suc i) l) m)
  unfolding same
  letter i y m h = rw (drop-cons l i 0 h)

  last : (i y : ℕ) → length l ≡ suc i → same (drop i l) (y ∷ []) ≡ eqb (get_or l i 0) y
  unfolding same
  last i y h = rw (drop-cons l i 0 (omega arith), drop_of_length-le l {i = suc i} (omega arith), and-true)

  pub spelt_1 : (x : ℕ) → length l ≡ 1 → same l (x ∷ []) ≡ eqb (get_or l 0 0) x
  spelt_1 x h = last 0 x h

  pub spelt_3 : (x y z : ℕ) → length l ≡ 3 → same l (x ∷ y ∷ z ∷ []) ≡ (eqb (get_or l 0 0) x && eqb (get_or l 1 0) y && eqb (get_or l 2 0) z)
  spelt_3 x y z h =
      rw (letter 0 x (y ∷ z ∷ []) (omega arith), letter 1 y (z ∷ []) (omega arith), last 2 z h, and_assoc)

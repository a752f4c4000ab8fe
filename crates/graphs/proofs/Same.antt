-- Laws of `same`, `all` and `any`: tests of lists, word by word.
use Rattle.std.proofs.Common.{ℕ, zero, suc, ◌<◌, ◌≡◌, refl, Bool, true, false, ◌&&◌, ◌||◌, List, [], ◌∷◌, ◌++◌, ◌≢◌, eqb, length, get_or, eqb-true, eq-eqb}
use Rattle.std.proofs.Common.{arith}
use Rattle.graphs.specs.Lists.{same, all, any}
use Rattle.graphs.proofs.Tests.{and_cases, clash, not_both, or_left, or_right}

-- two lists are the same, or differ
pub same_eq : (l m : List ℕ) → same l m ≡ true → l ≡ m
unfolding same
same_eq [] [] e = refl
same_eq [] (y ∷ m) e = absurd (clash e refl)
same_eq (x ∷ l) [] e = absurd (clash e refl)
same_eq (x ∷ l) (y ∷ m) e =
    let parts = and_cases (eqb x y) (same l m) e in
    let here = eqb-true x y parts.0 in
    let rest = same_eq l m parts.1 in
    cc

pub same_refl : (l : List ℕ) → same l l ≡ true
unfolding same
same_refl [] = refl
same_refl (x ∷ l) = rw (eq-eqb x x refl) (same_refl l)

pub eq_same : (l m : List ℕ) → l ≡ m → same l m ≡ true
eq_same l m e = rw e (same_refl m)

pub ne_same : (l m : List ℕ) → l ≢ m → same l m ≡ false
ne_same l m ne = not_both (λ e. ne (same_eq l m e))

and_join : (a b c d : Bool) → d ≡ (b && c) → (a && d) ≡ ((a && b) && c)
and_join true b c d e = e
and_join false b c d e = refl

or_join : (a b c d : Bool) → d ≡ (b || c) → (a || d) ≡ ((a || b) || c)
or_join true b c d e = refl
or_join false b c d e = e

-- a test of the members of a joined list
module _ {ℓ} {A : Type ℓ} (f : A → Bool) where
  pub all_join : (l m : List A) → all f (l ++ m) ≡ (all f l && all f m)
  unfolding all
  all_join [] m = refl
  all_join (x ∷ l) m = and_join (f x) (all f l) (all f m) (all f (l ++ m)) (all_join l m)

  pub any_join : (l m : List A) → any f (l ++ m) ≡ (any f l || any f m)
  unfolding any
  any_join [] m = refl
  any_join (x ∷ l) m = or_join (f x) (any f l) (any f m) (any f (l ++ m)) (any_join l m)

  -- the test at a place of a list
  pub all_at : (l : List A) → all f l ≡ true → (i : ℕ) (d : A) → i < length l → f (get_or l i d) ≡ true
  unfolding all
  all_at [] e i d h = absurd (omega arith)
  all_at (x ∷ l) e zero d h = (and_cases (f x) (all f l) e).0
  all_at (x ∷ l) e (suc i) d h = all_at l (and_cases (f x) (all f l) e).1 i d (omega arith)

  pub any_not_at : (l : List A) → any f l ≡ false → (i : ℕ) (d : A) → i < length l → f (get_or l i d) ≡ false
  unfolding any
  any_not_at [] e i d h = absurd (omega arith)
  any_not_at (x ∷ l) e zero d h = or_left (f x) (any f l) e
  any_not_at (x ∷ l) e (suc i) d h = any_not_at l (or_right (f x) (any f l) e) i d (omega arith)

-- Laws of `is_nil`: whether a list is empty, and its length.
use Prim.Native.Nat.{◌<◌, ◌≤◌}
use mathlib.Core.Path.{◌≡◌, refl}
use mathlib.Core.Bool.{true, false}
use mathlib.Core.List.{List, [], ◌∷◌}
use lib.ListN.{length}
use native.Mathlib.Omega.{arith}
use Rattle.graphs.proofs.Tests.{clash}
use Rattle.text.specs.Text.{is_nil}

module _ {ℓ} {A : Type ℓ} where
  pub nil_none : (l : List A) → length l ≡ 0 → is_nil l ≡ true
  unfolding is_nil
  nil_none [] e = refl
  nil_none (x ∷ l) e = absurd (omega arith)

  pub nil_some : (l : List A) → 0 < length l → is_nil l ≡ false
  unfolding is_nil
  nil_some [] h = absurd (omega arith)
  nil_some (x ∷ l) h = refl

  pub is_nil_lem : (l : List A) → is_nil l ≡ true → l ≡ []
  unfolding is_nil
  is_nil_lem [] e = refl
  is_nil_lem (x ∷ l) e = absurd (clash e refl)

  pub not_nil : (l : List A) → is_nil l ≡ false → 1 ≤ length l
  unfolding is_nil
  not_nil [] e = absurd (clash refl e)
  not_nil (x ∷ l) e = omega arith

-- Copying a list of equal length by a loop that goes up: the words below i are those of the other list.
use Prim.Native.Nat.{ℕ, ◌+◌, ◌<◌, ◌≤◌}
use mathlib.Core.Path.{◌≡◌, sym, ◌∙◌}
use mathlib.Core.List.{List}
use lib.ListN.{length, get_or, set, take}
use lib.Seq.{take-suc, take-suc-set, take_all}
use native.Mathlib.Omega.{arith}
use native.Mathlib.Numerals.{add-one}

module _ (to from : List ℕ) (i : ℕ) (long : length to ≡ length from) (e : take i to ≡ take i from) where
  pub copied_more : i < length from → take (i + 1) (set to i (get_or from i 0)) ≡ take (i + 1) from
  copied_more h = rw (add-one, take-suc-set to i (get_or from i 0) (omega arith), e) (sym (take-suc from i 0 h))

  pub copied_all : length from ≤ i → to ≡ from
  copied_all h = sym (take_all i to (omega arith)) ∙ e ∙ take_all i from h

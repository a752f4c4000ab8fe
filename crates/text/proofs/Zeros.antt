-- Laws of lists with zeros behind: how long a padded list is, and what it is.
use Prim.Native.Nat.{ℕ, ◌+◌, ◌-◌, ◌<◌, ◌≤◌}
use mathlib.Core.Path.{◌≡◌, sym, ap, ◌∙◌}
use mathlib.Core.List.{List, ◌++◌}
use mathlib.Core.Logic.{◌⊎◌, inl, inr}
use lib.ListN.{length, get_or, take, length-append, length-replicate, get_or-append}
use lib.Seq.{take_at, get_or-append-add, ext_get_or}
use native.Mathlib.Omega.{arith}
use Rattle.graphs.proofs.Stamps.{zeroes_at}
use Rattle.graphs.proofs.Tests.{below?}
use Rattle.text.specs.Lists.{zeros, padded}

pub padded_take : (k n : ℕ) (l : List ℕ) → length l ≡ n → take n (padded k l) ≡ l
unfolding padded
padded_take k n l e = take_at l (zeros (k - length l)) n e

pub padded_long : (k : ℕ) (l : List ℕ) → length l ≤ k → length (padded k l) ≡ k
unfolding padded
padded_long k l h = simp (length-append, length-replicate) (omega arith)

pub padded_whole : (l m : List ℕ) (k : ℕ) → l ≡ padded k m → length l ≡ k → l ≡ padded (length l) m
padded_whole l m k e long = e ∙ ap (λ j. padded j m) (sym long)

-- a list with the words of l in front and zeros behind them
pub padded_is : (l m : List ℕ) → length l ≤ length m → ((v : ℕ) → v < length l → get_or m v 0 ≡ get_or l v 0)
    → ((v : ℕ) → length l ≤ v → get_or m v 0 ≡ 0) → m ≡ padded (length m) l
unfolding padded
padded_is l m h front behind =
    ext_get_or 0 m (l ++ zeros (length m - length l)) (simp (length-append, length-replicate) (omega arith)) (λ v k. go v (below? v (length l)))
  where
    go : (v : ℕ) → (v < length l) ⊎ (length l ≤ v) → get_or m v 0 ≡ get_or (l ++ zeros (length m - length l)) v 0
    go v (inl k) = front v k ∙ sym (get_or-append l _ 0 v k)
    go v (inr k) =
        let rest = zeros (length m - length l) in
        let at : v ≡ length l + (v - length l) = omega arith in
        behind v k
        ∙ sym (ap (λ i. get_or (l ++ rest) i 0) at ∙ get_or-append-add l rest (v - length l) 0 ∙ zeroes_at (length m - length l) (v - length l))

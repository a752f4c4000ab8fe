-- Laws of the label bytes that stand first among the first k: that they are a label's, that they are the label before another byte, and what
-- more bytes add.
use Prim.Native.Nat.{ℕ, zero, suc, ◌+◌, ◌≤◌, ◌<◌}
use mathlib.Core.Path.{◌≡◌, refl, ap}
use mathlib.Core.Bool.{true, false}
use mathlib.Core.List.{List, [], ◌∷◌, ◌++◌}
use mathlib.Core.Logic.{◌⊎◌, inl, inr}
use lib.ListN.{length, take, drop}
use native.Mathlib.Nat.{zero-add, suc-add}
use native.Mathlib.Omega.{arith}
use Rattle.std.specs.List.{prefix_len, take_while}
use Rattle.std.proofs.lemmas.List.Sums.{take_while-cons}
use Rattle.graphs.specs.Lists.{all}
use Rattle.graphs.proofs.Tests.{and_cases, either}
use Rattle.lines.specs.Bytes.{in_label}

pub run_label : (l : List ℕ) → all in_label (take_while in_label l) ≡ true
unfolding all
run_label [] = refl
run_label (b ∷ l) = go (run_label l) (either (in_label b))
  where
    go : all in_label (take_while in_label l) ≡ true → (in_label b ≡ true) ⊎ (in_label b ≡ false) → all in_label (take_while in_label (b ∷ l)) ≡ true
    go rest (inl e) = rw (take_while-cons in_label b l, e) (rw e rest)
    go rest (inr e) = rw (take_while-cons in_label b l, e) refl

pub run_of : (k : ℕ) (a : List ℕ) (b : ℕ) (r : List ℕ) → all in_label a ≡ true → length a ≤ k → in_label b ≡ false
    → take_while in_label (take k (a ++ b ∷ r)) ≡ a
unfolding all
run_of zero [] b r e h stop = refl
run_of (suc k) [] b r e h stop = rw (take_while-cons in_label b (take k r), stop)
run_of zero (x ∷ a) b r e h stop = absurd (omega arith)
run_of (suc k) (x ∷ a) b r e h stop =
    let parts = and_cases (in_label x) (all in_label a) e in
    rw (take_while-cons in_label x (take k (a ++ b ∷ r)), parts.0) (ap (λ m. x ∷ m) (run_of k a b r parts.1 (omega arith) stop))

-- among more bytes: the run ended among the first k, or it goes on after them
pub run_short : (k j : ℕ) (l : List ℕ) → prefix_len in_label (take k l) < k → take_while in_label (take (k + j) l) ≡ take_while in_label (take k l)
run_short zero j l h = absurd (omega arith)
run_short (suc k) j [] h = rw (suc-add k j)
run_short (suc k) j (b ∷ l) h = go (run_short k j l) (either (in_label b))
  where
    go : (prefix_len in_label (take k l) < k → take_while in_label (take (k + j) l) ≡ take_while in_label (take k l))
        → (in_label b ≡ true) ⊎ (in_label b ≡ false) → take_while in_label (take (suc k + j) (b ∷ l)) ≡ take_while in_label (take (suc k) (b ∷ l))
    go rest (inl e) =
        let h' : 1 + prefix_len in_label (take k l) < suc k = rw e at h in
        rw (suc-add k j, take_while-cons in_label b (take (k + j) l), take_while-cons in_label b (take k l), e)
        (ap (λ m. b ∷ m) (rest (omega arith)))
    go rest (inr e) = rw (suc-add k j, take_while-cons in_label b (take (k + j) l), take_while-cons in_label b (take k l), e)

pub run_long : (k j : ℕ) (l : List ℕ) → prefix_len in_label (take k l) ≡ k
    → take_while in_label (take (k + j) l) ≡ take k l ++ take_while in_label (take j (drop k l))
run_long zero j l h = rw (zero-add j)
run_long (suc k) j [] h = absurd (omega arith)
run_long (suc k) j (b ∷ l) h = go (run_long k j l) (either (in_label b))
  where
    go : (prefix_len in_label (take k l) ≡ k → take_while in_label (take (k + j) l) ≡ take k l ++ take_while in_label (take j (drop k l)))
        → (in_label b ≡ true) ⊎ (in_label b ≡ false)
        → take_while in_label (take (suc k + j) (b ∷ l)) ≡ b ∷ (take k l ++ take_while in_label (take j (drop k l)))
    go rest (inl e) =
        let h' : 1 + prefix_len in_label (take k l) ≡ suc k = rw e at h in
        rw (suc-add k j, take_while-cons in_label b (take (k + j) l), e) (ap (λ m. b ∷ m) (rest (omega arith)))
    go rest (inr e) = let h' : 0 ≡ suc k = rw e at h in absurd (omega arith)

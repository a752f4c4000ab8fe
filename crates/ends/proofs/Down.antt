-- Laws of `place_down`, the place of a word looked for from the last one down: what the last word says of it; that it is what an iterator finds; that
-- it is within the words; and that in a stack's words, bottom first, as many words stand before it as the stack has below it.
use Prim.Native.Nat.{ℕ, zero, suc, ◌-◌, ◌<◌, ◌≤◌}
use mathlib.Core.Path.{◌≡◌, refl, sym}
use mathlib.Core.Bool.{cond}
use mathlib.Core.List.{List, [], ◌∷◌, ◌++◌, reverse, reverse-cons}
use mathlib.Core.Logic.{◌⊎◌, inl, inr, ◌≢◌}
use lib.Dec.{eqb}
use lib.ListN.{length, get_or, length-reverse, get_or-append}
use lib.Seq.{get_or_at}
use native.Mathlib.Omega.{arith}
use borrow.Author.Tests.{eq-eqb, ne_eqb}
use Rattle.std.specs.Prelude.{Option, None, Some, IfSome, IsNone}
use Rattle.std.specs.Option.{unwrap_or}
use Rattle.graphs.proofs.Tests.{cond_ind, same?}
use Rattle.moves.specs.Run.{below}
use Rattle.ends.specs.Lasso.{place_down}

pub place_here : (i x : ℕ) (l : List ℕ) → 0 < i → get_or l (i - 1) 0 ≡ x → place_down i x l ≡ i - 1
unfolding place_down
place_here zero x l h e = absurd (omega arith)
place_here (suc i) x l h e = let at : suc i - 1 ≡ i = omega arith in rw (eq-eqb (get_or l i 0) x (rw at at e)) (sym at)

pub place_lower : (i x : ℕ) (l : List ℕ) → 0 < i → get_or l (i - 1) 0 ≢ x → place_down i x l ≡ place_down (i - 1) x l
unfolding place_down
place_lower zero x l h ne = absurd (omega arith)
place_lower (suc i) x l h ne = let at : suc i - 1 ≡ i = omega arith in rw (ne_eqb (get_or l i 0) x (rw at at ne), at)

place_at : (j i x : ℕ) (l : List ℕ) → i < j → get_or l i 0 ≡ x → ((k : ℕ) → i < k → k < j → get_or l k 0 ≢ x) → place_down j x l ≡ i
unfolding place_down
place_at zero i x l h e later = absurd (omega arith)
place_at (suc j) i x l h e later = go (λ k. place_at j i x l k e (λ m a b. later m a (omega arith))) (same? i j)
  where
    go : (i < j → place_down j x l ≡ i) → (i ≡ j) ⊎ (i ≢ j) → cond (eqb (get_or l j 0) x) j (place_down j x l) ≡ i
    go rest (inl q) = rw (← q, eq-eqb (get_or l i 0) x e)
    go rest (inr ne) = rw (ne_eqb (get_or l j 0) x (later j (omega arith) (omega arith))) (rest (omega arith))

place_none : (j x : ℕ) (l : List ℕ) → ((k : ℕ) → k < j → get_or l k 0 ≢ x) → place_down j x l ≡ 0
unfolding place_down
place_none zero x l none = refl
place_none (suc j) x l none = rw (ne_eqb (get_or l j 0) x (none j (omega arith))) (place_none j x l (λ k h. none k (omega arith)))

-- from what an iterator finds, the last place of x or none, to `place_down`
pub is_place_down : (o : Option ℕ) (l : List ℕ) (x : ℕ) → IfSome o (λ i. (i < length l) × (get_or l i 0 ≡ x))
    → IfSome o (λ i. (k : ℕ) → i < k → k < length l → get_or l k 0 ≢ x) → (IsNone o → (k : ℕ) → k < length l → get_or l k 0 ≢ x)
    → unwrap_or o 0 ≡ place_down (length l) x l
is_place_down None l x found last none = sym (place_none (length l) x l (none refl))
is_place_down (Some i) l x found last none = sym (place_at (length l) i x l found.0 found.1 last)

place_low : (i x : ℕ) (l : List ℕ) → place_down i x l ≤ i
unfolding place_down
place_low zero x l = omega arith
place_low (suc i) x l = cond_ind (λ k. k ≤ suc i) (eqb (get_or l i 0) x) (λ e. omega arith) (λ e. omega (arith, place_low i x l))

pub place_in : {r : ℕ} (x : ℕ) (l : List ℕ) → r ≡ place_down (length l) x l → r ≤ length l
place_in x l e = rw e (place_low (length l) x l)

-- words after those looked at do not count
place_first : (i x : ℕ) (l k : List ℕ) → i ≤ length l → place_down i x (l ++ k) ≡ place_down i x l
unfolding place_down
place_first zero x l k h = refl
place_first (suc i) x l k h = rw (get_or-append l k 0 i (omega arith), place_first i x l k (omega arith))

pub place_below : (x : ℕ) (o : List ℕ) → place_down (length o) x (reverse o) ≡ length (below x o)
unfolding place_down below
place_below x [] = refl
place_below x (y ∷ o) =
    let top = get_or_at (reverse o) y [] 0 (length o) (length-reverse o) in
    let first = place_first (length o) x (reverse o) (y ∷ []) (omega (arith, length-reverse o)) in
    rw (reverse-cons y o, top, first) (go (place_below x o) (same? y x))
  where
    go : place_down (length o) x (reverse o) ≡ length (below x o) → (y ≡ x) ⊎ (y ≢ x)
        → cond (eqb y x) (length o) (place_down (length o) x (reverse o)) ≡ length (cond (eqb y x) o (below x o))
    go rest (inl e) = rw (eq-eqb y x e)
    go rest (inr ne) = rw (ne_eqb y x ne) rest

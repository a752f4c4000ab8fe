-- Laws of a text's pieces: there is always one; the first line, if a line feed ends it, and what is left after it; and a text without a line feed.
use Prim.Native.Nat.{ℕ, suc, ◌≤◌}
use mathlib.Core.Path.{◌≡◌, refl, ap, ◌∙◌}
use mathlib.Core.Bool.{true, false}
use mathlib.Core.List.{List, [], ◌∷◌, ◌++◌}
use mathlib.Core.Logic.{◌⊎◌, inl, inr}
use lib.ListN.{length, get_or, drop, length-append}
use native.Mathlib.Omega.{arith}
use borrow.Author.Tests.{lt-ltb}
use Rattle.graphs.specs.Lists.{elem}
use Rattle.graphs.proofs.Tests.{clash}
use Rattle.lines.specs.Line.{pieces}
use Rattle.lines.specs.Found.{first_line, ended}
use Rattle.lines.proofs.Cut.{Parted, parted?, parted_cut, cut_free, cut_some}

pub pieces_some : (left : List ℕ) → (p : List ℕ) × (ps : List (List ℕ)) × (pieces left ≡ p ∷ ps)
pieces_some left = cut_some 10 left

-- a line feed stands in a text whose first line is ended
pub ended_parted : (left : List ℕ) → ended left ≡ true → Parted 10 left
unfolding ended
ended_parted left e = go (parted? 10 left)
  where
    go : (elem 10 left ≡ false) ⊎ Parted 10 left → Parted 10 left
    go (inl f) = absurd (clash (rw (cut_free 10 left f) at e) refl)
    go (inr p) = p

drop_past : (a : List ℕ) (c : ℕ) (r : List ℕ) → drop (suc (length a)) (a ++ c ∷ r) ≡ r
drop_past [] c r = refl
drop_past (x ∷ a) c r = drop_past a c r

-- a line feed stands in the text
module _ {left : List ℕ} (p : Parted 10 left) where
  pub parted_line : first_line left ≡ p.first
  unfolding first_line
  parted_line = ap (λ l. get_or l 0 []) (parted_cut p)

  pub parted_ended : ended left ≡ true
  unfolding ended
  parted_ended = let s = cut_some 10 p.rest in rw (parted_cut p, s.2) (lt-ltb 1 (suc (suc (length s.1))) (omega arith))

  pub parted_rest : drop (suc (length (first_line left))) left ≡ p.rest
  parted_rest = rw parted_line (ap (drop (suc (length p.first))) p.is ∙ drop_past p.first 10 p.rest)

pub pieces_ended : (left : List ℕ) → ended left ≡ true → pieces left ≡ first_line left ∷ pieces (drop (suc (length (first_line left))) left)
pieces_ended left e = let p = ended_parted left e in rw (parted_rest p, parted_line p) (parted_cut p)

pub pieces_rest : (left : List ℕ) → ended left ≡ false → pieces left ≡ left ∷ []
pieces_rest left e = go (parted? 10 left)
  where
    go : (elem 10 left ≡ false) ⊎ Parted 10 left → pieces left ≡ left ∷ []
    go (inl f) = cut_free 10 left f
    go (inr p) = absurd (clash (parted_ended p) e)

-- the line, its line feed, and what is left after it
pub ended_is : (left : List ℕ) → ended left ≡ true → left ≡ first_line left ++ 10 ∷ drop (suc (length (first_line left))) left
ended_is left e = let p = ended_parted left e in rw (parted_rest p, parted_line p) p.is

pub ended_inside : (left : List ℕ) → ended left ≡ true → suc (length (first_line left)) ≤ length left
ended_inside left e =
    let long = ap length (ended_is left e) ∙ length-append (first_line left) (10 ∷ drop (suc (length (first_line left))) left) in
    omega arith

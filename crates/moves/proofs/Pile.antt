-- Laws of `pile`, the words of a stack: their number, one store for one push and one pop, and that piles of stacks as deep tell them apart.
use Rattle.std.proofs.Common.{ℕ, suc, ◌-◌, ◌<◌, ◌≤◌, ◌≡◌, sym, ap, ◌∙◌, List, ◌∷◌, ◌++◌, reverse, append_assoc, length, set, replicate, length-append, arith}
use mathlib.Core.List.{reverse-cons, reverse-reverse}
use lib.ListN.{length-reverse, length-replicate}
use lib.Seq.{set_at}
use Rattle.moves.specs.Room.{pile}
use Rattle.moves.proofs.Joined.{split}

module _ (n : ℕ) (l : List ℕ) where
  pub pile_long : length l ≤ n → length (pile n l) ≡ n
  unfolding pile
  pile_long h = simp (length-append, length-reverse, length-replicate) (omega arith)

  -- the stack with x on it; and, with room above its top, with the 0 that stands there
  topped : (x : ℕ) → pile n (x ∷ l) ≡ reverse l ++ (x ∷ replicate (n - suc (length l)) 0)
  unfolding pile
  topped x = rw (reverse-cons x l, append_assoc)

  open_top : length l < n → pile n l ≡ reverse l ++ (0 ∷ replicate (n - suc (length l)) 0)
  unfolding pile
  open_top h = let e : n - length l ≡ suc (n - suc (length l)) = omega arith in rw e

  pub pile_push : (x : ℕ) → length l < n → pile n (x ∷ l) ≡ set (pile n l) (length l) x
  pile_push x h = rw (topped x, open_top h) (sym (set_at (reverse l) 0 _ x (length l) (length-reverse l)))

  pub pile_pop : (x : ℕ) → length l < n → pile n l ≡ set (pile n (x ∷ l)) (length l) 0
  pile_pop x h = rw (topped x, open_top h) (sym (set_at (reverse l) x _ 0 (length l) (length-reverse l)))

  pub pile_same : (k : List ℕ) → length l ≡ length k → pile n l ≡ pile n k → l ≡ k
  unfolding pile
  pile_same k h e =
      let backwards = (split (reverse l) (reverse k) _ _ (length-reverse l ∙ h ∙ sym (length-reverse k)) e).0 in
      sym (reverse-reverse l) ∙ ap reverse backwards ∙ reverse-reverse k

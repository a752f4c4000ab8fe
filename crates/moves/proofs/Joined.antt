-- Laws of joined lists: equal part by part if the first parts are as long, and which words a part put in the place of another leaves as they are.
use Rattle.std.proofs.Common.{ℕ, ◌+◌, ◌-◌, ◌<◌, ◌≤◌, ◌≡◌, refl, sym, ap, ◌∙◌, List, [], ◌∷◌, ◌++◌, ◌⊎◌, inl, inr, length, get_or, get_or-append-add, arith}
use lib.ListN.{get_or-append}

pub split : (a a' b b' : List ℕ) → length a ≡ length a' → a ++ b ≡ a' ++ b' → (a ≡ a') × (b ≡ b')
split [] [] b b' h e = (refl, e)
split [] (x ∷ a') b b' h e = absurd (omega arith)
split (x ∷ a) [] b b' h e = absurd (omega arith)
split (x ∷ a) (y ∷ a') b b' h e =
    let tails : a ++ b ≡ a' ++ b' = cc in
    let rest = split a a' b b' (omega arith) tails in
    (cc rest.0, rest.1)

-- the word at i, past the k words of the first list
pub past : (a b : List ℕ) (k i : ℕ) → length a ≡ k → k ≤ i → get_or (a ++ b) i 0 ≡ get_or b (i - k) 0
past a b k i e h = let at : i ≡ length a + (i - k) = omega arith in ap (λ j. get_or (a ++ b) j 0) at ∙ get_or-append-add a b (i - k) 0

-- the part s or the part t, both of k words, and the words before and after it
pub outside : (a s t b : List ℕ) (k : ℕ) → length s ≡ k → length t ≡ k → (i : ℕ) → (i < length a) ⊎ (length a + k ≤ i)
    → get_or (a ++ (s ++ b)) i 0 ≡ get_or (a ++ (t ++ b)) i 0
outside a s t b k es et i (inl h) = get_or-append a (s ++ b) 0 i h ∙ sym (get_or-append a (t ++ b) 0 i h)
outside a s t b k es et i (inr h) = rest s es ∙ sym (rest t et)
  where
    rest : (u : List ℕ) → length u ≡ k → get_or (a ++ (u ++ b)) i 0 ≡ get_or b (i - length a - k) 0
    rest u e = past a (u ++ b) (length a) i refl (omega arith) ∙ past u b k (i - length a) e (omega arith)

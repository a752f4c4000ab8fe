-- Laws of `cut`: a list without the byte is one piece; a list is cut at the first such byte; and every list is of one of these two forms.
use Prim.Native.Nat.{ℕ}
use mathlib.Core.Path.{◌≡◌, refl, sym, ap, ◌∙◌}
use mathlib.Core.Bool.{Bool, true, false}
use mathlib.Core.List.{List, [], ◌∷◌, ◌++◌}
use mathlib.Core.Logic.{◌⊎◌, inl, inr, ◌≢◌}
use lib.Dec.{eqb}
use borrow.Author.Tests.{eq-eqb, ne_eqb, eqb-false}
use Rattle.graphs.specs.Lists.{all, elem}
use Rattle.graphs.proofs.Tests.{or_left, or_right, and_cases, clash, same?}
use Rattle.lines.specs.Line.{onto, cut}

-- the byte is not in the list: a list of others, joined lists, and a list that passes a test which the byte fails
pub free_cons : (c b : ℕ) (l : List ℕ) → b ≢ c → elem c l ≡ false → elem c (b ∷ l) ≡ false
unfolding elem
free_cons c b l ne e = rw (ne_eqb c b (λ q. ne (sym q))) e

pub free_join : (c : ℕ) (l m : List ℕ) → elem c l ≡ false → elem c m ≡ false → elem c (l ++ m) ≡ false
unfolding elem
free_join c [] m e f = f
free_join c (b ∷ l) m e f = rw (or_left (eqb c b) (elem c l) e) (free_join c l m (or_right (eqb c b) (elem c l) e) f)

pub free_all : (f : ℕ → Bool) (c : ℕ) (l : List ℕ) → all f l ≡ true → f c ≡ false → elem c l ≡ false
unfolding elem all
free_all f c [] e fails = refl
free_all f c (b ∷ l) e fails =
    let parts = and_cases (f b) (all f l) e in
    rw (ne_eqb c b (λ q. clash parts.0 (ap f (sym q) ∙ fails))) (free_all f c l parts.1 fails)

head_free : (c b : ℕ) (l : List ℕ) → elem c (b ∷ l) ≡ false → eqb b c ≡ false
unfolding elem
head_free c b l e = ne_eqb b c (λ q. eqb-false c b (or_left (eqb c b) (elem c l) e) (sym q))

tail_free : (c b : ℕ) (l : List ℕ) → elem c (b ∷ l) ≡ false → elem c l ≡ false
unfolding elem
tail_free c b l e = or_right (eqb c b) (elem c l) e

pub cut_free : (c : ℕ) (l : List ℕ) → elem c l ≡ false → cut c l ≡ l ∷ []
unfolding cut onto
cut_free c [] e = refl
cut_free c (b ∷ l) e = rw (head_free c b l e, cut_free c l (tail_free c b l e))

pub cut_at : (c : ℕ) (a r : List ℕ) → elem c a ≡ false → cut c (a ++ c ∷ r) ≡ a ∷ cut c r
unfolding cut onto
cut_at c [] r e = rw (eq-eqb c c refl)
cut_at c (b ∷ a) r e = rw (head_free c b a e, cut_at c a r (tail_free c b a e))

-- the list has the byte: what stands before the first one, and what stands after it
pub record Parted (c : ℕ) (l : List ℕ) : Type 0 where
  pub first : List ℕ
  pub rest : List ℕ
  pub free : elem c first ≡ false
  pub is : l ≡ first ++ c ∷ rest

pub parted? : (c : ℕ) (l : List ℕ) → (elem c l ≡ false) ⊎ Parted c l
unfolding elem
parted? c [] = inl refl
parted? c (b ∷ l) = go (same? b c) (parted? c l)
  where
    go : (b ≡ c) ⊎ (b ≢ c) → (elem c l ≡ false) ⊎ Parted c l → (elem c (b ∷ l) ≡ false) ⊎ Parted c (b ∷ l)
    go (inl e) tail = inr record { first = []; rest = l; free = refl; is = cc }
    go (inr ne) (inl e) = inl (free_cons c b l ne e)
    go (inr ne) (inr p) =
        let free = free_cons c b p.first ne p.free in
        inr record { first = b ∷ p.first; rest = p.rest; free = free; is = ap (λ m. b ∷ m) p.is }

pub parted_cut : {c : ℕ} {l : List ℕ} (p : Parted c l) → cut c l ≡ p.first ∷ cut c p.rest
parted_cut {c} {l} p = ap (cut c) p.is ∙ cut_at c p.first p.rest p.free

-- there is always a piece
pub cut_some : (c : ℕ) (l : List ℕ) → (p : List ℕ) × (ps : List (List ℕ)) × (cut c l ≡ p ∷ ps)
cut_some c l = go (parted? c l)
  where
    go : (elem c l ≡ false) ⊎ Parted c l → (p : List ℕ) × (ps : List (List ℕ)) × (cut c l ≡ p ∷ ps)
    go (inl e) = (l, [], cut_free c l e)
    go (inr p) = (p.first, cut c p.rest, parted_cut p)

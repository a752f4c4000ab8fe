-- Laws of six joined lists, of which the first five have n words each: a word is that of one of them, a store goes into one of them, and the second is
-- replaced. A worker's stretch is such a list.
use Rattle.std.proofs.Common.{ℕ, suc, ◌+◌, ◌*◌, ◌<◌, ◌≡◌, refl, ap, subst, ◌∙◌, List, [], ◌∷◌, ◌++◌, length, get_or, set, take, drop, get_or-append-add}
use Rattle.std.proofs.Common.{take_at, drop_at, arith}
use lib.ListN.{get_or-append}
use lib.Seq.{set-append_left}

-- the word past the n words of a, and the store at j past them, are those at i in what follows them
pub word_past : (a b : List ℕ) (n i : ℕ) → length a ≡ n → get_or (a ++ b) (n + i) 0 ≡ get_or b i 0
word_past a b n i e = subst (λ k. get_or (a ++ b) (k + i) 0 ≡ get_or b i 0) e (get_or-append-add a b i 0)

pub set_past : (a b : List ℕ) {b' : List ℕ} (v i j : ℕ) → j ≡ length a + i → set b i v ≡ b' → set (a ++ b) j v ≡ a ++ b'
set_past [] b v i j e h = let q : j ≡ i = omega arith in rw q h
set_past (x ∷ a) b v i j e h = let q : j ≡ suc (length a + i) = omega arith in rw q (ap (λ l. x ∷ l) (set_past a b v i (length a + i) refl h))

abbrev pub six : List ℕ → List ℕ → List ℕ → List ℕ → List ℕ → List ℕ → List ℕ
six a b c d e q = a ++ (b ++ (c ++ (d ++ (e ++ q))))

pub record Even (n : ℕ) (a b c d e : List ℕ) : Type 0 where
  pub long_1 : length a ≡ n
  pub long_2 : length b ≡ n
  pub long_3 : length c ≡ n
  pub long_4 : length d ≡ n
  pub long_5 : length e ≡ n

module _ {n : ℕ} {a b c d e : List ℕ} (q : List ℕ) (even : Even n a b c d e) where
  module _ (i v : ℕ) where
    pub six_set_1 : i < n → set (six a b c d e q) i v ≡ six (set a i v) b c d e q
    six_set_1 h = set-append_left a _ i v (omega arith)

    pub six_set_2 : i < n → set (six a b c d e q) (n + i) v ≡ six a (set b i v) c d e q
    six_set_2 h = set_past a _ v i _ (omega arith) (set-append_left b _ i v (omega arith))

    pub six_set_3 : i < n → set (six a b c d e q) (2 * n + i) v ≡ six a b (set c i v) d e q
    six_set_3 h = set_past a _ v (n + i) _ (omega arith) (set_past b _ v i _ (omega arith) (set-append_left c _ i v (omega arith)))

    pub six_set_4 : i < n → set (six a b c d e q) (3 * n + i) v ≡ six a b c (set d i v) e q
    six_set_4 h =
        set_past a _ v (2 * n + i) _ (omega arith)
        (set_past b _ v (n + i) _ (omega arith) (set_past c _ v i _ (omega arith) (set-append_left d _ i v (omega arith))))

    pub six_set_5 : i < n → set (six a b c d e q) (4 * n + i) v ≡ six a b c d (set e i v) q
    six_set_5 h =
        set_past a _ v (3 * n + i) _ (omega arith)
        (set_past b _ v (2 * n + i) _ (omega arith)
        (set_past c _ v (n + i) _ (omega arith) (set_past d _ v i _ (omega arith) (set-append_left e _ i v (omega arith)))))

    pub six_set_6 : set (six a b c d e q) (5 * n + i) v ≡ six a b c d e (set q i v)
    six_set_6 =
        set_past a _ v (4 * n + i) _ (omega arith)
        (set_past b _ v (3 * n + i) _ (omega arith)
        (set_past c _ v (2 * n + i) _ (omega arith) (set_past d _ v (n + i) _ (omega arith) (set_past e _ v i _ (omega arith) refl))))

  from_2 : (i : ℕ) → get_or (six a b c d e q) (n + i) 0 ≡ get_or (b ++ (c ++ (d ++ (e ++ q)))) i 0
  from_2 i = word_past a _ n i even.long_1

  from_3 : (i : ℕ) → get_or (six a b c d e q) (2 * n + i) 0 ≡ get_or (c ++ (d ++ (e ++ q))) i 0
  from_3 i = let at : 2 * n + i ≡ n + (n + i) = omega arith in rw at (from_2 (n + i) ∙ word_past b _ n i even.long_2)

  from_4 : (i : ℕ) → get_or (six a b c d e q) (3 * n + i) 0 ≡ get_or (d ++ (e ++ q)) i 0
  from_4 i = let at : 3 * n + i ≡ 2 * n + (n + i) = omega arith in rw at (from_3 (n + i) ∙ word_past c _ n i even.long_3)

  from_5 : (i : ℕ) → get_or (six a b c d e q) (4 * n + i) 0 ≡ get_or (e ++ q) i 0
  from_5 i = let at : 4 * n + i ≡ 3 * n + (n + i) = omega arith in rw at (from_4 (n + i) ∙ word_past d _ n i even.long_4)

  pub six_word_6 : (i : ℕ) → get_or (six a b c d e q) (5 * n + i) 0 ≡ get_or q i 0
  six_word_6 i = let at : 5 * n + i ≡ 4 * n + (n + i) = omega arith in rw at (from_5 (n + i) ∙ word_past e _ n i even.long_5)

  module _ (i : ℕ) (h : i < n) where
    pub six_word_1 : get_or (six a b c d e q) i 0 ≡ get_or a i 0
    six_word_1 = get_or-append a _ 0 i (omega (arith, even.long_1))

    pub six_word_2 : get_or (six a b c d e q) (n + i) 0 ≡ get_or b i 0
    six_word_2 = from_2 i ∙ get_or-append b _ 0 i (omega (arith, even.long_2))

    pub six_word_3 : get_or (six a b c d e q) (2 * n + i) 0 ≡ get_or c i 0
    six_word_3 = from_3 i ∙ get_or-append c _ 0 i (omega (arith, even.long_3))

    pub six_word_4 : get_or (six a b c d e q) (3 * n + i) 0 ≡ get_or d i 0
    six_word_4 = from_4 i ∙ get_or-append d _ 0 i (omega (arith, even.long_4))

    pub six_word_5 : get_or (six a b c d e q) (4 * n + i) 0 ≡ get_or e i 0
    six_word_5 = from_5 i ∙ get_or-append e _ 0 i (omega (arith, even.long_5))

  pub six_put_2 : (b' : List ℕ) → take n (six a b c d e q) ++ (b' ++ drop n (drop n (six a b c d e q))) ≡ six a b' c d e q
  six_put_2 b' = rw (take_at a _ n even.long_1, drop_at a _ n even.long_1, drop_at b _ n even.long_2)

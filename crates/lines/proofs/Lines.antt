-- Lines of three fields: a letter, a tab, a field, a tab, a field and a line feed are one line with these fields; and a line of three fields
-- that a line feed ends, with a letter for the first, stands so in the text.
use Prim.Native.Nat.{ℕ, suc, ◌+◌}
use mathlib.Core.Path.{◌≡◌, refl, sym, ap, ◌∙◌}
use mathlib.Core.Bool.{true, false}
use mathlib.Core.List.{List, [], ◌∷◌, ◌++◌, append_assoc}
use mathlib.Core.Logic.{◌⊎◌, inl, inr, ◌≢◌}
use lib.Dec.{eqb}
use lib.ListN.{length, drop, length-append}
use native.Mathlib.Omega.{arith}
use borrow.Author.Tests.{eqb-true}
use Rattle.graphs.specs.Lists.{elem, same}
use Rattle.graphs.proofs.Tests.{clash}
use Rattle.graphs.proofs.Same.{same_eq}
use Rattle.lines.specs.Bytes.{in_label}
use Rattle.lines.specs.Line.{cut, fields, field, is_label}
use Rattle.lines.specs.Found.{first_line, ended}
use Rattle.lines.proofs.Bytes.{tab_ends, line_feed_ends}
use Rattle.lines.proofs.Labels.{label_bytes}
use Rattle.lines.proofs.Cut.{Parted, parted?, parted_cut, cut_free, cut_at, cut_some, free_cons, free_join, free_all}
use Rattle.lines.proofs.Pieces.{parted_line, parted_ended, ended_is}

abbrev pub line_of : ℕ → List ℕ → List ℕ → List ℕ
line_of letter a b = letter ∷ 9 ∷ (a ++ 9 ∷ b)

abbrev pub three : ℕ → List ℕ → List ℕ → List ℕ → List ℕ
three letter a b r = letter ∷ 9 ∷ (a ++ 9 ∷ (b ++ 10 ∷ r))

three_line : (letter : ℕ) (a b r : List ℕ) → line_of letter a b ++ 10 ∷ r ≡ three letter a b r
three_line letter a b r = ap (λ m. letter ∷ 9 ∷ m) (append_assoc a (9 ∷ b) (10 ∷ r))

pub line_long : (letter : ℕ) (a b : List ℕ) → length (line_of letter a b) ≡ 3 + length a + length b
line_long letter a b = let long = length-append a (9 ∷ b) in omega arith

-- what no field holds
pub record Plain (l : List ℕ) : Type 0 where
  pub tab_free : elem 9 l ≡ false
  pub feed_free : elem 10 l ≡ false

pub label_plain : (l : List ℕ) → is_label l ≡ true → Plain l
label_plain l e = record {
  tab_free = free_all in_label 9 l (label_bytes l e) tab_ends;
  feed_free = free_all in_label 10 l (label_bytes l e) line_feed_ends;
}

-- three such fields are the first line, and its fields
module _ (letter : ℕ) (a b r : List ℕ) (pl : Plain (letter ∷ [])) (pa : Plain a) (pb : Plain b) where
  three_parted : Parted 10 (three letter a b r)
  three_parted =
      let nine : ◌≢◌ {A = ℕ} 9 10 = λ e. absurd (omega arith) in
      record {
        first = line_of letter a b;
        rest = r;
        free = free_join 10 (letter ∷ []) (9 ∷ (a ++ 9 ∷ b)) pl.feed_free
            (free_cons 10 9 (a ++ 9 ∷ b) nine (free_join 10 a (9 ∷ b) pa.feed_free (free_cons 10 9 b nine pb.feed_free)));
        is = sym (three_line letter a b r);
      }

  pub three_ended : ended (three letter a b r) ≡ true
  three_ended = parted_ended three_parted

  pub three_first : first_line (three letter a b r) ≡ line_of letter a b
  unfolding three_parted
  three_first = parted_line three_parted

  pub three_fields : fields (line_of letter a b) ≡ (letter ∷ []) ∷ a ∷ b ∷ []
  three_fields =
      cut_at 9 (letter ∷ []) (a ++ 9 ∷ b) pl.tab_free
      ∙ ap (λ m. (letter ∷ []) ∷ m) (cut_at 9 a b pa.tab_free ∙ ap (λ m. a ∷ m) (cut_free 9 b pb.tab_free))

-- a line of three fields
fields_line : (line : List ℕ) → eqb (length (fields line)) 3 ≡ true → line ≡ field 0 line ++ 9 ∷ (field 1 line ++ 9 ∷ field 2 line)
fields_line line e = go (parted? 9 line)
  where
    Goal : Type 0
    Goal = line ≡ field 0 line ++ 9 ∷ (field 1 line ++ 9 ∷ field 2 line)

    third : (p : Parted 9 line) (q : Parted 9 p.rest) → (elem 9 q.rest ≡ false) ⊎ Parted 9 q.rest → Goal
    third p q (inl f) =
        let is : cut 9 line ≡ p.first ∷ q.first ∷ q.rest ∷ [] =
        parted_cut p ∙ ap (λ m. p.first ∷ m) (parted_cut q ∙ ap (λ m. q.first ∷ m) (cut_free 9 q.rest f)) in
        rw is (p.is ∙ ap (λ m. p.first ++ 9 ∷ m) q.is)
    third p q (inr s) =
        let more = cut_some 9 s.rest in
        let is : cut 9 line ≡ p.first ∷ q.first ∷ s.first ∷ more.0 ∷ more.1 =
        parted_cut p ∙ ap (λ m. p.first ∷ m) (parted_cut q ∙ ap (λ m. q.first ∷ m) (parted_cut s ∙ ap (λ m. s.first ∷ m) more.2)) in
        let many : suc (suc (suc (suc (length more.1)))) ≡ 3 = eqb-true (suc (suc (suc (suc (length more.1))))) 3 (rw is at e) in
        absurd (omega arith)

    second : (p : Parted 9 line) → (elem 9 p.rest ≡ false) ⊎ Parted 9 p.rest → Goal
    second p (inl f) = absurd (clash (rw (parted_cut p ∙ ap (λ m. p.first ∷ m) (cut_free 9 p.rest f)) at e) refl)
    second p (inr q) = third p q (parted? 9 q.rest)

    go : (elem 9 line ≡ false) ⊎ Parted 9 line → Goal
    go (inl f) = absurd (clash (rw (cut_free 9 line f) at e) refl)
    go (inr p) = second p (parted? 9 p.rest)

-- a line of three fields, the first of them a letter, that a line feed ends
module _ (left : List ℕ) (letter : ℕ) (feed : ended left ≡ true) (count : eqb (length (fields (first_line left))) 3 ≡ true)
    (name : same (field 0 (first_line left)) (letter ∷ []) ≡ true) where
  pub three_of : left ≡ three letter (field 1 (first_line left)) (field 2 (first_line left)) (drop (suc (length (first_line left))) left)
  three_of =
      let line = first_line left in
      let rest = drop (suc (length line)) left in
      let is : line ≡ line_of letter (field 1 line) (field 2 line) =
      fields_line line count ∙ ap (λ f. f ++ 9 ∷ (field 1 line ++ 9 ∷ field 2 line)) (same_eq (field 0 line) (letter ∷ []) name) in
      ended_is left feed ∙ ap (λ l. l ++ 10 ∷ rest) is ∙ three_line letter (field 1 line) (field 2 line) rest

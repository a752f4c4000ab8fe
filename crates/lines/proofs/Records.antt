-- Laws of state lines and transition lines: their labels, flag and letter, and where the label of a state stands in the text.
use Prim.Native.Nat.{ℕ, suc, ◌<◌}
use mathlib.Core.Path.{◌≡◌, refl, ap, ◌∙◌}
use mathlib.Core.Bool.{Bool, true, false, ◌&&◌, ◌||◌}
use mathlib.Core.List.{List, [], ◌∷◌, ◌++◌}
use mathlib.Core.Logic.{◌⊎◌, inl, inr, ◌≢◌}
use lib.Dec.{eqb}
use lib.ListN.{length, get_or, take, drop}
use lib.Seq.{take_at}
use native.Mathlib.Omega.{arith}
use Rattle.graphs.specs.Lists.{elem, same}
use Rattle.graphs.proofs.Tests.{and_cases, not_both, cond_ind}
use Rattle.graphs.proofs.Same.{same_eq}
use Rattle.lines.specs.Line.{cut, fields, field, is_label, S, T, accepting, plain, is_state, is_transition, flag_of}
use Rattle.lines.specs.Found.{first_line, ended}
use Rattle.lines.proofs.Cut.{Parted, parted?, parted_cut, cut_free}
use Rattle.lines.proofs.Lines.{three_of}

and_four : (a b c d : Bool) → (a && b && c && d) ≡ true → (a ≡ true) × (b ≡ true) × (c ≡ true) × (d ≡ true)
and_four a b c d e =
    let three = and_cases (a && b && c) d e in
    let two = and_cases (a && b) c three.0 in
    let one = and_cases a b two.0 in
    (one.0, one.1, two.1, three.1)

-- the tests that a line passed: three fields, the letter, the label, and the last field
abbrev pub Passed : ℕ → (List ℕ → Bool) → List ℕ → Type 0
Passed letter last line =
    (eqb (length (fields line)) 3 ≡ true) × (same (field 0 line) (letter ∷ []) ≡ true)
    × (is_label (field 1 line) ≡ true) × (last (field 2 line) ≡ true)

abbrev pub flagged : List ℕ → Bool
flagged l = same l accepting || same l plain

pub state_passed : (line : List ℕ) → is_state line ≡ true → Passed 83 flagged line
unfolding is_state
state_passed line e = and_four (eqb (length (fields line)) 3) (same (field 0 line) S) (is_label (field 1 line)) (flagged (field 2 line)) e

pub transition_passed : (line : List ℕ) → is_transition line ≡ true → Passed 84 is_label line
unfolding is_transition
transition_passed line e = and_four (eqb (length (fields line)) 3) (same (field 0 line) T) (is_label (field 1 line)) (is_label (field 2 line)) e

pub state_label : (line : List ℕ) → is_state line ≡ true → is_label (field 1 line) ≡ true
state_label line e = (state_passed line e).2

pub transition_from : (line : List ℕ) → is_transition line ≡ true → is_label (field 1 line) ≡ true
transition_from line e = (transition_passed line e).2

pub transition_to : (line : List ℕ) → is_transition line ≡ true → is_label (field 2 line) ≡ true
transition_to line e = (transition_passed line e).3

pub flag_low : (line : List ℕ) → flag_of line < 2
unfolding flag_of
flag_low line = cond_ind (λ n. n < 2) (same (field 2 line) accepting) (λ _. omega arith) (λ _. omega arith)

-- a list begins as its first piece does
cut_begins : (c : ℕ) (l : List ℕ) (x : ℕ) (m : List ℕ) → get_or (cut c l) 0 [] ≡ x ∷ m → (n : List ℕ) × (l ≡ x ∷ n)
cut_begins c l x m e = go (parted? c l)
  where
    go : (elem c l ≡ false) ⊎ Parted c l → (n : List ℕ) × (l ≡ x ∷ n)
    go (inl f) = (m, rw (cut_free c l f) at e)
    go (inr p) =
        let first : p.first ≡ x ∷ m = rw (parted_cut p) at e in
        (m ++ c ∷ p.rest, p.is ∙ ap (λ a. a ++ c ∷ p.rest) first)

letter_first : (left : List ℕ) (letter : ℕ) → same (field 0 (first_line left)) (letter ∷ []) ≡ true → get_or left 0 0 ≡ letter
unfolding first_line
letter_first left letter e =
    let line = cut_begins 9 (first_line left) letter [] (same_eq (field 0 (first_line left)) (letter ∷ []) e) in
    let text = cut_begins 10 left letter line.0 line.1 in
    ap (λ l. get_or l 0 0) text.1

pub letter_state : (left : List ℕ) → get_or left 0 0 ≢ 83 → is_state (first_line left) ≡ false
letter_state left ne = not_both (λ e. ne (letter_first left 83 (state_passed (first_line left) e).1))

pub letter_transition : (left : List ℕ) → get_or left 0 0 ≢ 84 → is_transition (first_line left) ≡ false
letter_transition left ne = not_both (λ e. ne (letter_first left 84 (transition_passed (first_line left) e).1))

pub state_place : (left : List ℕ) → ended left ≡ true → is_state (first_line left) ≡ true
    → take (length (field 1 (first_line left))) (drop 2 left) ≡ field 1 (first_line left)
state_place left feed e =
    let line = first_line left in
    let parts = state_passed line e in
    ap (λ l. take (length (field 1 line)) (drop 2 l)) (three_of left 83 feed parts.0 parts.1)
    ∙ take_at (field 1 line) (9 ∷ (field 2 line ++ 10 ∷ drop (suc (length line)) left)) (length (field 1 line)) refl

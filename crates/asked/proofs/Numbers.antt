-- Laws of words of digits: a word is a number if each byte is a digit and there is one; what it counts; and its digits made numbers.
use Rattle.std.proofs.Common.{◌≡◌, ◌≤◌, ◌<◌, ◌+◌, ◌*◌, ℕ, suc, min, Bool, true, false, List, [], ◌∷◌, map, fold, length, get_or, refl, sym, ap, ◌∙◌, arith, ◌↔◌, IsTrue}
use Rattle.std.proofs.Common.{All, ◌⊎◌, inl, inr, leb, ltb, leb-true, lt-ltb}
use Rattle.std.proofs.lemmas.Grind.{elements, same_number_lists}
use lib.ListN.{length-map}
use native.Mathlib.Nat.{min-eq_left, min-eq_right, le-min}
use Rattle.std.specs.Char.{is_ascii_digit}
use Rattle.graphs.specs.Lists.{all}
use Rattle.graphs.proofs.Tests.{and_cases, clash, not_both, below?}
use Rattle.graphs.proofs.Same.{all_at}
use Rattle.asked.specs.Digits.{is_digit, is_number, digit_of, value_from, count_of, with_digit}

all_so : (f : ℕ → Bool) (l : List ℕ) → All (λ x. IsTrue (f x)) l → all f l ≡ true
unfolding all
all_so f [] h = refl
all_so f (x ∷ l) h = rw (h 0 x (omega arith)) (all_so f l (λ k d below. h (suc k) d (omega arith)))

-- what an iterator's test says of a word that is not empty
pub tested_number : (r : Bool) (word : List ℕ) → IsTrue r ↔ All (λ b. IsTrue (is_ascii_digit b)) word → 0 < length word → r ≡ is_number word
unfolding is_number is_digit
tested_number r [] h some = absurd (omega arith)
tested_number true (b ∷ word) h some = sym (all_so is_ascii_digit (b ∷ word) (h.0 refl))
tested_number false (b ∷ word) h some = sym (not_both (λ e. clash (h.1 (all_at is_ascii_digit (b ∷ word) e)) refl))

pub digit_low : (b : ℕ) → is_digit b ≡ true → (48 ≤ b) × (b ≤ 57)
unfolding is_digit
digit_low b e =
    let parts = and_cases (leb 48 b) (leb b 57) e in
    (leb-true 48 b parts.0, leb-true b 57 parts.1)

pub not_number : (word : List ℕ) (i : ℕ) → i < length word → is_digit (get_or word i 0) ≡ false → is_number word ≡ false
unfolding is_number
not_number [] i h d = refl
not_number (b ∷ word) i h d = not_both (λ e. clash (all_at is_digit (b ∷ word) e i 0 h) d)

pub is_number_lem : (word : List ℕ) → all is_digit word ≡ true → ltb 0 (length word) ≡ is_number word
unfolding is_number
is_number_lem [] e = refl
is_number_lem (b ∷ word) e = rw (e, lt-ltb 0 (length (b ∷ word)) (omega arith))

pub number_digits : (word : List ℕ) → is_number word ≡ true → all is_digit word ≡ true
unfolding is_number
number_digits [] e = absurd (clash e refl)
number_digits (b ∷ word) e = e

pub digits_low : (word : List ℕ) → is_number word ≡ true → All (λ b. (48 ≤ b) × (b ≤ 57)) word
digits_low word number k d below = digit_low (get_or word k d) (all_at is_digit word (number_digits word number) k d below)

-- with one digit more, a count that is not 0 is above 8, for which 9 stands
digit_more : (n b : ℕ) → (48 ≤ b) × (b ≤ 57) → min 9 (10 * n + digit_of b) ≡ with_digit (min 9 n) b
digit_more n b low = go (below? 0 n)
  where
    go : (0 < n) ⊎ (n ≤ 0) → min 9 (10 * n + digit_of b) ≡ with_digit (min 9 n) b
    go (inl h) = rw (min-eq_left {n = 9} {m = 10 * n + digit_of b} (omega arith), lt-ltb 0 (min 9 n) (le-min (omega arith) h))
    go (inr h) =
        let none : n ≡ 0 = omega arith in
        let sum : 10 * n + digit_of b ≡ digit_of b = omega arith in
        rw (sum, none) (min-eq_right {n = digit_of b} {m = 9} (omega (arith, low)))

counted_from : (word : List ℕ) (n : ℕ) → All (λ b. (48 ≤ b) × (b ≤ 57)) word → fold with_digit (min 9 n) word ≡ min 9 (value_from n word)
unfolding value_from
counted_from [] n low = refl
counted_from (b ∷ word) n low =
    ap (λ m. fold with_digit m word) (sym (digit_more n b (low 0 b (omega arith))))
    ∙ counted_from word (10 * n + digit_of b) (λ k d below. low (suc k) d (omega arith))

pub counted : (word : List ℕ) → is_number word ≡ true → fold with_digit 0 word ≡ count_of word
unfolding count_of
counted word number = counted_from word 0 (digits_low word number)

pub all_off : (word after : List ℕ) → length after ≡ length word → ((k : ℕ) → k < length word → get_or after k 0 ≡ digit_of (get_or word k 0))
    → after ≡ map digit_of word
all_off word after long off = same_number_lists after (map digit_of word) (long ∙ sym (length-map word digit_of)) (λ k below. grind (arith, elements))

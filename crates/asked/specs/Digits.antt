-- Words of digits, as bytes.
use Rattle.std.specs.Prelude.{ℕ, ◌+◌, ◌-◌, ◌*◌, min, Bool, false, cond, ◌&&◌, List, [], ◌∷◌, leb, ltb}
use Rattle.graphs.specs.Lists.{all}

-- `0` is 48, `9` is 57
unfoldable pub is_digit : ℕ → Bool
is_digit b = leb 48 b && leb b 57

abbrev pub digit_of : ℕ → ℕ
digit_of b = b - 48

-- one digit or more, and nothing else
unfoldable pub is_number : List ℕ → Bool
is_number [] = false
is_number (b ∷ word) = all is_digit (b ∷ word)

-- the number whose decimal digits follow those of n
unfoldable pub value_from : ℕ → List ℕ → ℕ
value_from n [] = n
value_from n (b ∷ word) = value_from (10 * n + digit_of b) word

-- A worker count: 01 refuses all counts above 8 alike, and 9 stands for them.
unfoldable pub count_of : List ℕ → ℕ
count_of word = min 9 (value_from 0 word)

-- the count with one digit more
abbrev pub with_digit : ℕ → ℕ → ℕ
with_digit n b = cond (ltb 0 n) 9 (digit_of b)

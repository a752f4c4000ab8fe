-- Numbers as decimal digits, and lines of numbers.
use Rattle.std.specs.Prelude.{ℕ, zero, suc, ◌+◌, ◌/◌, ◌%◌, cond, List, [], ◌∷◌, ◌++◌, ltb, codes, flat_map}

-- the byte of a digit: `0` is 48
abbrev pub digit : ℕ → ℕ
digit d = 48 + d

-- the digits of a number that has at most k
unfoldable pub digits : ℕ → ℕ → List ℕ
digits zero n = []
digits (suc k) n = cond (ltb n 10) (digit n ∷ []) (digits k (n / 10) ++ (digit (n % 10) ∷ []))

-- a number of 64 bits has at most 20
unfoldable pub decimal : ℕ → List ℕ
decimal n = digits 20 n

-- 01: "fields parted by one tab"
unfoldable pub field : ℕ → List ℕ
field n = codes "\t" ++ decimal n

abbrev pub fields : List ℕ → List ℕ
fields numbers = flat_map field numbers

-- 01: "each line ended by a line feed"
unfoldable pub numbers_line : List ℕ → List ℕ → List ℕ
numbers_line word numbers = word ++ (fields numbers ++ codes "\n")

-- How long lines are at most: pieces that are joined, and lines of numbers.
use Prim.Native.Nat.{ℕ, ◌+◌, ◌*◌, ◌≤◌}
use mathlib.Core.List.{List, [], ◌∷◌, ◌++◌}
use mathlib.Core.Path.{refl}
use mathlib.Core.Logic.{inl, inr}
use lib.ListN.{length, length-append}
use native.Mathlib.Omega.{arith}
use native.Mathlib.Nat.{suc-mul}
use Rattle.graphs.specs.Lists.{Mem}
use Rattle.std.specs.Prelude.{codes, flat_map}
use Rattle.page.specs.Numbers.{field, fields, numbers_line}
use Rattle.page.proofs.Decimal.{decimal_long}

pub flat_map_long : (f : ℕ → List ℕ) (k : ℕ) (l : List ℕ) → ((x : ℕ) → Mem x l → length (f x) ≤ k) → length (flat_map f l) ≤ length l * k
flat_map_long f k [] h = omega arith
flat_map_long f k (x ∷ l) h =
    let first = h x (inl refl) in
    let rest = flat_map_long f k l (λ y m. h y (inr m)) in
    let both = length-append (f x) (flat_map f l) in
    let more = suc-mul (length l) k in
    omega (arith, first, rest, both, more)

field_long : (n : ℕ) → length (field n) ≤ 21
unfolding field
field_long n = let long = decimal_long n in omega (arith, long)

pub fields_long : (numbers : List ℕ) → length (fields numbers) ≤ length numbers * 21
fields_long numbers = flat_map_long field 21 numbers (λ n m. field_long n)

pub numbers_long : (word numbers : List ℕ) → length (numbers_line word numbers) ≤ length word + length numbers * 21 + 1
unfolding numbers_line
numbers_long word numbers =
    let long = fields_long numbers in
    let end = length-append (fields numbers) (codes "\n") in
    let all = length-append word (fields numbers ++ codes "\n") in
    omega (arith, long, end, all)

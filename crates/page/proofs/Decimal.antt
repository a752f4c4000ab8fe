-- Laws of decimal digits: a number below 10 is one digit; any other of 64 bits is its tenth part and one digit more.
use Prim.Native.Nat.{ℕ, zero, suc, ◌/◌, ◌%◌, ◌^◌, ◌<◌, ◌≤◌}
use mathlib.Core.Path.{◌≡◌, sym, ap, ◌∙◌}
use mathlib.Core.Bool.{Bool, true, false, cond}
use mathlib.Core.List.{[], ◌∷◌, ◌++◌}
use mathlib.Core.Logic.{◌⊎◌, inl, inr}
use lib.Dec.{ltb}
use lib.ListN.{length, length-append}
use native.Mathlib.Nat.{pow-suc}
use native.Mathlib.Omega.{arith}
use borrow.Author.Tests.{lt-ltb, le-ltb}
use Rattle.graphs.proofs.Tests.{below?}
use Rattle.page.specs.Numbers.{digit, digits, decimal}
use Rattle.page.proofs.Written as Written

digits_one : (k n : ℕ) → n < 10 → digits (suc k) n ≡ digit n ∷ []
unfolding digits
digits_one k n h = rw (lt-ltb n 10 h)

digits_step : (k n : ℕ) → 10 ≤ n → digits (suc k) n ≡ digits k (n / 10) ++ (digit (n % 10) ∷ [])
unfolding digits
digits_step k n h = rw (le-ltb n 10 h)

-- one place more changes nothing where the places suffice
digits_more : (k n : ℕ) → n < 10 ^ suc k → digits (suc (suc k)) n ≡ digits (suc k) n
digits_more zero n h = digits_one 1 n (omega (arith, h)) ∙ sym (digits_one 0 n (omega (arith, h)))
digits_more (suc k) n h = go (digits_more k (n / 10)) (below? n 10)
  where
    go : (n / 10 < 10 ^ suc k → digits (suc (suc k)) (n / 10) ≡ digits (suc k) (n / 10)) → (n < 10) ⊎ (10 ≤ n)
        → digits (suc (suc (suc k))) n ≡ digits (suc (suc k)) n
    go more (inl low) = digits_one (suc (suc k)) n low ∙ sym (digits_one (suc k) n low)
    go more (inr high) =
        let tenth : n / 10 < 10 ^ suc k = let r = rw (pow-suc 10 (suc k)) at h in omega (arith, r) in
        digits_step (suc (suc k)) n high ∙ ap (λ l. l ++ (digit (n % 10) ∷ [])) (more tenth) ∙ sym (digits_step (suc k) n high)

pub decimal_more : (n : ℕ) → n < 2 ^ 64 → 10 ≤ n → decimal n ≡ decimal (n / 10) ++ (digit (n % 10) ∷ [])
unfolding decimal
decimal_more n h high =
    digits_step 19 n high ∙ ap (λ l. l ++ (digit (n % 10) ∷ [])) (sym (digits_more 18 (n / 10) (omega (arith, h))))

-- the last digit is the only one
pub decimal_one : (n : ℕ) → n < 10 → decimal n ≡ digit (n % 10) ∷ []
unfolding decimal
decimal_one n h = let last : n ≡ n % 10 = omega arith in digits_one 19 n h ∙ ap (λ d. digit d ∷ []) last

digits_long : (k n : ℕ) → length (digits k n) ≤ k
unfolding digits
digits_long zero n = omega arith
digits_long (suc k) n = go (ltb n 10) (digits_long k (n / 10))
  where
    go : (b : Bool) → length (digits k (n / 10)) ≤ k → length (cond b (digit n ∷ []) (digits k (n / 10) ++ (digit (n % 10) ∷ []))) ≤ suc k
    go true rest = omega arith
    go false rest = let long = length-append (digits k (n / 10)) (digit (n % 10) ∷ []) in omega (arith, rest, long)

pub decimal_long : (n : ℕ) → length (decimal n) ≤ 20
unfolding decimal
decimal_long n = digits_long 20 n

-- what a check uses where the digits of a number are written
pub ruleset laws = (Written.laws, decimal_more, decimal_one)

-- Laws of tests: a test that holds is written `b ≡ true`, and one that fails `b ≡ false`.
use Rattle.std.proofs.Common.{ℕ, ◌<◌, ◌≤◌, ◌≡◌, refl, Bool, true, false, cond, ◌&&◌, ◌||◌, ◌⊎◌, inl, inr, ◌≢◌, eqb, ltb, eqb-true, ltb-true}
use Rattle.std.proofs.Common.{ltb-false, arith}
use borrow.Author.Tests.{eqb-false}

pub either : (b : Bool) → (b ≡ true) ⊎ (b ≡ false)
either true = inl refl
either false = inr refl

pub clash : {b : Bool} → b ≡ true → b ≡ false → ⊥
clash {b} p q = let z : ◌≡◌ {A = ℕ} 0 1 = cc in omega arith

pub not_both : {b : Bool} → (b ≡ true → ⊥) → b ≡ false
not_both {b = true} h = absurd (h refl)
not_both {b = false} h = refl

pub or_left : (a b : Bool) → (a || b) ≡ false → a ≡ false
or_left true b e = e
or_left false b e = refl

pub or_right : (a b : Bool) → (a || b) ≡ false → b ≡ false
or_right true b e = absurd (clash refl e)
or_right false b e = e

pub or_cases : (a b : Bool) → (a || b) ≡ true → (a ≡ true) ⊎ (b ≡ true)
or_cases true b e = inl refl
or_cases false b e = inr e

pub or_inl : (a b : Bool) → a ≡ true → (a || b) ≡ true
or_inl a b e = rw e

pub or_inr : (a b : Bool) → b ≡ true → (a || b) ≡ true
or_inr true b e = refl
or_inr false b e = e

pub and_cases : (a b : Bool) → (a && b) ≡ true → (a ≡ true) × (b ≡ true)
and_cases true b e = (refl, e)
and_cases false b e = absurd (clash e refl)

-- what holds of both arms, each under its test, holds of the choice
pub cond_ind {ℓ κ} : {A : Type ℓ} (Q : A → Type κ) (b : Bool) {x y : A} → (b ≡ true → Q x) → (b ≡ false → Q y) → Q (cond b x y)
cond_ind Q true so else_so = so refl
cond_ind Q false so else_so = else_so refl

-- two numbers are the same or not
pub same? : (i j : ℕ) → (i ≡ j) ⊎ (i ≢ j)
same? i j = go (either (eqb i j))
  where
    go : (eqb i j ≡ true) ⊎ (eqb i j ≡ false) → (i ≡ j) ⊎ (i ≢ j)
    go (inl e) = inl (eqb-true i j e)
    go (inr e) = inr (eqb-false i j e)

-- a number is below n or not
pub below? : (i n : ℕ) → (i < n) ⊎ (n ≤ i)
below? i n = go (either (ltb i n))
  where
    go : (ltb i n ≡ true) ⊎ (ltb i n ≡ false) → (i < n) ⊎ (n ≤ i)
    go (inl e) = inl (ltb-true i n e)
    go (inr e) = inr (ltb-false i n e)

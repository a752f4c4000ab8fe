-- Laws of `upd`: a function changed at one place. `upd_ind` says everything of the changed function from what holds there and elsewhere.
use Rattle.std.proofs.Common.{ℕ, ◌≡◌, refl, subst, Bool, true, false, not, ◌⊎◌, inl, inr, ◌≢◌, eq-eqb, ne_eqb}
use Rattle.graphs.specs.Lists.{upd}
use Rattle.graphs.proofs.Tests.{same?, clash}

pub upd_same {ℓ} : {A : Type ℓ} (f : ℕ → A) (i : ℕ) (v : A) → upd f i v i ≡ v
unfolding upd
upd_same f i v = rw (eq-eqb i i refl)

pub upd_other {ℓ} : {A : Type ℓ} (f : ℕ → A) (i : ℕ) (v : A) (j : ℕ) → j ≢ i → upd f i v j ≡ f j
unfolding upd
upd_other f i v j h = rw (ne_eqb j i h)

pub upd_ind {ℓ κ} : {A : Type ℓ} (Q : ℕ → A → Type κ) (f : ℕ → A) (i : ℕ) (v : A)
    → Q i v → ((j : ℕ) → j ≢ i → Q j (f j)) → (j : ℕ) → Q j (upd f i v j)
upd_ind Q f i v here there j = go (same? j i)
  where
    go : (j ≡ i) ⊎ (j ≢ i) → Q j (upd f i v j)
    go (inl e) = rw (e, upd_same f i v) here
    go (inr ne) = rw (upd_other f i v j ne) (there j ne)

-- if some place had Q, some place of the changed function has R
pub upd_some {ℓ κ} : {A : Type ℓ} (Q R : A → Type κ) (f : ℕ → A) (i : ℕ) (v : A)
    → (Q (f i) → R v) → ((a : A) → Q a → R a) → (j : ℕ) → Q (f j) → (k : ℕ) × R (upd f i v k)
upd_some Q R f i v here there j q = go (same? j i)
  where
    go : (j ≡ i) ⊎ (j ≢ i) → (k : ℕ) × R (upd f i v k)
    go (inl e) = (i, rw (upd_same f i v) (here (subst (λ k. Q (f k)) e q)))
    go (inr ne) = (j, rw (upd_other f i v j ne) (there (f j) q))

-- sets as functions to Bool: what a place put in, or taken out, leaves of the rest
pub upd_was : (f : ℕ → Bool) (i j : ℕ) (b : Bool) → upd f i b j ≡ not b → f j ≡ not b
upd_was f i j b = upd_ind (λ k a. a ≡ not b → f k ≡ not b) f i b (differ b) (λ k ne e. e) j
  where
    differ : (c : Bool) → c ≡ not c → f i ≡ not c
    differ true e = absurd (clash refl e)
    differ false e = absurd (clash e refl)

pub upd_up : (f : ℕ → Bool) (i j : ℕ) → f j ≡ true → upd f i true j ≡ true
upd_up f i j = upd_ind (λ k a. f k ≡ true → a ≡ true) f i true (λ e. refl) (λ k ne e. e) j

pub upd_down : (f : ℕ → Bool) (i j : ℕ) → f j ≡ false → upd f i false j ≡ false
upd_down f i j = upd_ind (λ k a. f k ≡ false → a ≡ false) f i false (λ e. refl) (λ k ne e. e) j

pub upd_cases : (f : ℕ → Bool) (i j : ℕ) → upd f i true j ≡ true → (j ≡ i) ⊎ (f j ≡ true)
upd_cases f i j = upd_ind (λ k a. a ≡ true → (k ≡ i) ⊎ (f k ≡ true)) f i true (λ e. inl refl) (λ k ne e. inr e) j

pub upd_off : (f : ℕ → Bool) (i j : ℕ) → f j ≡ true → (j ≡ i) ⊎ (upd f i false j ≡ true)
upd_off f i j = upd_ind (λ k a. f k ≡ true → (k ≡ i) ⊎ (a ≡ true)) f i false (λ e. inl refl) (λ k ne e. inr e) j

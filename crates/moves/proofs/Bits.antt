-- Laws of `bits`, the words of a set below n: their number, one store for one change, that equal words come from equal sets and give them, and the
-- words of no state and of one.
use Rattle.std.proofs.Common.{ℕ, ◌<◌, ◌≡◌, refl, sym, ◌∙◌, ap, Bool, true, false, eqb, length, set, replicate, eq-eqb, ne_eqb}
use lib.ListN.{length-replicate, get_or-replicate}
use Rattle.graphs.specs.Lists.{upd}
use Rattle.graphs.proofs.Change.{upd_same, upd_other, upd_ind}
use Rattle.graphs.proofs.Tab.{tab_long, tab_is, tab_ext, tab_same, tab_upd}
use Rattle.moves.specs.Machine.{empty}
use Rattle.moves.specs.Changes.{only}
use Rattle.moves.specs.Room.{bit, bits}

bit_one : (a b : Bool) → bit a ≡ bit b → a ≡ b
bit_one true true e = refl
bit_one true false e = cc
bit_one false true e = cc
bit_one false false e = refl

module _ (n : ℕ) where
  pub bits_long : (f : ℕ → Bool) → length (bits n f) ≡ n
  bits_long f = tab_long 0 n (λ s. bit (f s))

  pub bits_ext : (f h : ℕ → Bool) → ((s : ℕ) → s < n → f s ≡ h s) → bits n f ≡ bits n h
  bits_ext f h e = tab_ext n (λ s. bit (f s)) (λ s. bit (h s)) (λ s k. ap bit (e s k))

  pub bits_same : (f h : ℕ → Bool) → bits n f ≡ bits n h → (s : ℕ) → s < n → f s ≡ h s
  bits_same f h e s k = bit_one (f s) (h s) (tab_same n (λ t. bit (f t)) (λ t. bit (h t)) e s k)

  pub bits_upd : (f : ℕ → Bool) (s : ℕ) (b : Bool) → s < n → bits n (upd f s b) ≡ set (bits n f) s (bit b)
  bits_upd f s b h = tab_ext n (λ t. bit (upd f s b t)) (upd (λ t. bit (f t)) s (bit b)) (λ t k. each t) ∙ tab_upd n (λ t. bit (f t)) s (bit b) h
    where
      each : (t : ℕ) → bit (upd f s b t) ≡ upd (λ i. bit (f i)) s (bit b) t
      each = upd_ind (λ t a. bit a ≡ upd (λ i. bit (f i)) s (bit b) t) f s b (sym (upd_same _ s _)) (λ t ne. sym (upd_other _ s _ t ne))

-- the words of no state, and of one state put where none is
pub bits_empty : (n : ℕ) → bits n empty ≡ replicate n 0
bits_empty n = tab_is n 0 (λ s. 0) (replicate n 0) (length-replicate n 0) (λ s h. sym (get_or-replicate n s 0 0 h))

pub bits_only : (n : ℕ) (r : ℕ → Bool) (s : ℕ) → ((x : ℕ) → r x ≡ false) → bits n (upd r s true) ≡ bits n (only s)
unfolding only
bits_only n r s none =
    bits_ext n (upd r s true) (only s)
    (λ x h. upd_ind (λ y b. b ≡ eqb y s) r s true (sym (eq-eqb s s refl)) (λ y ne. none y ∙ sym (ne_eqb y s ne)) x)

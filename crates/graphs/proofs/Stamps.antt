-- The table of stamps: going through the targets of one source and stamping each finds a stamped one exactly if the targets repeat.
use Rattle.std.proofs.Common.{ℕ, zero, suc, ◌+◌, ◌-◌, ◌<◌, ◌≤◌, min, ◌≡◌, refl, ◌∙◌, Bool, true, false, not, ◌&&◌, List, [], ◌∷◌, ◌⊎◌, inl, inr, ◌≢◌, eqb}
use Rattle.std.proofs.Common.{length, get_or, take, drop, set, replicate, length-take, length-drop, drop_of_length-le, drop-cons, get_or-set_same}
use Rattle.std.proofs.Common.{get_or-set_other, get_or-take, get_or-drop, arith, add-one, eq-eqb, ne_eqb}
use mathlib.Core.Path.{fun_ext}
use borrow.Author.Tests.{not-true}
use Rattle.graphs.specs.Lists.{Mem, Once, upd, repeats}
use Rattle.graphs.proofs.Tests.{either, clash, same?, not_both, and_cases}
use Rattle.graphs.proofs.Change.{upd_same, upd_other, upd_was}
use Rattle.graphs.proofs.Once.{once_repeats, repeats_once}

-- nothing in the list was seen before or stands in it twice: the way the code finds it
unfoldable pub unseen : (ℕ → Bool) → List ℕ → Bool
unseen seen [] = true
unseen seen (x ∷ l) = not (seen x) && unseen (upd seen x true) l

-- the places of the table that have the stamp
unfoldable pub stamped : List ℕ → ℕ → ℕ → Bool
stamped table stamp x = eqb (get_or table x 0) stamp

unseen_once : (seen : ℕ → Bool) (l : List ℕ) → unseen seen l ≡ true → Once l × ((x : ℕ) → Mem x l → seen x ≡ false)
unfolding unseen
unseen_once seen [] e = (tt, λ x m. absurd m)
unseen_once seen (y ∷ l) e = go (and_cases (not (seen y)) (unseen (upd seen y true) l) e) (unseen_once (upd seen y true) l)
  where
    go : (not (seen y) ≡ true) × (unseen (upd seen y true) l ≡ true)
        → (unseen (upd seen y true) l ≡ true → Once l × ((x : ℕ) → Mem x l → upd seen y true x ≡ false))
        → Once (y ∷ l) × ((x : ℕ) → Mem x (y ∷ l) → seen x ≡ false)
    go t rest =
        let r = rest t.1 in
        ((λ m. clash (upd_same seen y true) (r.1 y m), r.0), λ x m. old x m (r.1 x))
      where
        old : (x : ℕ) → Mem x (y ∷ l) → (Mem x l → upd seen y true x ≡ false) → seen x ≡ false
        old x (inl q) h = rw q (not-true (seen y) t.0)
        old x (inr m) h = upd_was seen y x true (h m)

once_unseen : (seen : ℕ → Bool) (l : List ℕ) → Once l → ((x : ℕ) → Mem x l → seen x ≡ false) → unseen seen l ≡ true
unfolding unseen
once_unseen seen [] o h = refl
once_unseen seen (y ∷ l) o h = rw (h y (inl refl)) (once_unseen (upd seen y true) l o.1 (λ x m. upd_other seen y true x (λ e. o.0 (rw e at m)) ∙ h x (inr m)))

pub unseen_repeats : (seen : ℕ → Bool) (l : List ℕ) → ((x : ℕ) → seen x ≡ false) → unseen seen l ≡ not (repeats l)
unseen_repeats seen l none = go (either (repeats l))
  where
    go : (repeats l ≡ true) ⊎ (repeats l ≡ false) → unseen seen l ≡ not (repeats l)
    go (inl e) = rw e (not_both (λ u. clash e (once_repeats l (unseen_once seen l u).0)))
    go (inr e) = rw e (once_unseen seen l (repeats_once l e) (λ x m. none x))

-- the target at i has been seen; it has not, and is seen from now on; there is none
module _ (seen : ℕ → Bool) (l : List ℕ) (i : ℕ) where
  pub unseen_hit : i < length l → seen (get_or l i 0) ≡ true → unseen seen (drop i l) ≡ false
  unfolding unseen
  unseen_hit h e = rw (drop-cons l i 0 h, e)

  pub unseen_step : i < length l → seen (get_or l i 0) ≡ false → unseen seen (drop i l) ≡ unseen (upd seen (get_or l i 0) true) (drop (i + 1) l)
  unfolding unseen
  unseen_step h e = rw (add-one, drop-cons l i 0 h, e)

  pub unseen_end : length l ≤ i → unseen seen (drop i l) ≡ true
  unfolding unseen
  unseen_end h = rw (drop_of_length-le l h)

-- a stamp put at one place
pub stamped_set : (table : List ℕ) (stamp t : ℕ) → t < length table → stamped (set table t stamp) stamp ≡ upd (stamped table stamp) t true
unfolding stamped
stamped_set table stamp t h = fun_ext (λ x. go x (same? x t))
  where
    go : (x : ℕ) → (x ≡ t) ⊎ (x ≢ t) → eqb (get_or (set table t stamp) x 0) stamp ≡ upd (λ y. eqb (get_or table y 0) stamp) t true x
    go x (inl e) = rw (e, upd_same (λ y. eqb (get_or table y 0) stamp) t true, get_or-set_same table t stamp 0 h) (eq-eqb stamp stamp refl)
    go x (inr ne) = rw (upd_other (λ y. eqb (get_or table y 0) stamp) t true x ne, get_or-set_other table t x stamp 0 ne)

pub stamped_none : (table : List ℕ) (stamp : ℕ) → ((x : ℕ) → get_or table x 0 < stamp) → (x : ℕ) → stamped table stamp x ≡ false
unfolding stamped
stamped_none table stamp low x = ne_eqb (get_or table x 0) stamp (λ e. omega (arith, low x))

-- a bound on what a table holds, after one store
pub set_bound : (table : List ℕ) (t v b : ℕ) → v < b → ((x : ℕ) → get_or table x 0 < b) → (x : ℕ) → get_or (set table t v) x 0 < b
set_bound [] t v b h low x = low x
set_bound (y ∷ l) zero v b h low zero = h
set_bound (y ∷ l) zero v b h low (suc x) = low (suc x)
set_bound (y ∷ l) (suc t) v b h low zero = low zero
set_bound (y ∷ l) (suc t) v b h low (suc x) = set_bound l t v b h (λ k. low (suc k)) x

-- a table of zeroes
pub zeroes_at : (n x : ℕ) → ◌≡◌ {A = ℕ} (get_or (replicate n 0) x 0) 0
zeroes_at zero x = refl
zeroes_at (suc n) zero = refl
zeroes_at (suc n) (suc x) = zeroes_at n x

-- a bound on the words of a list holds of any part of it
pub part_below : (words : List ℕ) (a k bound : ℕ) → ((j : ℕ) → j < length words → get_or words j 0 < bound)
    → (i : ℕ) → i < length (take k (drop a words)) → get_or (take k (drop a words)) i 0 < bound
part_below words a k bound low i h =
    let long : i < min k (length words - a) = rw (length-take, length-drop) at h in
    rw (get_or-take k (drop a words) i 0 (omega arith), get_or-drop a words i 0) (low (a + i) (omega arith))

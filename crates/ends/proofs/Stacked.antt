-- What `Stacked` says of the depths of the stacks that the code reads; and that two copies make of the lasso room
-- what `lasso_in` says.
use Prim.Native.Nat.{ℕ, ◌+◌, ◌-◌, ◌*◌, ◌≤◌}
use mathlib.Core.Path.{◌≡◌, refl}
use mathlib.Core.List.{List, ◌++◌}
use lib.ListN.{length, take, drop, length-take, length-drop}
use lib.Seq.{take_at, drop_at, drop-drop}
use native.Mathlib.Nat.{add-sub_cancel_left}
use native.Mathlib.Omega.{arith}
use borrow.Rule.Slice.PartMut.{put_mid}
use Rattle.ends.specs.declared.Outcome.TheVariants.{Cycle}
use Rattle.ends.specs.Lasso.{Stacked, outer_depth, inner_depth, place_down, lasso_in, found_in}
use Rattle.ends.proofs.Down.{place_in}

-- x words are copied to the front, and y after them
copied_twice : (front next lasso : List ℕ) (x y : ℕ) → length front ≡ x
    → put_mid x (x + y - x) (front ++ drop x lasso) next ≡ front ++ (next ++ drop (x + y) lasso)
copied_twice front next lasso x y e =
    rw (take_at front (drop x lasso) x e, drop_at front (drop x lasso) x e, add-sub_cancel_left x y, drop-drop y x lasso)

-- the stretch starts at s, which the code has as a
module _ {n s a : ℕ} {l lasso : List ℕ} (stacked : Stacked n s l lasso) (start : a ≡ s) where
  module _ {outer inner : ℕ} (o : outer ≡ outer_depth n s l) (i : inner ≡ inner_depth n s l) where
    abbrev outer_at : ℕ
    outer_at = a + 2 * n

    abbrev inner_at : ℕ
    inner_at = a + 3 * n + 1

    abbrev outer_part : List ℕ
    outer_part = take (outer_at + outer - outer_at) (drop outer_at l)

    abbrev inner_part : List ℕ
    inner_part = take (inner_at + (inner - 1) - inner_at) (drop inner_at l)

    outer_long : length outer_part ≡ outer
    outer_long =
        let fits : outer ≤ n = rw o stacked.outer_fits in
        simp (length-take, length-drop) (omega (arith, stacked.inside, fits, start))

    pub stacked_stem : (x : ℕ) {stem : ℕ} → stem ≡ place_down (length outer_part) x outer_part → stem ≤ outer
    stacked_stem x e = rw outer_long at (place_in x outer_part e)

    pub stacked_lasso : {front next : List ℕ} → front ≡ outer_part → next ≡ inner_part
        → put_mid outer (outer + (inner - 1) - outer) (front ++ drop outer lasso) next ≡ lasso_in n s l lasso
    unfolding lasso_in
    stacked_lasso f g =
        let copied = copied_twice outer_part inner_part lasso outer (inner - 1) outer_long in
        rw (← o, ← i, ← start, f, g, copied, add-sub_cancel_left outer_at outer, add-sub_cancel_left inner_at (inner - 1)) refl

    pub stacked_found : (x used : ℕ) {stem : ℕ} → stem ≡ place_down (length outer_part) x outer_part
        → Cycle stem (outer + (inner - 1) - stem) used ≡ found_in n s x used l
    unfolding found_in
    stacked_found x used e = rw (← o, ← i, ← start, e, add-sub_cancel_left outer_at outer) refl

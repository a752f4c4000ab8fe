-- What a move stores in its worker's stretch makes it the stretch of the worker after the move: a law for each move.
use Prim.Native.Nat.{ℕ, ◌-◌, ◌<◌, ◌≤◌}
use mathlib.Core.Path.{◌≡◌, refl}
use mathlib.Core.Bool.{Bool, false}
use mathlib.Core.List.{List, [], ◌∷◌}
use lib.Dec.{eqb}
use lib.ListN.{length}
use borrow.Author.Tests.{ne_eqb}
use native.Mathlib.Numerals.{add-one}
use native.Mathlib.Omega.{arith}
use Rattle.moves.specs.declared.Place.{Place}
use Rattle.moves.specs.declared.Place.TheVariants.{Fresh, Outer, Inner, Waiting}
use Rattle.moves.specs.Place.{left, painted}
use Rattle.moves.specs.Machine.{Worker, empty}
use Rattle.moves.specs.Changes.{is_empty, starts, takes, enters, pops, seeds, joins, backs}
use Rattle.moves.specs.Room.{span, Fits}
use Rattle.moves.specs.Own.{own_of}
use Rattle.turn.specs.Stores.{start_words, take_words, enter_words, pop_words, leave_words, seed_words, join_words, back_words, paint_words}
use Rattle.turn.proofs.Form.{form, span_form, form_cyan_on, form_cyan_off, form_R_on, form_only, form_clear}
use Rattle.turn.proofs.Form.{form_outer_push, form_outer_pop, form_outer_first, form_inner_push, form_inner_pop, form_inner_first}
use Rattle.turn.proofs.Form.{form_taken, form_count, form_last, form_put}

-- a stack's depth tells whether it is empty, and whether it is so without its top
depth_none : (u : List ℕ) → eqb (length u) 0 ≡ is_empty u
depth_none [] = refl
depth_none (x ∷ u) = ne_eqb (length (x ∷ u)) 0 (λ e. omega arith)

depth_one : (s : ℕ) (u : List ℕ) → eqb (length (s ∷ u)) 1 ≡ is_empty u
depth_one s [] = refl
depth_one s (x ∷ u) = ne_eqb (length (s ∷ x ∷ u)) 1 (λ e. omega arith)

module _ (n : ℕ) (w : Worker) (fits : Fits n w) where
  -- move 1
  pub start_span : 0 < n → w.place ≡ Fresh → w.outer ≡ [] → start_words n (own_of w) (span n w) ≡ span n (starts w)
  unfolding start_words
  start_span some place outer =
      let before : length {A = ℕ} [] ≤ n = omega arith in
      let after : length {A = ℕ} (0 ∷ []) ≤ n = some in
      let i = fits.inner_fits in
      rw (span_form n w, span_form n (starts w), place, outer, form_cyan_on, form_outer_first, form_put)

  -- moves 2 and 4, where a successor is taken and nothing else changes
  pub take_span : (s : ℕ) → s < n → take_words n s (span n w) ≡ span n (takes w s)
  unfolding take_words
  take_span s h =
      let o = fits.outer_fits in
      let i = fits.inner_fits in
      rw (span_form n w, span_form n (takes w s), form_count, form_taken, add-one)

  -- move 2
  pub enter_span : (s x : ℕ) → s < n → x < n → length w.outer < n → enter_words n (own_of w) s x (span n w) ≡ span n (enters w s x)
  unfolding enter_words
  enter_span s x hs hx room =
      let o = fits.outer_fits in
      let i = fits.inner_fits in
      rw (take_span s hs, span_form n (takes w s), span_form n (enters w s x), form_cyan_on, form_outer_push, form_last, add-one)

  -- the outer stack's top leaves it, whatever the place, R and the last four words were
  pop_span : (s : ℕ) (u : List ℕ) (p q : Place) (r : ℕ → Bool) (a b c d : ℕ) → s < n → w.outer ≡ s ∷ u
      → pop_words n (record { place = p; outer = length w.outer; inner = length w.inner }) s q
      (form n w.cyan r w.outer w.inner w.taken (a ∷ b ∷ c ∷ d ∷ []))
      ≡ span n (pops w s u q r)
  unfolding pop_words
  pop_span s u p q r a b c d h outer =
      let before : length (s ∷ u) ≤ n = rw outer at fits.outer_fits in
      let after : length u ≤ n = omega arith in
      let i = fits.inner_fits in
      let depth : length (s ∷ u) - 1 ≡ length u = omega arith in
      rw (span_form n (pops w s u q r), outer, depth, form_cyan_off, form_outer_pop, form_taken, form_put)

  -- move 3, not accepting
  pub leave_span : (s : ℕ) (u : List ℕ) → s < n → w.place ≡ Outer → w.outer ≡ s ∷ u
      → leave_words n (own_of w) s (span n w) ≡ span n (pops w s u (left Outer (is_empty u)) w.R)
  unfolding leave_words
  leave_span s u h place outer =
      let last : eqb (length w.outer) 1 ≡ is_empty u = rw outer (depth_one s u) in
      rw (span_form n w, place, last) (pop_span s u Outer (left Outer (is_empty u)) w.R _ _ _ _ h outer)

  -- move 3, accepting
  pub seed_span : (s : ℕ) → s < n → w.place ≡ Outer → w.inner ≡ [] → ((x : ℕ) → w.R x ≡ false)
      → seed_words n (own_of w) s (span n w) ≡ span n (seeds w s)
  unfolding seed_words
  seed_span s h place inner none =
      let some : 0 < n = omega arith in
      let o = fits.outer_fits in
      let before : length {A = ℕ} [] ≤ n = omega arith in
      let after : length {A = ℕ} (s ∷ []) ≤ n = some in
      rw (span_form n w, span_form n (seeds w s), place, inner, form_R_on, form_inner_first, form_taken, form_put, form_only)

  -- move 4
  pub join_span : (s x : ℕ) → s < n → x < n → length w.inner < n → join_words n (own_of w) s x (span n w) ≡ span n (joins w s x)
  unfolding join_words
  join_span s x hs hx room =
      let o = fits.outer_fits in
      let i = fits.inner_fits in
      rw (take_span s hs, span_form n (takes w s), span_form n (joins w s x), form_R_on, form_inner_push, form_last, add-one)

  -- move 5
  pub back_span : (z s : ℕ) (u : List ℕ) → s < n → w.place ≡ Inner z → w.inner ≡ s ∷ u
      → back_words n (own_of w) s (span n w) ≡ span n (backs w z s u)
  unfolding back_words
  back_span z s u h place inner =
      let o = fits.outer_fits in
      let before : length (s ∷ u) ≤ n = rw inner at fits.inner_fits in
      let after : length u ≤ n = omega arith in
      let depth : length (s ∷ u) - 1 ≡ length u = omega arith in
      rw (span_form n w, span_form n (backs w z s u), place, inner, depth, depth_none u, form_inner_pop, form_taken, form_put)

  -- move 6
  pub paint_span : (z : ℕ) (u : List ℕ) → z < n → w.place ≡ Waiting z → w.outer ≡ z ∷ u
      → paint_words n (own_of w) z (span n w) ≡ span n (pops w z u (painted (Waiting z) (is_empty u)) empty)
  unfolding paint_words
  paint_span z u h place outer =
      let o = fits.outer_fits in
      let i = fits.inner_fits in
      let last : eqb (length w.outer) 1 ≡ is_empty u = rw outer (depth_one z u) in
      rw (span_form n w, place, last, form_clear) (pop_span z u (Waiting z) (painted (Waiting z) (is_empty u)) empty _ _ _ _ h outer)

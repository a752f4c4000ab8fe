-- The words of a worker's stacks in the room are stem and loop, bottom first; and the room holds them as `show` asks.
use Prim.Native.Nat.{ℕ, zero, suc, ◌+◌, ◌-◌, ◌*◌, ◌<◌, ◌≤◌}
use mathlib.Core.Path.{◌≡◌, refl, sym, ap, ◌∙◌}
use mathlib.Core.Bool.{Bool, true, false, cond}
use mathlib.Core.List.{List, [], ◌∷◌, ◌++◌, append_assoc, reverse, reverse-append}
use lib.Dec.{eqb}
use lib.ListN.{length, get_or, take, drop, length-append, length-take, length-drop, length-reverse, get_or-append}
use lib.Seq.{ext_get_or, get_or-take, get_or-drop, take-nil, drop-drop}
use native.Mathlib.Omega.{arith}
use Rattle.moves.specs.Machine.{Worker, Machine}
use Rattle.moves.specs.Room.{pile, span, stretch, stretch_at}
use Rattle.moves.specs.Run.{cycle, below, down_to, stem_of, loop_of}
use Rattle.moves.proofs.Stretch.{stretch_inside}
use Rattle.moves.proofs.Words.{Seen, own_word, outer_at, inner_at, last_at, long}
use Rattle.std.specs.Prelude.{Ok}
use Rattle.ends.specs.Told.{told, tells_of, shown}
use Rattle.ends.specs.Lasso.{Stacked, outer_depth, inner_depth, outer_words, inner_words, place_down, lasso_in, found_in}
use Rattle.ends.proofs.Down.{place_below}

-- the part of a stack from its top down to c, and the part below c, are all of it
pub parted : (c : ℕ) (l : List ℕ) → down_to c l ++ below c l ≡ l
unfolding down_to below
parted c [] = refl
parted c (x ∷ l) = go (eqb x c) (parted c l)
  where
    go : (b : Bool) → down_to c l ++ below c l ≡ l → cond b (x ∷ []) (x ∷ down_to c l) ++ cond b l (below c l) ≡ x ∷ l
    go true e = refl
    go false e = ap (λ k. x ∷ k) e

parted_long : (c : ℕ) (l : List ℕ) → length (down_to c l) + length (below c l) ≡ length l
parted_long c l = sym (length-append (down_to c l) (below c l)) ∙ ap length (parted c l)

-- the first of a list left out before or after its first k are taken
take_later : (k : ℕ) (l : List ℕ) → take (k - 1) (drop 1 l) ≡ drop 1 (take k l)
take_later zero l = refl
take_later (suc k) [] = take-nil (suc k - 1)
take_later (suc k) (x ∷ l) = let e : suc k - 1 ≡ k = omega arith in rw e

module _ (n P p : ℕ) (h : p < P) (m : Machine) (rest l : List ℕ) (seen : Seen n P m rest l) where
  abbrev w : Worker
  w = m.worker p

  abbrev a : ℕ
  a = stretch_at n p

  inside : a + stretch n ≤ length l
  inside = stretch_inside n P p (length l) h (omega (arith, long n P m rest l seen))

  -- the word i of the stretch
  own : (at i : ℕ) → at + i < stretch n → get_or l (a + at + i) 0 ≡ get_or (span n w) (at + i) 0
  own at i k = let e : a + at + i ≡ a + (at + i) = omega arith in rw e (own_word n P p h m rest l seen (at + i) k)

  pub outer_depth_lem : outer_depth n a l ≡ length w.outer
  outer_depth_lem = own (5 * n) 2 (omega arith) ∙ last_at n w (seen.fits p h) 2

  pub inner_depth_lem : inner_depth n a l ≡ length w.inner
  inner_depth_lem = own (5 * n) 3 (omega arith) ∙ last_at n w (seen.fits p h) 3

  -- a stack whose words start at a place of the stretch
  stack_words : (at : ℕ) (o : List ℕ) → at + n ≤ stretch n → length o ≤ n
      → ((i : ℕ) → i < n → get_or (span n w) (at + i) 0 ≡ get_or (pile n o) i 0) → take (length o) (drop (a + at) l) ≡ reverse o
  unfolding pile
  stack_words at o fits low e =
      let taken : length (take (length o) (drop (a + at) l)) ≡ length o = simp (length-take, length-drop) (omega (arith, inside)) in
      ext_get_or 0 (take (length o) (drop (a + at) l)) (reverse o) (taken ∙ sym (length-reverse o))
      (λ i k. let deep : i < length o = rw taken at k in
      get_or-take (length o) (drop (a + at) l) i 0 deep
      ∙ get_or-drop (a + at) l i 0
      ∙ own at i (omega arith)
      ∙ e i (omega arith)
      ∙ get_or-append (reverse o) _ 0 i (omega (arith, length-reverse o)))

  pub outer_words_lem : outer_words n a l ≡ reverse w.outer
  outer_words_lem =
      let fits = seen.fits p h in
      rw outer_depth_lem (stack_words (2 * n) w.outer (omega arith) fits.outer_fits (outer_at n w fits))

  pub inner_words_lem : inner_words n a l ≡ drop 1 (reverse w.inner)
  inner_words_lem =
      let fits = seen.fits p h in
      let all = stack_words (3 * n) w.inner (omega arith) fits.inner_fits (inner_at n w fits) in
      rw (inner_depth_lem, ← drop-drop 1 (a + 3 * n) l) (take_later (length w.inner) (drop (a + 3 * n) l) ∙ ap (drop 1) all)

  module _ (x : ℕ) where
    stem_loop : stem_of w x ++ loop_of w x ≡ reverse w.outer ++ drop 1 (reverse w.inner)
    stem_loop =
        let outer = sym (reverse-append (down_to x w.outer) (below x w.outer)) ∙ ap reverse (parted x w.outer) in
        sym (append_assoc (reverse (below x w.outer)) (reverse (down_to x w.outer)) (drop 1 (reverse w.inner)))
        ∙ ap (λ k. k ++ drop 1 (reverse w.inner)) outer

    loop_long : length (loop_of w x) ≡ length (down_to x w.outer) + (length w.inner - 1)
    loop_long = simp (length-append, length-drop, length-reverse)

    stem_long : place_down (length (outer_words n a l)) x (outer_words n a l) ≡ length (below x w.outer)
    stem_long = rw (outer_words_lem, length-reverse w.outer) (place_below x w.outer)

    pub shown_words : (lasso : List ℕ) → lasso_in n a l lasso ≡ shown (cycle (stem_of w x) (loop_of w x)) lasso
    unfolding lasso_in
    shown_words lasso =
        let o = reverse w.outer in
        let i = drop 1 (reverse w.inner) in
        let deep : length (o ++ i) ≡ length w.outer + (length w.inner - 1) = simp (length-append, length-drop, length-reverse) in
        rw (outer_words_lem, inner_words_lem, outer_depth_lem, inner_depth_lem, stem_loop, deep) (sym (append_assoc o i _))

    pub found_told : (used : ℕ) → told (Ok (found_in n a x used l)) ≡ tells_of (cycle (stem_of w x) (loop_of w x)) used
    unfolding found_in
    found_told used =
        let o = w.outer in
        let i = length w.inner - 1 in
        let loop : length o + i - length (below x o) ≡ length (down_to x o) + i = omega (arith, parted_long x o) in
        rw (stem_long, outer_depth_lem, inner_depth_lem, loop, loop_long, length-reverse (below x o))

  pub stacked_fits : (lasso : List ℕ) → n ≤ 4096 → 2 * n ≤ length lasso → 0 < length w.inner → Stacked n a l lasso
  stacked_fits lasso few room seeded =
      let fits = seen.fits p h in
      record {
        few = few;
        inside = inside;
        outer_fits = rw outer_depth_lem fits.outer_fits;
        inner_fits = rw inner_depth_lem fits.inner_fits;
        seeded = rw inner_depth_lem seeded;
        lasso_fits = room;
      }

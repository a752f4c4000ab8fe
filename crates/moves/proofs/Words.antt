-- What stands at a word of a stretch and of the room, and what a store there makes of the machine. `Seen` says that a list begins with the form
-- of a machine of n states and P workers; its words beyond the form are `rest`.
use Rattle.std.proofs.Common.{ℕ, suc, ◌+◌, ◌-◌, ◌*◌, ◌<◌, ◌≤◌, ◌≡◌, refl, ap, ◌∙◌, Bool, true, false, List, [], ◌∷◌, ◌++◌, append_assoc, reverse, eqb, length}
use Rattle.std.proofs.Common.{get_or, set, take, drop, length-append, get_or-append-add, take_at, drop_at, arith}
use mathlib.Core.List.{reverse-cons}
use lib.ListN.{length-reverse, get_or-append}
use lib.Seq.{get_or_at, set-append_left}
use Rattle.graphs.specs.Lists.{upd, tab}
use Rattle.graphs.proofs.Tab.{tab_long, tab_word}
use Rattle.moves.specs.Machine.{Worker, Machine}
use Rattle.moves.specs.Changes.{put}
use Rattle.moves.specs.Room.{bit, bits, pile, kind_word, seed_word, span, stretch, spans, room, room_size, stretch_at, Fits, AllFit}
use Rattle.moves.proofs.Bits.{bits_long, bits_upd}
use Rattle.moves.proofs.Pile.{pile_long}
use Rattle.moves.proofs.Parts.{Even, word_past, set_past, six_word_1, six_word_2, six_word_3, six_word_4, six_word_5, six_word_6}
use Rattle.moves.proofs.Room.{span_long, room_long}
use Rattle.moves.proofs.Stretch.{room_at, room_put}

-- a word that is 1 or 0 for a truth, tested
pub bit_test : (b : Bool) → eqb (bit b) 1 ≡ b
bit_test true = refl
bit_test false = refl

-- the stack's word under the depth
pub pile_top : (n s : ℕ) (u : List ℕ) → get_or (pile n (s ∷ u)) (length u) 0 ≡ s
unfolding pile
pile_top n s u = rw (reverse-cons s u, append_assoc) (get_or_at (reverse u) s _ 0 (length u) (length-reverse u))

module _ (n : ℕ) where
  -- each part of a stretch has n words
  pub five : (k r : ℕ → Bool) (o i : List ℕ) (t : ℕ → ℕ) → length o ≤ n → length i ≤ n
      → Even n (bits n k) (bits n r) (pile n o) (pile n i) (tab 0 n t)
  five k r o i t outer_fits inner_fits =
      record {
        long_1 = bits_long n k;
        long_2 = bits_long n r;
        long_3 = pile_long n o outer_fits;
        long_4 = pile_long n i inner_fits;
        long_5 = tab_long 0 n t;
      }

  -- the words of a stretch
  module _ (w : Worker) (fits : Fits n w) where
    abbrev last : List ℕ
    last = kind_word w.place ∷ seed_word w.place ∷ length w.outer ∷ length w.inner ∷ []

    even : Even n (bits n w.cyan) (bits n w.R) (pile n w.outer) (pile n w.inner) (tab 0 n w.taken)
    even = five w.cyan w.R w.outer w.inner w.taken fits.outer_fits fits.inner_fits

    pub cyan_at : (s : ℕ) → s < n → get_or (span n w) s 0 ≡ bit (w.cyan s)
    unfolding span
    cyan_at s h = six_word_1 last even s h ∙ tab_word n (λ x. bit (w.cyan x)) s 0 h

    pub R_at : (s : ℕ) → s < n → get_or (span n w) (n + s) 0 ≡ bit (w.R s)
    unfolding span
    R_at s h = six_word_2 last even s h ∙ tab_word n (λ x. bit (w.R x)) s 0 h

    pub outer_at : (i : ℕ) → i < n → get_or (span n w) (2 * n + i) 0 ≡ get_or (pile n w.outer) i 0
    unfolding span
    outer_at i h = six_word_3 last even i h

    pub inner_at : (i : ℕ) → i < n → get_or (span n w) (3 * n + i) 0 ≡ get_or (pile n w.inner) i 0
    unfolding span
    inner_at i h = six_word_4 last even i h

    pub taken_at : (s : ℕ) → s < n → get_or (span n w) (4 * n + s) 0 ≡ w.taken s
    unfolding span
    taken_at s h = six_word_5 last even s h ∙ tab_word n w.taken s 0 h

    -- the place and the depths
    pub last_at : (i : ℕ) → get_or (span n w) (5 * n + i) 0 ≡ get_or last i 0
    unfolding span
    last_at i = six_word_6 last even i

    pub outer_top : (s : ℕ) (u : List ℕ) → w.outer ≡ s ∷ u → get_or (span n w) (2 * n + (length w.outer - 1)) 0 ≡ s
    outer_top s u e =
        let deep : length w.outer ≡ suc (length u) = ap length e in
        let at : length w.outer - 1 ≡ length u = omega (arith, deep) in
        rw at (outer_at (length u) (omega (arith, deep, fits.outer_fits)) ∙ rw e (pile_top n s u))

    pub inner_top : (s : ℕ) (u : List ℕ) → w.inner ≡ s ∷ u → get_or (span n w) (3 * n + (length w.inner - 1)) 0 ≡ s
    inner_top s u e =
        let deep : length w.inner ≡ suc (length u) = ap length e in
        let at : length w.inner - 1 ≡ length u = omega (arith, deep) in
        rw at (inner_at (length u) (omega (arith, deep, fits.inner_fits)) ∙ rw e (pile_top n s u))

-- l begins with the form of m; the rest of it is given
pub record Seen (n P : ℕ) (m : Machine) (rest l : List ℕ) : Type 0 where
  pub form : l ≡ room n P m ++ rest
  pub fits : AllFit n P m

module _ (n P p : ℕ) (h : p < P) (m : Machine) (rest l : List ℕ) (seen : Seen n P m rest l) where
  -- the words before p's stretch, and those after it
  abbrev after : List ℕ
  after = spans n (suc p) (P - suc p) m.worker ++ rest

  before_long : length (room n p m) ≡ stretch_at n p
  before_long = room_long n p m (λ q k. seen.fits q (omega arith))

  own_long : length (span n (m.worker p)) ≡ stretch n
  own_long = span_long n (m.worker p) (seen.fits p h)

  cut : l ≡ room n p m ++ (span n (m.worker p) ++ after)
  cut = seen.form ∙ rw (room_at n P p m h, append_assoc, append_assoc)

  -- the stretch, and the room with another worker's words put in its place
  own : drop (stretch_at n p) l ≡ span n (m.worker p) ++ after
  own = rw cut (drop_at (room n p m) (span n (m.worker p) ++ after) (stretch_at n p) before_long)

  pub lent : take (stretch n) (drop (stretch_at n p) l) ≡ span n (m.worker p)
  lent = rw own (take_at (span n (m.worker p)) after (stretch n) own_long)

  pub put_back : (w : Worker)
      → take (stretch_at n p) l ++ (span n w ++ drop (stretch n) (drop (stretch_at n p) l)) ≡ room n P (put m p w) ++ rest
  put_back w =
      let front : take (stretch_at n p) l ≡ room n p m = rw cut (take_at (room n p m) (span n (m.worker p) ++ after) (stretch_at n p) before_long) in
      rw (front, own, drop_at (span n (m.worker p)) after (stretch n) own_long, room_put n P p m w h, append_assoc, append_assoc)

  pub own_word : (i : ℕ) → i < stretch n → get_or l (stretch_at n p + i) 0 ≡ get_or (span n (m.worker p)) i 0
  own_word i k =
      let start : stretch_at n p + i ≡ length (room n p m) + i = omega (arith, before_long) in
      rw (start, cut, get_or-append-add (room n p m) (span n (m.worker p) ++ after) i 0)
      (get_or-append (span n (m.worker p)) after 0 i (omega (arith, own_long)))

module _ (n P : ℕ) (m : Machine) (rest l : List ℕ) (seen : Seen n P m rest l) where
  shared : l ≡ bits n m.blue ++ (bits n m.red ++ (spans n 0 P m.worker ++ rest))
  unfolding room
  shared = seen.form ∙ rw (append_assoc, append_assoc)

  pub long : length l ≡ room_size n P + length rest
  long = rw (seen.form, length-append, room_long n P m seen.fits)

  pub blue_word : (s : ℕ) → s < n → get_or l s 0 ≡ bit (m.blue s)
  blue_word s h =
      rw shared (get_or-append (bits n m.blue) _ 0 s (omega (arith, bits_long n m.blue)) ∙ tab_word n (λ x. bit (m.blue x)) s 0 h)

  pub red_word : (s : ℕ) → s < n → get_or l (n + s) 0 ≡ bit (m.red s)
  red_word s h =
      rw shared
      (word_past (bits n m.blue) _ n s (bits_long n m.blue)
      ∙ get_or-append (bits n m.red) _ 0 s (omega (arith, bits_long n m.red))
      ∙ tab_word n (λ x. bit (m.red x)) s 0 h)

  -- one more blue state is one store, and so is a change of one red word
  pub blue_put : (s : ℕ) → s < n → set l s 1 ≡ room n P (record { blue = upd m.blue s true; red = m.red; worker = m.worker }) ++ rest
  unfolding room
  blue_put s h =
      rw (shared, bits_upd n m.blue s true h, append_assoc, append_assoc)
      (set-append_left (bits n m.blue) _ s 1 (omega (arith, bits_long n m.blue)))

  pub red_put : (s : ℕ) (b : Bool) → s < n
      → set l (n + s) (bit b) ≡ room n P (record { blue = m.blue; red = upd m.red s b; worker = m.worker }) ++ rest
  unfolding room
  red_put s b h =
      let own = set-append_left (bits n m.red) (spans n 0 P m.worker ++ rest) s (bit b) (omega (arith, bits_long n m.red)) in
      rw (shared, bits_upd n m.red s b h, append_assoc, append_assoc)
      (set_past (bits n m.blue) (bits n m.red ++ (spans n 0 P m.worker ++ rest)) (bit b) s (n + s) (omega (arith, bits_long n m.blue)) own)

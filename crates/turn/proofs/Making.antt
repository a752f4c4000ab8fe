-- What making the chosen move writes is the form of the machine after it, rule by rule; and what making it asks is given.
use Prim.Native.Nat.{ℕ, zero, suc, ◌+◌, ◌<◌, ◌≤◌}
use mathlib.Core.Path.{◌≡◌, refl, ap, subst, ◌∙◌}
use mathlib.Core.Bool.{Bool, true, false, ◌||◌}
use mathlib.Core.List.{List, ◌∷◌, ◌++◌}
use mathlib.Core.Logic.{◌⊎◌, inl, inr, ◌≢◌}
use lib.Bits.{bit_or}
use lib.ListN.{length, get_or, set}
use native.Mathlib.Omega.{arith}
use Rattle.graphs.specs.Lists.{upd}
use Rattle.graphs.specs.Graph.{Graph}
use Rattle.graphs.specs.Words.{graph_of}
use Rattle.graphs.proofs.Change.{upd_same, upd_other}
use Rattle.graphs.proofs.Tests.{same?}
use Rattle.moves.specs.declared.Place.TheVariants.{Outer, Waiting}
use Rattle.moves.specs.Machine.{Worker, Machine, empty}
use Rattle.moves.specs.Place.{left, painted}
use Rattle.moves.specs.Changes.{is_empty, starts, takes, enters, pops, seeds, joins, backs, put, put_blue, dyed}
use Rattle.moves.specs.Moves.{Made, remaining}
use Rattle.moves.specs.Room.{bit, span, room, stretch_at, Fits, AllFit}
use Rattle.moves.proofs.Room.{one_form}
use Rattle.moves.proofs.Words.{Seen, lent, put_back, own_word, R_at, taken_at, red_word, blue_put, red_put}
use Rattle.theory.specs.Invariant.{Calm}
use Rattle.theory.specs.Turns.{AllShallow}
use Rattle.theory.specs.Rules.{Outermost, Innermost, Rule, by_start, by_skip, by_enter, by_leave, by_seed, by_hit, by_pass, by_join, by_back}
use Rattle.theory.specs.Rules.{by_paint, by_wait, by_rest}
use Rattle.theory.proofs.Phase.{at}
use Rattle.moves.specs.Own.{own_of}
use Rattle.turn.specs.Stores.{start_words, take_words, enter_words, leave_words, seed_words, join_words, back_words, paint_words}
use Rattle.turn.proofs.Stored.{start_span, take_span, enter_span, leave_span, seed_span, join_span, back_span, paint_span}
use Rattle.turn.specs.Made.{Counts, stretch_in, on_stretch, dyed_to, made_words, Lends, Asks, Fit}
use Rattle.turn.proofs.Given.{Given, start_some, few, fits_of, seen, fits, after, inside, outer_state, inner_state, taken_state, count_low}

-- the machine with other red states
abbrev with_red : Machine → (ℕ → Bool) → Machine
with_red m r = record { blue = m.blue; red = r; worker = m.worker }

or_bits : (a b : Bool) → bit_or (bit a) (bit b) ≡ bit (a || b)
or_bits true true = refl
or_bits true false = refl
or_bits false true = refl
or_bits false false = refl

-- the red states after the first i of R are dyed
unfoldable red_to : (ℕ → Bool) → (ℕ → Bool) → ℕ → ℕ → Bool
red_to red R zero = red
red_to red R (suc i) = upd (red_to red R i) i (red_to red R i i || R i)

red_above : (red R : ℕ → Bool) (i x : ℕ) → i ≤ x → red_to red R i x ≡ red x
unfolding red_to
red_above red R zero x h = refl
red_above red R (suc i) x h = upd_other (red_to red R i) i _ x (λ e. omega arith) ∙ red_above red R i x (omega arith)

red_below : (red R : ℕ → Bool) (i x : ℕ) → x < i → red_to red R i x ≡ (red x || R x)
unfolding red_to
red_below red R zero x h = absurd (omega arith)
red_below red R (suc i) x h = go (same? x i) (λ k. red_below red R i x k)
  where
    go : (x ≡ i) ⊎ (x ≢ i) → (x < i → red_to red R i x ≡ (red x || R x)) → upd (red_to red R i) i (red_to red R i i || R i) x ≡ (red x || R x)
    go (inl e) rest = rw e (upd_same (red_to red R i) i _ ∙ ap (λ b. b || R i) (red_above red R i i (omega arith)))
    go (inr ne) rest = upd_other (red_to red R i) i _ x ne ∙ rest (omega arith)

-- a machine in the room, and worker p's stretch
module _ (n P p : ℕ) (h : p < P) (m : Machine) (rest l : List ℕ) (seen : Seen n P m rest l) where
  abbrev a : ℕ
  a = stretch_at n p

  abbrev w : Worker
  w = m.worker p

  -- what is made of the stretch is another worker's
  on_stretch_lem : (f : List ℕ → List ℕ) (w' : Worker) → f (span n w) ≡ span n w' → on_stretch n a f l ≡ room n P (put m p w') ++ rest
  on_stretch_lem f w' e = rw (lent n P p h m rest l seen, e) (put_back n P p h m rest l seen w')

  on_stretch_blue : (f : List ℕ → List ℕ) (w' : Worker) (s : ℕ) → AllFit n P (put m p w') → f (span n w) ≡ span n w' → s < n
      → set (on_stretch n a f l) s 1 ≡ room n P (put_blue m p w' s) ++ rest
  on_stretch_blue f w' s fits e k =
      blue_put n P (put m p w') rest (on_stretch n a f l) (record { form = on_stretch_lem f w' e; fits = fits }) s k

-- all of R becomes red
module _ (n P p : ℕ) (h : p < P) (m : Machine) (rest l : List ℕ) (seen : Seen n P m rest l) where
  dyed_to_lem : (i : ℕ) → i ≤ n → dyed_to n (stretch_at n p) i l ≡ room n P (with_red m (red_to m.red (m.worker p).R i)) ++ rest
  unfolding dyed_to red_to
  dyed_to_lem zero k = seen.form
  dyed_to_lem (suc i) k =
      let red = red_to m.red (m.worker p).R i in
      let now : Seen n P (with_red m red) rest (dyed_to n (stretch_at n p) i l) = record { form = dyed_to_lem i (omega arith); fits = seen.fits } in
      let at : stretch_at n p + n + i ≡ stretch_at n p + (n + i) = omega arith in
      let own : get_or (dyed_to n (stretch_at n p) i l) (stretch_at n p + n + i) 0 ≡ bit ((m.worker p).R i) =
      rw at (own_word n P p h (with_red m red) rest (dyed_to n (stretch_at n p) i l) now (n + i) (omega arith)
      ∙ R_at n (m.worker p) (seen.fits p h) i (omega arith)) in
      rw (red_word n P (with_red m red) rest (dyed_to n (stretch_at n p) i l) now i (omega arith), own, or_bits (red i) ((m.worker p).R i))
      (red_put n P (with_red m red) rest (dyed_to n (stretch_at n p) i l) now i (red i || (m.worker p).R i) (omega arith))

  dyed_all : dyed_to n (stretch_at n p) n l ≡ room n P (with_red m (dyed m p)) ++ rest
  dyed_all =
      dyed_to_lem n (omega arith)
      ∙ ap (λ k. k ++ rest)
      (one_form n P (with_red m (red_to m.red (m.worker p).R n)) (with_red m (dyed m p))
      (record {
        blue = λ s k. refl;
        red = λ s k. red_below m.red (m.worker p).R n s k;
        worker = λ q k. record { place = refl; cyan = λ s j. refl; R = λ s j. refl; outer = refl; inner = refl; taken = λ s j. refl };
      }))

module _ {offsets targets flags : List ℕ} {P p : ℕ} {m : Machine} {rest l : List ℕ} (x : Given offsets targets flags P p m rest l) where
  abbrev N : ℕ
  N = length flags

  abbrev g : Graph
  g = graph_of offsets targets flags

  abbrev own : Worker
  own = m.worker p

  -- outside the inner search the inner stack and R are empty; and so is the outer stack before the start
  calm : own.place ≡ Outer → Calm own
  calm e = (at (x.formed.inv.local p) e).calm

  deep_outer : (s : ℕ) (u : List ℕ) → Outermost p m s u → 0 < length own.outer
  deep_outer s u e = let deep : length own.outer ≡ suc (length u) = ap length e in omega (arith, deep)

  deep_inner : (s : ℕ) (u : List ℕ) → Innermost p m s u → 0 < length own.inner
  deep_inner s u e = let deep : length own.inner ≡ suc (length u) = ap length e in omega (arith, deep)

  -- the worker's stacks fit after the move too
  entered_fits : (w' : Worker) → AllShallow g (put m p w') → Fits N w'
  entered_fits w' s = subst (Fits N) (upd_same m.worker p w') (fits_of x (put m p w') s p x.named)

  abbrev Makes : Made → Type 0
  Makes made = made_words N (stretch_at N p) (own_of own) made.move l ≡ room N P made.machine ++ rest

  stored : (f : List ℕ → List ℕ) (w' : Worker) → f (span N own) ≡ span N w' → on_stretch N (stretch_at N p) f l ≡ room N P (put m p w') ++ rest
  stored f w' e = on_stretch_lem N P p x.named m rest l (seen x) f w' e

  stored_blue : (f : List ℕ → List ℕ) (w' : Worker) (s : ℕ) → AllShallow g (put m p w') → s < N → f (span N own) ≡ span N w'
      → set (on_stretch N (stretch_at N p) f l) s 1 ≡ room N P (put_blue m p w' s) ++ rest
  stored_blue f w' s sh h e = on_stretch_blue N P p x.named m rest l (seen x) f w' s (fits_of x (put m p w') sh) e h

  pub made_is : (made : Made) → Rule g p m made → AllShallow g made.machine → Makes made
  unfolding made_words
  made_is made (by_start e) sh =
      stored (start_words N (own_of own)) (starts own) (start_span N own (fits x) (start_some x) e (at (x.formed.inv.local p) e).0)
  made_is made (by_skip {s} {u} e o r c) sh = stored (take_words N s) (takes own s) (take_span N own (fits x) s (outer_state x s u o))
  made_is made (by_enter {s} {x = y} {u} {l = k} e o r c) sh =
      let below = outer_state x s u o in
      stored (enter_words N (own_of own) s y) (enters own s y)
      (enter_span N own (fits x) s y below (taken_state x s y k below r) (entered_fits (enters own s y) sh).outer_fits)
  made_is made (by_leave {s} {u} e o r c) sh =
      let below = outer_state x s u o in
      stored_blue (leave_words N (own_of own) s) (pops own s u (left Outer (is_empty u)) own.R) s sh below (leave_span N own (fits x) s u below e o)
  made_is made (by_seed {s} {u} e o r c) sh =
      let below = outer_state x s u o in
      stored_blue (seed_words N (own_of own) s) (seeds own s) s sh below (seed_span N own (fits x) s below e (calm e).bare (calm e).clear)
  made_is made (by_hit {s} {u} e o r c) sh = stored (take_words N s) (takes own s) (take_span N own (fits x) s (inner_state x s u o))
  made_is made (by_pass {s} {u} e o r c d) sh = stored (take_words N s) (takes own s) (take_span N own (fits x) s (inner_state x s u o))
  made_is made (by_join {s} {x = y} {u} {l = k} e o r c d) sh =
      let below = inner_state x s u o in
      stored (join_words N (own_of own) s y) (joins own s y)
      (join_span N own (fits x) s y below (taken_state x s y k below r) (entered_fits (joins own s y) sh).inner_fits)
  made_is made (by_back {z} {s} {u} e o r) sh =
      stored (back_words N (own_of own) s) (backs own z s u) (back_span N own (fits x) z s u (inner_state x s u o) e o)
  made_is made (by_paint {z} {u} e o c) sh =
      on_stretch_lem N P p x.named (with_red m (dyed m p)) rest (dyed_to N (stretch_at N p) N l)
      (record { form = dyed_all N P p x.named m rest l (seen x); fits = (seen x).fits }) (paint_words N (own_of own) z)
      (pops own z u (painted (Waiting z) (is_empty u)) empty) (paint_span N own (fits x) z u (outer_state x z u o) e o)
  made_is made (by_wait e c) sh = x.formed.form
  made_is made (by_rest e) sh = x.formed.form

  -- what is asked
  lends : Lends N (stretch_at N p) l
  lends = record { few = few x; after = after x; inside = inside x }

  counts : (s y : ℕ) (k : List ℕ) → s < N → remaining g p m s ≡ y ∷ k → Counts N s (stretch_in N (stretch_at N p) l)
  counts s y k h e =
      let low = count_low x s y k h e in
      rw (lent N P p x.named m rest l (seen x), taken_at N own (fits x) s h) (omega arith)

  abbrev AskedBy : Made → Type 0
  AskedBy made = Asks N (stretch_at N p) (own_of own) made.move l

  asked : (made : Made) → Rule g p m made → AllShallow g made.machine → AskedBy made
  asked made (by_start e) sh = start_some x
  asked made (by_skip {s} {x = y} {u} {l = k} e o r c) sh = (outer_state x s u o, counts s y k (outer_state x s u o) r)
  asked made (by_enter {s} {x = y} {u} {l = k} e o r c) sh =
      let below = outer_state x s u o in
      ((below, counts s y k below r), taken_state x s y k below r, (entered_fits (enters own s y) sh).outer_fits)
  asked made (by_leave {s} {u} e o r c) sh = (outer_state x s u o, deep_outer s u o, (fits x).outer_fits)
  asked made (by_seed {s} {u} e o r c) sh = outer_state x s u o
  asked made (by_hit {z} {s} {x = y} {u} {l = k} e o r c) sh = (inner_state x s u o, counts s y k (inner_state x s u o) r)
  asked made (by_pass {z} {s} {x = y} {u} {l = k} e o r c d) sh = (inner_state x s u o, counts s y k (inner_state x s u o) r)
  asked made (by_join {z} {s} {x = y} {u} {l = k} e o r c d) sh =
      let below = inner_state x s u o in
      ((below, counts s y k below r), taken_state x s y k below r, (entered_fits (joins own s y) sh).inner_fits)
  asked made (by_back {z} {s} {u} e o r) sh = (inner_state x s u o, deep_inner s u o, (fits x).inner_fits)
  asked made (by_paint {z} {u} e o c) sh = (outer_state x z u o, deep_outer z u o, (fits x).outer_fits)
  asked made (by_wait e c) sh = tt
  asked made (by_rest e) sh = tt

  pub fit : (made : Made) → Rule g p m made → AllShallow g made.machine → Fit N (stretch_at N p) (own_of own) made.move l
  fit made r sh = record { lends = lends; asks = asked made r sh }

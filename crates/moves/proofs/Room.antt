-- The form of the room. 01: "in a form set in docs/: one form for one state, and different forms for different states". `one_form` and
-- `forms_differ` say it of machines of n states and P workers; `room_long` says how many words there are.
use Rattle.std.proofs.Common.{ℕ, zero, suc, ◌+◌, ◌*◌, ◌<◌, ◌≤◌, ◌≡◌, refl, sym, ◌∙◌, List, ◌++◌, ◌⊎◌, inl, inr, ◌≢◌, length, length-append, suc-mul, arith}
use Rattle.graphs.proofs.Tests.{same?}
use Rattle.moves.specs.declared.Place.{Place}
use Rattle.moves.specs.declared.Place.TheVariants.{Fresh, Outer, Inner, Waiting, Done}
use Rattle.moves.specs.Machine.{Worker, Machine}
use Rattle.moves.specs.Room.{bits, pile, kind_word, seed_word, place_of, span, stretch, spans, room, room_size, Fits, AllFit, SameWorker}
use Rattle.moves.specs.Room.{SameBelow}
use Rattle.moves.proofs.Joined.{split}
use Rattle.graphs.specs.Lists.{tab}
use Rattle.graphs.proofs.Tab.{tab_long, tab_ext, tab_same}
use Rattle.moves.proofs.Bits.{bits_long, bits_ext, bits_same}
use Rattle.moves.proofs.Pile.{pile_long, pile_same}

pub place_words : (q : Place) → place_of (kind_word q) (seed_word q) ≡ q
place_words Fresh = refl
place_words Outer = refl
place_words (Inner z) = refl
place_words (Waiting z) = refl
place_words Done = refl

pub place_one : (q q' : Place) → kind_word q ≡ kind_word q' → seed_word q ≡ seed_word q' → q ≡ q'
place_one q q' k z = sym (place_words q) ∙ rw (k, z) (place_words q')

module _ (n : ℕ) where
  -- a stretch
  pub span_long : (w : Worker) → Fits n w → length (span n w) ≡ stretch n
  unfolding span
  span_long w f =
      simp (length-append, tab_long, pile_long n w.outer f.outer_fits, pile_long n w.inner f.inner_fits) (omega arith)

  pub span_ext : (w w' : Worker) → SameWorker n w w' → span n w ≡ span n w'
  unfolding span
  span_ext w w' s =
      rw (
        s.place,
        s.outer,
        s.inner,
        bits_ext n w.cyan w'.cyan s.cyan,
        bits_ext n w.R w'.R s.R,
        tab_ext n w.taken w'.taken s.taken,
      )

  -- two lists that begin with n words each
  halves : (a a' b b' : List ℕ) → length a ≡ n → length a' ≡ n → a ++ b ≡ a' ++ b' → (a ≡ a') × (b ≡ b')
  halves a a' b b' l l' e = split a a' b b' (l ∙ sym l') e

  pub span_same : (w w' : Worker) → Fits n w → Fits n w' → span n w ≡ span n w' → SameWorker n w w'
  unfolding span
  span_same w w' f f' e =
      let cyan = halves (bits n w.cyan) (bits n w'.cyan) _ _ (bits_long n w.cyan) (bits_long n w'.cyan) e in
      let R = halves (bits n w.R) (bits n w'.R) _ _ (bits_long n w.R) (bits_long n w'.R) cyan.1 in
      let outer_long = pile_long n w.outer f.outer_fits in
      let outer_long' = pile_long n w'.outer f'.outer_fits in
      let outer = halves (pile n w.outer) (pile n w'.outer) _ _ outer_long outer_long' R.1 in
      let inner_long = pile_long n w.inner f.inner_fits in
      let inner_long' = pile_long n w'.inner f'.inner_fits in
      let inner = halves (pile n w.inner) (pile n w'.inner) _ _ inner_long inner_long' outer.1 in
      let taken = halves (tab 0 n w.taken) (tab 0 n w'.taken) _ _ (tab_long 0 n w.taken) (tab_long 0 n w'.taken) inner.1 in
      let kind : kind_word w.place ≡ kind_word w'.place = cc taken.1 in
      let seed : seed_word w.place ≡ seed_word w'.place = cc taken.1 in
      let outer_depth : length w.outer ≡ length w'.outer = cc taken.1 in
      let inner_depth : length w.inner ≡ length w'.inner = cc taken.1 in
      record {
        place = place_one w.place w'.place kind seed;
        cyan = bits_same n w.cyan w'.cyan cyan.0;
        R = bits_same n w.R w'.R R.0;
        outer = pile_same n w.outer w'.outer outer_depth outer.0;
        inner = pile_same n w.inner w'.inner inner_depth inner.0;
        taken = tab_same n w.taken w'.taken taken.0;
      }

  -- the stretches of workers q to q + k - 1
  pub spans_long : (q k : ℕ) (f : ℕ → Worker) → ((r : ℕ) → q ≤ r → r < q + k → Fits n (f r))
      → length (spans n q k f) ≡ k * stretch n
  unfolding spans
  spans_long q zero f fits = omega arith
  spans_long q (suc k) f fits =
      let first = span_long (f q) (fits q (omega arith) (omega arith)) in
      let rest = spans_long (suc q) k f (λ r a b. fits r (omega arith) (omega arith)) in
      simp (length-append, first, rest) (omega (arith, suc-mul k (stretch n)))

  pub spans_ext : (q k : ℕ) (f h : ℕ → Worker) → ((r : ℕ) → q ≤ r → r < q + k → span n (f r) ≡ span n (h r))
      → spans n q k f ≡ spans n q k h
  unfolding spans
  spans_ext q zero f h e = refl
  spans_ext q (suc k) f h e = rw (e q (omega arith) (omega arith), spans_ext (suc q) k f h (λ r a b. e r (omega arith) (omega arith)))

  pub spans_same : (q k : ℕ) (f h : ℕ → Worker)
      → ((r : ℕ) → q ≤ r → r < q + k → length (span n (f r)) ≡ length (span n (h r)))
      → spans n q k f ≡ spans n q k h
      → (r : ℕ) → q ≤ r → r < q + k → span n (f r) ≡ span n (h r)
  unfolding spans
  spans_same q zero f h long e r a b = absurd (omega arith)
  spans_same q (suc k) f h long e r a b =
      let parts = split (span n (f q)) (span n (h q)) _ _ (long q (omega arith) (omega arith)) e in
      go (λ c. spans_same (suc q) k f h (λ t x y. long t (omega arith) (omega arith)) parts.1 r c (omega arith)) parts.0 (same? r q)
    where
      go : (suc q ≤ r → span n (f r) ≡ span n (h r)) → span n (f q) ≡ span n (h q) → (r ≡ q) ⊎ (r ≢ q) → span n (f r) ≡ span n (h r)
      go rest first (inl i) = rw i first
      go rest first (inr ne) = rest (omega arith)

  module _ (P : ℕ) where
    pub room_long : (m : Machine) → AllFit n P m → length (room n P m) ≡ room_size n P
    unfolding room
    room_long m fits =
        simp (length-append, bits_long, spans_long 0 P m.worker (λ q a b. fits q (omega arith))) (omega arith)

    -- one form for one state
    pub one_form : (m m' : Machine) → SameBelow n P m m' → room n P m ≡ room n P m'
    unfolding room
    one_form m m' s =
        rw (
          bits_ext n m.blue m'.blue s.blue,
          bits_ext n m.red m'.red s.red,
          spans_ext 0 P m.worker m'.worker (λ q a b. span_ext (m.worker q) (m'.worker q) (s.worker q (omega arith))),
        )

    -- different forms for different states: machines with one form are the same
    pub forms_differ : (m m' : Machine) → AllFit n P m → AllFit n P m' → room n P m ≡ room n P m' → SameBelow n P m m'
    unfolding room
    forms_differ m m' fits fits' e =
        let blue = halves (bits n m.blue) (bits n m'.blue) _ _ (bits_long n m.blue) (bits_long n m'.blue) e in
        let red = halves (bits n m.red) (bits n m'.red) _ _ (bits_long n m.red) (bits_long n m'.red) blue.1 in
        let each = spans_same 0 P m.worker m'.worker (λ q a b. long q (omega arith)) red.1 in
        record {
          blue = bits_same n m.blue m'.blue blue.0;
          red = bits_same n m.red m'.red red.0;
          worker = λ q h. span_same (m.worker q) (m'.worker q) (fits q h) (fits' q h) (each q (omega arith) (omega arith));
        }
      where
        long : (q : ℕ) → q < P → length (span n (m.worker q)) ≡ length (span n (m'.worker q))
        long q h = span_long (m.worker q) (fits q h) ∙ sym (span_long (m'.worker q) (fits' q h))

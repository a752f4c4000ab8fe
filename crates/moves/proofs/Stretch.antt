-- A worker's stretch in the room. 01: "Apart from the shared colours, each worker writes only its own stretch of the room." `room_at` cuts the
-- room at a worker's stretch; `move_own_stretch` says of every turn that no other word of the stretches changes.
use Rattle.std.proofs.Common.{ℕ, zero, suc, ◌+◌, ◌-◌, ◌*◌, ◌<◌, ◌≤◌, ◌≡◌, refl, ap, ◌∙◌, Bool, ◌||◌, List, [], ◌∷◌, ◌++◌, append_assoc, ◌⊎◌, inl, inr, ◌≢◌}
use Rattle.std.proofs.Common.{length, get_or, suc-mul, mul-le-mul_right, zero-add, arith}
use native.Mathlib.Nat.{sub-zero}
use Rattle.graphs.specs.Lists.{upd}
use Rattle.graphs.specs.Graph.{Graph}
use Rattle.graphs.proofs.Tests.{same?, cond_ind}
use Rattle.graphs.proofs.Change.{upd_same, upd_other}
use Rattle.moves.specs.declared.Place.{Place}
use Rattle.moves.specs.declared.Place.TheVariants.{Fresh, Outer, Inner, Waiting, Done}
use Rattle.moves.specs.declared.Move.{Move}
use Rattle.moves.specs.Machine.{Worker, Machine}
use Rattle.moves.specs.Changes.{put}
use Rattle.moves.specs.Moves.{Made, on_first, remaining, others_red, move_1, move_2, move_3, move_4, move_5, move_6, move_7, turn_at, turn}
use Rattle.moves.specs.Room.{bits, span, stretch, spans, room, room_size, stretch_at, Fits, AllFit}
use Rattle.moves.proofs.Joined.{past, outside}
use Rattle.moves.proofs.Bits.{bits_long}
use Rattle.moves.proofs.Room.{span_long, spans_long, spans_ext}

module _ (n : ℕ) where
  -- the stretches below p, p's own, and those above it
  pub spans_at : (q k : ℕ) (f : ℕ → Worker) (p : ℕ) → q ≤ p → p < q + k
      → spans n q k f ≡ spans n q (p - q) f ++ (span n (f p) ++ spans n (suc p) (q + k - suc p) f)
  unfolding spans
  spans_at q zero f p a b = absurd (omega arith)
  spans_at q (suc k) f p a b = go (λ c. spans_at (suc q) k f p c (omega arith)) (same? p q)
    where
      go : (suc q ≤ p → spans n (suc q) k f ≡ spans n (suc q) (p - suc q) f ++ (span n (f p) ++ spans n (suc p) (suc q + k - suc p) f))
          → (p ≡ q) ⊎ (p ≢ q)
          → span n (f q) ++ spans n (suc q) k f ≡ spans n q (p - q) f ++ (span n (f p) ++ spans n (suc p) (q + suc k - suc p) f)
      go rest (inl e) =
          let none : q - q ≡ 0 = omega arith in
          let all : q + suc k - suc q ≡ k = omega arith in
          rw (e, none, all)
      go rest (inr ne) =
          let one : p - q ≡ suc (p - suc q) = omega arith in
          let same : q + suc k - suc p ≡ suc q + k - suc p = omega arith in
          rw (one, same, append_assoc, rest (omega arith))

  -- workers that are the same but for p
  module _ (f h : ℕ → Worker) (p : ℕ) (others : (q : ℕ) → q ≢ p → h q ≡ f q) where
    spans_stay : (q k : ℕ) → ((r : ℕ) → q ≤ r → r < q + k → r ≢ p) → spans n q k h ≡ spans n q k f
    spans_stay q k apart = spans_ext n q k h f (λ r a b. ap (span n) (others r (apart r a b)))

    pub spans_other : (q k : ℕ) → q ≤ p → p < q + k
        → spans n q k h ≡ spans n q (p - q) f ++ (span n (h p) ++ spans n (suc p) (q + k - suc p) f)
    spans_other q k a b =
        let under = spans_stay q (p - q) (λ r c d e. omega arith) in
        let over = spans_stay (suc p) (q + k - suc p) (λ r c d e. omega arith) in
        rw (spans_at q k h p a b, under, over)

  pub spans_upd : (q k : ℕ) (f : ℕ → Worker) (p : ℕ) (w : Worker) → q ≤ p → p < q + k
      → spans n q k (upd f p w) ≡ spans n q (p - q) f ++ (span n w ++ spans n (suc p) (q + k - suc p) f)
  spans_upd q k f p w a b = rw (spans_other f (upd f p w) p (upd_other f p w) q k a b, upd_same f p w)

  -- the room, cut at p's stretch: before it stands the room of the first p workers, which has stretch_at n p words
  pub room_at : (P p : ℕ) (m : Machine) → p < P
      → room n P m ≡ room n p m ++ (span n (m.worker p) ++ spans n (suc p) (P - suc p) m.worker)
  unfolding room
  room_at P p m h =
      let e = rw (sub-zero, zero-add) at (spans_at 0 P m.worker p (omega arith) (omega arith)) in
      rw (e, append_assoc, append_assoc)

  pub room_put : (P p : ℕ) (m : Machine) (w : Worker) → p < P
      → room n P (put m p w) ≡ room n p m ++ (span n w ++ spans n (suc p) (P - suc p) m.worker)
  unfolding room
  room_put P p m w h =
      let e = rw (sub-zero, zero-add) at (spans_upd 0 P m.worker p w (omega arith) (omega arith)) in
      rw (e, append_assoc, append_assoc)

-- a worker's stretch lies in the room
pub stretch_inside : (n P p size : ℕ) → p < P → room_size n P ≤ size → stretch_at n p + stretch n ≤ size
stretch_inside n P p size h fits = omega (arith, mul-le-mul_right (stretch n) h, suc-mul p (stretch n))

module _ (n P p : ℕ) (h : p < P) where
  room_past : (m : Machine) (i : ℕ) → 2 * n ≤ i → get_or (room n P m) i 0 ≡ get_or (spans n 0 P m.worker) (i - n - n) 0
  unfolding room
  room_past m i l =
      let red = past (bits n m.red) _ n (i - n) (bits_long n m.red) (omega arith) in
      past (bits n m.blue) _ n i (bits_long n m.blue) (omega arith) ∙ red

  -- machines whose workers are the same but for p
  pub own_stretch : (m m' : Machine) → AllFit n P m → Fits n (m'.worker p) → ((q : ℕ) → q ≢ p → m'.worker q ≡ m.worker q)
      → (i : ℕ) → 2 * n ≤ i → (i < stretch_at n p) ⊎ (stretch_at n (suc p) ≤ i) → get_or (room n P m') i 0 ≡ get_or (room n P m) i 0
  own_stretch m m' fits fit others i l away =
      let under = spans n 0 p m.worker in
      let over = spans n (suc p) (0 + P - suc p) m.worker in
      let was = rw sub-zero at (spans_at n 0 P m.worker p (omega arith) (omega arith)) in
      let is = rw sub-zero at (spans_other n m.worker m'.worker p others 0 P (omega arith) (omega arith)) in
      let long = span_long n (m.worker p) (fits p h) in
      let long' = span_long n (m'.worker p) fit in
      rw (room_past m' i l, room_past m i l, is, was)
      (outside under (span n (m'.worker p)) (span n (m.worker p)) over (stretch n) long' long (i - n - n) (side away))
    where
      start : length (spans n 0 p m.worker) ≡ p * stretch n
      start = spans_long n 0 p m.worker (λ q a b. fits q (omega arith))

      side : (i < stretch_at n p) ⊎ (stretch_at n (suc p) ≤ i)
          → (i - n - n < length (spans n 0 p m.worker)) ⊎ (length (spans n 0 p m.worker) + stretch n ≤ i - n - n)
      side (inl b) = inl (omega (arith, start))
      side (inr b) = inr (omega (arith, start, suc-mul p (stretch n)))

module _ (g : Graph) (p : ℕ) (m : Machine) where
  -- every worker but p is as it was
  pub record Stays (a : Made) : Type 0 where
    pub same : (q : ℕ) → q ≢ p → a.machine.worker q ≡ m.worker q

  -- what holds of both arms holds of the choice
  first_stays : {x : Made} {f : ℕ → List ℕ → Made} (l : List ℕ) → Stays x → ((s : ℕ) (u : List ℕ) → Stays (f s u))
      → Stays (on_first l x f)
  first_stays [] a b = a
  first_stays (s ∷ u) a b = b s u

  put_stays : (a : Move) (b r : ℕ → Bool) (w : Worker)
      → Stays (record { move = a; machine = record { blue = b; red = r; worker = upd m.worker p w } })
  put_stays a b r w = record { same = λ q ne. upd_other m.worker p w q ne }

  stays_2 : (s x : ℕ) → Stays (move_2 g p m s x)
  unfolding move_2
  stays_2 s x = cond_ind Stays ((m.worker p).cyan x || m.blue x) (λ e. put_stays _ _ _ _) (λ e. put_stays _ _ _ _)

  stays_3 : (s : ℕ) (u : List ℕ) → Stays (move_3 g p m s u)
  unfolding move_3
  stays_3 s u = cond_ind Stays (g.accepting s) (λ e. put_stays _ _ _ _) (λ e. put_stays _ _ _ _)

  stays_4 : (s x : ℕ) → Stays (move_4 g p m s x)
  unfolding move_4
  stays_4 s x =
      cond_ind Stays ((m.worker p).cyan x) (λ e. put_stays _ _ _ _)
      (λ e. cond_ind Stays ((m.worker p).R x || m.red x) (λ f. put_stays _ _ _ _) (λ f. put_stays _ _ _ _))

  stays_6 : (z : ℕ) (u : List ℕ) → Stays (move_6 g p m z u)
  unfolding move_6
  stays_6 z u = cond_ind Stays (others_red g p m z) (λ e. put_stays _ _ _ _) (λ e. record { same = λ q ne. refl })

  stays_7 : Stays (move_7 g p m)
  unfolding move_7
  stays_7 = record { same = λ q ne. refl }

  stays_at : (z : Place) → Stays (turn_at g p m z)
  unfolding turn_at move_1 move_5
  stays_at Fresh = put_stays _ _ _ _
  stays_at Outer = first_stays (m.worker p).outer stays_7 (λ s u. first_stays (remaining g p m s) (stays_3 s u) (λ x l. stays_2 s x))
  stays_at (Inner z) = first_stays (m.worker p).inner stays_7 (λ s u. first_stays (remaining g p m s) (put_stays _ _ _ _) (λ x l. stays_4 s x))
  stays_at (Waiting z) = first_stays (m.worker p).outer stays_7 (λ s u. stays_6 z u)
  stays_at Done = stays_7

  -- a turn of worker p leaves every other worker as it is
  pub others_stay : (q : ℕ) → q ≢ p → (turn g p m).machine.worker q ≡ m.worker q
  unfolding turn
  others_stay q ne = (stays_at (m.worker p).place).same q ne

-- 01: "Apart from the shared colours, each worker writes only its own stretch of the room."
pub move_own_stretch : (g : Graph) (n P p : ℕ) (m : Machine) → p < P → AllFit n P m → Fits n ((turn g p m).machine.worker p)
    → (i : ℕ) → 2 * n ≤ i → (i < stretch_at n p) ⊎ (stretch_at n (suc p) ≤ i)
    → get_or (room n P (turn g p m).machine) i 0 ≡ get_or (room n P m) i 0
move_own_stretch g n P p m h fits fit = own_stretch n P p h m (turn g p m).machine fits fit (others_stay g p m)

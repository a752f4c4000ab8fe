-- A run, turn by turn: each turn makes what the rules make of the result before it, an answer stays, "undecided" has used every turn, and
-- wherever turns lead the answer is right.
use Rattle.std.proofs.Common.{ℕ, suc, ◌+◌, ◌<◌, ◌≤◌, ◌≡◌, refl, sym, ap, ◌∙◌, true, false, cond, List, [], ◌∷◌, ◌++◌, ◌⊎◌, inl, inr, arith, length, take}
use Rattle.graphs.specs.Graph.{Graph, Sound}
use Rattle.graphs.specs.Lasso.{MarkedLoop}
use Rattle.graphs.proofs.Tests.{either}
use Rattle.graphs.proofs.Lasso.{lasso_marked_loop}
use Rattle.graphs.proofs.Every.{every_at, every_not}
use Rattle.graphs.proofs.Change.{upd_same, upd_ind}
use Rattle.moves.specs.declared.Place.TheVariants.{Done}
use Rattle.moves.specs.Place.{is_done}
use Rattle.moves.specs.Machine.{Machine, start}
use Rattle.moves.specs.Changes.{takes}
use Rattle.moves.specs.Moves.{Made, turn}
use Rattle.moves.specs.Run.{Answer, cycle, none, undecided, all_done, quiet, answer_to, Result, begin, next, unless_answered, step, run_from, run}
use Rattle.theory.specs.Rules.{Hits}
use Rattle.theory.specs.Stacks.{Shallow}
use Rattle.theory.specs.Invariant.{SeedAt, Invariant}
use Rattle.theory.specs.Turns.{Named, word_of, word_cycle, Decided, Right, Stands, AllShallow, SeedsInside}
use Rattle.theory.proofs.Rules.{obeys}
use Rattle.theory.proofs.Depth.{local_shallow, seed_below}
use Rattle.theory.proofs.Hit.{hit_lasso, hit_once}
use Rattle.theory.proofs.Whole.{Keeps, keeps, begins, none_right}
use Rattle.theory.proofs.Idle.{is_done_lem}

pub decided : (a : Answer) → (a ≡ undecided → ⊥) → Decided a
decided (cycle stem loop) h = tt
decided none h = tt
decided undecided h = h refl

module _ (g : Graph) (P : ℕ) where
  -- one list after another
  pub run_join : (r : Result) (l k : List ℕ) → run_from g P r (l ++ k) ≡ run_from g P (run_from g P r l) k
  unfolding run_from
  run_join r [] k = refl
  run_join r (p ∷ l) k = run_join (step g P r p) l k

  -- without an answer yet, a turn makes the one move that the rules give its worker
  pub step_goes : (r : Result) (p : ℕ) → r.answer ≡ undecided → step g P r p ≡ next P p r (turn g p r.machine)
  unfolding step
  step_goes r p e = ap (λ a. unless_answered a r (next P p r (turn g p r.machine))) e

  -- turns after an answer are not run
  pub step_stays : (r : Result) (p : ℕ) → Decided r.answer → step g P r p ≡ r
  unfolding step
  step_stays r p = go r.answer
    where
      go : (a : Answer) → Decided a → unless_answered a r (next P p r (turn g p r.machine)) ≡ r
      go (cycle stem loop) d = refl
      go none d = refl
      go undecided d = absurd d

  pub run_stays : (r : Result) (l : List ℕ) → Decided r.answer → run_from g P r l ≡ r
  unfolding run_from
  run_stays r [] d = refl
  run_stays r (p ∷ l) d = rw (step_stays r p d) (run_stays r l d)

  -- a turn leaves the result as it is, or makes of it what the rules say
  pub step_ind : (Q : Result → Type 0) (r : Result) (p : ℕ) → Q r → (r.answer ≡ undecided → Q (next P p r (turn g p r.machine)))
      → Q (step g P r p)
  step_ind Q r p stays goes = go r.answer refl
    where
      go : (a : Answer) → r.answer ≡ a → Q (step g P r p)
      go (cycle stem loop) e = rw (step_stays r p (rw e tt)) stays
      go none e = rw (step_stays r p (rw e tt)) stays
      go undecided e = rw (step_goes r p e) (goes e)

  pub open_before : (r : Result) (l : List ℕ) → (run_from g P r l).answer ≡ undecided → r.answer ≡ undecided
  open_before r l e = go r.answer refl
    where
      go : (a : Answer) → r.answer ≡ a → a ≡ undecided
      go (cycle stem loop) q = sym q ∙ sym (ap (λ k. k.answer) (run_stays r l (rw q tt))) ∙ e
      go none q = sym q ∙ sym (ap (λ k. k.answer) (run_stays r l (rw q tt))) ∙ e
      go undecided q = refl

  -- answers that are right of one graph have the same word
  pub words_agree : (m m' : Machine) (a b : Answer) → Right g P m a → Right g P m' b → Decided a → Decided b → word_of a ≡ word_of b
  words_agree m m' (cycle s t) (cycle s' t') x y d c = refl
  words_agree m m' (cycle s t) none x y d c = absurd (y (lasso_marked_loop g s t x.0))
  words_agree m m' (cycle s t) undecided x y d c = absurd c
  words_agree m m' none (cycle s t) x y d c = absurd (x (lasso_marked_loop g s t y.0))
  words_agree m m' none none x y d c = refl
  words_agree m m' none undecided x y d c = absurd c
  words_agree m m' undecided b x y d c = absurd d

  -- where there is a loop, a decided answer is "cycle"
  pub word_finds : (m : Machine) (a : Answer) → Right g P m a → Decided a → MarkedLoop g → word_of a ≡ word_cycle
  word_finds m (cycle s t) x d l = refl
  word_finds m none x d l = absurd (x l)
  word_finds m undecided x d l = absurd d

  -- "undecided" only if the list ran out: every turn of it is used
  pub all_used : (r : Result) (l : List ℕ) → (run_from g P r l).answer ≡ undecided → (run_from g P r l).used ≡ r.used + length l
  unfolding run_from
  all_used r [] e = omega arith
  all_used r (p ∷ l) e =
      let one = ap (λ k. k.used) (step_goes r p (open_before r (p ∷ l) e)) in
      let rest = all_used (step g P r p) l e in
      omega (arith, one, rest)

  -- the turns used are the first of the list, and they give the result
  pub used_turns : (r : Result) (l : List ℕ)
      → (k : ℕ) × (k ≤ length l) × ((run_from g P r l).used ≡ r.used + k) × (run_from g P r (take k l) ≡ run_from g P r l)
  unfolding run_from
  used_turns r [] = (0, omega arith, omega arith, refl)
  used_turns r (p ∷ l) = go r.answer refl (used_turns (step g P r p) l)
    where
      stays : Decided r.answer
          → (k : ℕ) × (k ≤ suc (length l)) × ((run_from g P r (p ∷ l)).used ≡ r.used + k) × (run_from g P r (take k (p ∷ l)) ≡ run_from g P r (p ∷ l))
      stays d = let e = run_stays r (p ∷ l) d in (0, omega arith, omega (arith, ap (λ k. k.used) e), sym e)

      go : (a : Answer) → r.answer ≡ a
          → (k : ℕ) × (k ≤ length l) × ((run_from g P (step g P r p) l).used ≡ (step g P r p).used + k)
          × (run_from g P (step g P r p) (take k l) ≡ run_from g P (step g P r p) l)
          → (k : ℕ) × (k ≤ suc (length l)) × ((run_from g P r (p ∷ l)).used ≡ r.used + k) × (run_from g P r (take k (p ∷ l)) ≡ run_from g P r (p ∷ l))
      go (cycle stem loop) e rest = stays (rw e tt)
      go none e rest = stays (rw e tt)
      go undecided e (k, le, used, same) = (suc k, omega arith, omega (arith, used, ap (λ i. i.used) (step_goes r p e)), same)

  module _ (sound : Sound g) (some : 0 < P) where
    -- after a move that keeps the invariant
    quietly : (m : Machine) → Invariant g P m → Right g P m (quiet P m)
    unfolding all_done
    quietly m v = go (either (all_done P m))
      where
        done : all_done P m ≡ true → (q : ℕ) → q < P → (m.worker q).place ≡ Done
        done e q h = is_done_lem (m.worker q).place (every_at P (λ i. is_done (m.worker i).place) e q h)

        go : (all_done P m ≡ true) ⊎ (all_done P m ≡ false) → Right g P m (cond (all_done P m) none undecided)
        go (inl e) = rw e (none_right v some (done e))
        go (inr e) = rw e (v, e)

    module _ (p : ℕ) (m : Machine) (h : p < P) (v : Invariant g P m) where
      kept : Keeps g P p (turn g p m) ⊎ Hits g p m (turn g p m)
      kept = keeps sound v h (turn g p m) (obeys g p m (v.local p))

      -- after every move the answer is right
      pub turn_right : Right g P (turn g p m).machine (answer_to P p (turn g p m).machine (turn g p m).move)
      turn_right = go (turn g p m) kept
        where
          go : (a : Made) → Keeps g P p a ⊎ Hits g p m a → Right g P a.machine (answer_to P p a.machine a.move)
          go a (inl k) = rw k.1 (quietly a.machine k.0)
          go a (inr k) =
              let lasso = hit_lasso (v.local p) k.place_is k.stack_is sound k.successors_are k.is_cyan in
              let once = hit_once (v.local p) k.place_is k.stack_is k.taken in
              rw (k.made, upd_same m.worker p (takes (m.worker p) k.top)) (lasso, once)

      -- the stacks are shallow, also after a hit, which leaves them as they are
      pub turn_shallow : AllShallow g (turn g p m).machine
      turn_shallow = go (turn g p m) kept
        where
          go : (a : Made) → Keeps g P p a ⊎ Hits g p m a → AllShallow g a.machine
          go a (inl k) = λ q. local_shallow sound (k.0.local q)
          go a (inr k) =
              rw k.made
              (upd_ind (λ q w. Shallow g.size w.outer w.inner) m.worker p (takes (m.worker p) k.top)
              (local_shallow sound (v.local p)) (λ q ne. local_shallow sound (v.local q)))

      -- and so is every seed a state
      pub turn_seeds : SeedsInside g (turn g p m).machine
      turn_seeds = go (turn g p m) kept
        where
          go : (a : Made) → Keeps g P p a ⊎ Hits g p m a → SeedsInside g a.machine
          go a (inl k) = λ q. seed_below sound (k.0.local q)
          go a (inr k) =
              rw k.made
              (upd_ind (λ q w. (z : ℕ) → SeedAt w.place z → z < g.size) m.worker p (takes (m.worker p) k.top)
              (seed_below sound (v.local p)) (λ q ne. seed_below sound (v.local q)))

    pub step_stands : (r : Result) (p : ℕ) → p < P → Stands g P r → Stands g P (step g P r p)
    step_stands r p h st = step_ind (Stands g P) r p st (λ e. turn_right p r.machine h (rw e at st).0)

    -- What a turn keeps that is run from a machine with the invariant holds wherever turns lead.
    pub run_ind : (Q : Result → Type 0)
        → ((r : Result) (p : ℕ) → p < P → Invariant g P r.machine → Q r → Q (next P p r (turn g p r.machine)))
        → (r : Result) (l : List ℕ) → Named P l → Stands g P r → Q r → Q (run_from g P r l)
    unfolding run_from
    run_ind Q keep r [] n st h = h
    run_ind Q keep r (p ∷ l) n st h =
        let below = n p (inl refl) in
        let one = step_ind Q r p h (λ e. keep r p below (rw e at st).0 h) in
        run_ind Q keep (step g P r p) l (λ q m. n q (inr m)) (step_stands r p below st) one

    pub run_stands : (r : Result) (l : List ℕ) → Named P l → Stands g P r → Stands g P (run_from g P r l)
    run_stands r l n st = run_ind (Stands g P) (λ k p h v s. turn_right p k.machine h v) r l n st st

    pub begin_stands : Stands g P begin
    unfolding all_done
    begin_stands = (begins g P, every_not P (λ q. is_done (start.worker q).place) 0 some refl)

    pub run_shallow : (l : List ℕ) → Named P l → AllShallow g (run g P l).machine
    run_shallow l n =
        run_ind (λ k. AllShallow g k.machine) (λ k p h v s. turn_shallow p k.machine h v) begin l n begin_stands
        (λ q. local_shallow sound ((begins g P).local q))

    pub run_seeds : (l : List ℕ) → Named P l → SeedsInside g (run g P l).machine
    run_seeds l n =
        run_ind (λ k. SeedsInside g k.machine) (λ k p h v s. turn_seeds p k.machine h v) begin l n begin_stands
        (λ q. seed_below sound ((begins g P).local q))

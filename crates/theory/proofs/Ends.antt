-- Every run ends. No list holds more changing moves than `most_moves`, and a stretch that names every worker and brings no answer has at least
-- one; so a list of as many such stretches as `most_moves` says brings an answer, and the run to the end is such a list.
use Rattle.std.proofs.Common.{ℕ, zero, suc, ◌+◌, ◌-◌, ◌<◌, ◌≤◌, ◌≡◌, refl, sym, ap, subst, ◌∙◌, true, false, List, [], ◌∷◌, ◌++◌, append_assoc, ◌⊎◌, inl, inr}
use Rattle.std.proofs.Common.{◌≢◌, ⊎_elim, arith, le_refl, le_trans, zero-add, suc-add}
use Rattle.graphs.specs.Lists.{Mem}
use Rattle.graphs.specs.Graph.{Graph, Sound}
use Rattle.graphs.proofs.Tests.{either, clash}
use Rattle.graphs.proofs.Every.{every_of}
use Rattle.graphs.proofs.Member.{mem_left, mem_right, mem_cases}
use Rattle.moves.specs.declared.Place.TheVariants.{Done}
use Rattle.moves.specs.Place.{is_done}
use Rattle.moves.specs.Moves.{turn}
use Rattle.moves.specs.Tally.{changes}
use Rattle.moves.specs.Run.{undecided, all_done, Result, begin, next, step, run_from, run, up_from, rounds, run_rounds}
use Rattle.moves.proofs.UpFrom.{up_from_below, up_from_all}
use Rattle.theory.specs.Rules.{Rule}
use Rattle.theory.specs.Invariant.{Invariant}
use Rattle.theory.specs.Turns.{Named, NamesAll, CanMove, Counts, Cut, Decided, Stands}
use Rattle.theory.specs.Cost.{total}
use Rattle.theory.proofs.Rules.{obeys}
use Rattle.theory.proofs.Idle.{Kind, counted, passed_over, kind, still}
use Rattle.theory.proofs.Progress.{progress}
use Rattle.theory.proofs.Run.{run_join, step_goes, run_stays, open_before, step_stands, run_ind, run_stands}
use Rattle.theory.proofs.Total.{falls, paid, no_more}

module _ (g : Graph) (sound : Sound g) (P : ℕ) (some : 0 < P) where
  -- the moves that are left
  abbrev due : Result → ℕ
  due r = total g P r.machine

  -- what the rules make of a result without an answer
  module _ (r : Result) (st : Stands g P r) (e : r.answer ≡ undecided) where
    invariant : Invariant g P r.machine
    invariant = (rw e at st).0

    rule : (p : ℕ) → Rule g p r.machine (turn g p r.machine)
    rule p = obeys g p r.machine (invariant.local p)

    pub can_move : (p : ℕ) × (p < P) × CanMove g r.machine p
    unfolding all_done
    can_move = ⊎_elim (λ k. k) (λ all. absurd (clash (done all) (rw e at st).1)) (progress sound invariant)
      where
        done : ((q : ℕ) → q < P → (r.machine.worker q).place ≡ Done) → all_done P r.machine ≡ true
        done all = every_of P (λ q. is_done (r.machine.worker q).place) (λ q h. ap is_done (all q h))

    step_falls : (p : ℕ) → p < P → CanMove g r.machine p → due (step g P r p) < due r
    step_falls p h c = rw (step_goes g P r p e) (falls sound invariant h (turn g p r.machine) (rule p) c)

    step_still : (p : ℕ) → changes (turn g p r.machine).move ≡ false → (step g P r p).machine ≡ r.machine
    step_still p c = rw (step_goes g P r p e) (still (turn g p r.machine) (rule p) c).0

    pub change_differs : (p : ℕ) → p < P → CanMove g r.machine p → (turn g p r.machine).machine ≢ r.machine
    change_differs p h c same = omega (arith, falls sound invariant h (turn g p r.machine) (rule p) c, ap (total g P) same)

    -- the tally's count of moves rises by one at a turn that changes the machine, and at no other
    pub step_counts : (p : ℕ) → p < P → Counts r (step g P r p)
    step_counts p h = rw (step_goes g P r p e) (go (kind (turn g p r.machine) (rule p)))
      where
        go : Kind g p r.machine (turn g p r.machine) → Counts r (next P p r (turn g p r.machine))
        go (counted c up) = inl (up r.tally, change_differs p h c)
        go (passed_over c same stays idle) = inr (same r.tally, stays)

  -- the moves counted and those that are left are never more than before
  pub run_paid : (r : Result) (l : List ℕ) → Named P l → Stands g P r
      → (run_from g P r l).tally.moves + due (run_from g P r l) ≤ r.tally.moves + due r
  run_paid r l n st =
      run_ind g P sound some (λ k. k.tally.moves + due k ≤ r.tally.moves + due r)
      (λ k p h v le. le_trans (paid sound v h (turn g p k.machine) (obeys g p k.machine (v.local p)) k.tally) le) r l n st (le_refl _)

  -- and those that are left never rise
  run_no_more : (r : Result) (l : List ℕ) → Named P l → Stands g P r → due (run_from g P r l) ≤ due r
  run_no_more r l n st =
      run_ind g P sound some (λ k. due k ≤ due r)
      (λ k p h v le. le_trans (no_more sound v h (turn g p k.machine) (obeys g p k.machine (v.local p))) le) r l n st (le_refl _)

  -- p can make a changing move, and p comes up: by then somebody has made one
  comes_up : (r : Result) (l : List ℕ) → Named P l → Stands g P r → (run_from g P r l).answer ≡ undecided
      → (p : ℕ) → CanMove g r.machine p → Mem p l → due (run_from g P r l) < due r
  unfolding run_from
  comes_up r [] n st e p c on = elim on [ ]
  comes_up r (q ∷ l) n st e p c on = go (either (changes (turn g q r.machine).move)) on (comes_up (step g P r q) l named st' e p)
    where
      named : Named P l
      named i k = n i (inr k)

      is_open : r.answer ≡ undecided
      is_open = open_before g P r (q ∷ l) e

      st' : Stands g P (step g P r q)
      st' = step_stands g P sound some r q (n q (inl refl)) st

      go : CanMove g r.machine q ⊎ (changes (turn g q r.machine).move ≡ false) → Mem p (q ∷ l)
          → (CanMove g (step g P r q).machine p → Mem p l → due (run_from g P (step g P r q) l) < due (step g P r q))
          → due (run_from g P (step g P r q) l) < due r
      go (inl moves) k rest = omega (arith, step_falls r st is_open q (n q (inl refl)) moves, run_no_more (step g P r q) l named st')
      go (inr idles) (inl s) rest = absurd (clash c (rw s idles))
      go (inr idles) (inr k) rest =
          let same = step_still r st is_open q idles in
          omega (arith, rest (rw same c) k, ap (total g P) same)

  -- a stretch that names every worker and brings no answer
  stretch_falls : (r : Result) (l : List ℕ) → Named P l → NamesAll P l → Stands g P r → (run_from g P r l).answer ≡ undecided
      → due (run_from g P r l) < due r
  stretch_falls r l n all st e = let k = can_move r st (open_before g P r l e) in comes_up r l n st e k.0 k.2 (all k.0 k.1)

  pub cut_ends : (k : ℕ) (r : Result) (l : List ℕ) → Cut P k l → Named P l → Stands g P r → due r ≤ k
      → (run_from g P r l).answer ≡ undecided → ⊥
  cut_ends zero r l cut n st le e =
      let is_open = open_before g P r l e in
      let k = can_move r st is_open in
      omega (arith, step_falls r st is_open k.0 k.1 k.2)
  cut_ends (suc k) r l (s, t, q, all, cut) n st le e =
      cut_ends k (run_from g P r s) t cut (λ i m. n i (rw q (mem_right i s t m))) (run_stands g P sound some r s named st) fell e'
    where
      named : Named P s
      named i m = n i (rw q (mem_left i s t m))

      e' : (run_from g P (run_from g P r s) t).answer ≡ undecided
      e' = ap (λ k. k.answer) (sym (run_join g P r s t)) ∙ subst (λ k. (run_from g P r k).answer ≡ undecided) q e

      fell : due (run_from g P r s) ≤ k
      fell = omega (arith, stretch_falls r s named all st (open_before g P (run_from g P r s) t e'))

pub rounds_named : (P k : ℕ) → Named P (rounds P k)
unfolding rounds
rounds_named P zero p m = absurd m
rounds_named P (suc k) p m = ⊎_elim (up_from_below 0 P P (omega arith) p) (rounds_named P k p) (mem_cases p (up_from 0 P) (rounds P k) m)

pub rounds_cut : (P k : ℕ) → Cut P k (rounds P k)
unfolding rounds
rounds_cut P zero = refl
rounds_cut P (suc k) = (up_from 0 P, rounds P k, refl, λ p h. up_from_all 0 P p (omega arith) (omega arith), rounds_cut P k)

-- rounds after rounds
rounds_join : (P j k : ℕ) → rounds P (j + k) ≡ rounds P j ++ rounds P k
unfolding rounds
rounds_join P zero k = ap (rounds P) (zero-add k)
rounds_join P (suc j) k =
    let one = up_from 0 P in
    rw (suc-add j k) (ap (λ l. one ++ l) (rounds_join P j k) ∙ sym (append_assoc one (rounds P j) (rounds P k)))

-- more rounds after an answer change nothing
pub rounds_longer : (g : Graph) (P i j : ℕ) → i ≤ j → Decided (run_rounds g P i).answer → run_rounds g P j ≡ run_rounds g P i
rounds_longer g P i j h d =
    let e : i + (j - i) ≡ j = omega arith in
    ap (run_rounds g P) (sym e) ∙ ap (run g P) (rounds_join P i (j - i)) ∙ run_join g P begin (rounds P i) (rounds P (j - i))
    ∙ run_stays g P (run_rounds g P i) (rounds P (j - i)) d

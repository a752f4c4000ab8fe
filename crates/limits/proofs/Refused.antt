-- Laws of `refusal_of`: the turn list counts last; no refusal means that all five checks passed; the numbers are 9 to 13; and what `check` and
-- `Plan::fits` rest on.
use Prim.Native.Nat.{ℕ, suc, ◌*◌, ◌<◌, ◌≤◌}
use mathlib.Core.Path.{◌≡◌, refl, sym}
use mathlib.Core.Bool.{Bool, true, false, cond, not}
use mathlib.Core.List.{List, [], ◌∷◌}
use mathlib.Core.Logic.{◌⊎◌, inl, inr}
use lib.Dec.{eqb}
use lib.ListN.{length, get_or}
use native.Mathlib.Omega.{arith}
use borrow.Author.Tests.{leb-true, ltb-true, lt-ltb}
use Rattle.graphs.specs.Lists.{all}
use Rattle.std.specs.Prelude.{All, IsTrue, ◌↔◌}
use Rattle.graphs.specs.Words.{is_graph, most_states}
use Rattle.graphs.proofs.Words.{words_are}
use Rattle.graphs.proofs.Member.{mem_place}
use Rattle.graphs.proofs.Same.{all_at}
use Rattle.graphs.proofs.Tests.{and_cases, clash, not_both}
use Rattle.moves.specs.Room.{room_size}
use Rattle.theory.specs.Turns.{Named}
use Rattle.limits.specs.Refusals.{most_workers, workers_fit, room_fits, lasso_fits, turns_fit, refusal_of}

-- the five checks, in order
abbrev first_of : (a b c d e : Bool) → ℕ
first_of a b c d e = cond (not a) 9 (cond (not b) 10 (cond (not c) 11 (cond (not d) 12 (cond (not e) 13 0))))

last_check : (a b c d e : Bool) → first_of a b c d e ≡ cond (eqb (first_of a b c d true) 0) (cond (not e) 13 0) (first_of a b c d true)
last_check false b c d e = refl
last_check true false c d e = refl
last_check true true false d e = refl
last_check true true true false e = refl
last_check true true true true e = refl

all_passed : (a b c d e : Bool) → first_of a b c d e ≡ 0 → (a ≡ true) × (b ≡ true) × (c ≡ true) × (d ≡ true) × (e ≡ true)
all_passed false b c d e h = absurd (omega arith)
all_passed true false c d e h = absurd (omega arith)
all_passed true true false d e h = absurd (omega arith)
all_passed true true true false e h = absurd (omega arith)
all_passed true true true true false h = absurd (omega arith)
all_passed true true true true true h = (refl, refl, refl, refl, refl)

first_low : (a b c d e : Bool) → (first_of a b c d e ≡ 0) ⊎ ((9 ≤ first_of a b c d e) × (first_of a b c d e ≤ 13))
first_low false b c d e = inr (omega arith, omega arith)
first_low true false c d e = inr (omega arith, omega arith)
first_low true true false d e = inr (omega arith, omega arith)
first_low true true true false e = inr (omega arith, omega arith)
first_low true true true true false = inr (omega arith, omega arith)
first_low true true true true true = inl refl

pub workers_few : (P : ℕ) → workers_fit P ≡ true → (0 < P) × (P ≤ most_workers)
workers_few P t = let parts = and_cases _ _ t in (leb-true 1 P parts.0, leb-true P most_workers parts.1)

pub turns_named : (turns : List ℕ) (P : ℕ) → turns_fit turns P ≡ true → Named P turns
turns_named turns P t p m = let at = mem_place p turns m in rw at.2 at (ltb-true _ P (all_at _ turns t at.0 0 at.1))

-- what it means that no refusal is given
pub record Fine (room lasso : ℕ) (turns offsets targets flags : List ℕ) (P : ℕ) : Type 0 where
  pub some : 0 < P
  pub few : P ≤ most_workers
  pub graph : is_graph offsets targets flags ≡ true
  pub room_fits : room_size (length flags) P ≤ room
  pub lasso_fits : 2 * length flags ≤ lasso
  pub named : Named P turns

module _ (room lasso : ℕ) (turns offsets targets flags : List ℕ) (P : ℕ) where
  abbrev a : Bool
  a = workers_fit P

  abbrev b : Bool
  b = is_graph offsets targets flags

  abbrev c : Bool
  c = room_fits room (length flags) P

  abbrev d : Bool
  d = lasso_fits lasso (length flags)

  abbrev e : Bool
  e = turns_fit turns P

  pub refusal_turns :
      refusal_of room lasso turns offsets targets flags P
      ≡ cond (eqb (refusal_of room lasso [] offsets targets flags P) 0) (cond (not e) 13 0) (refusal_of room lasso [] offsets targets flags P)
  unfolding refusal_of all
  refusal_turns = last_check a b c d e

  pub fine : refusal_of room lasso turns offsets targets flags P ≡ 0 → Fine room lasso turns offsets targets flags P
  unfolding refusal_of
  fine h =
      let passed = all_passed a b c d e h in
      let workers = workers_few P passed.0 in
      record {
        some = workers.0;
        few = workers.1;
        graph = passed.1;
        room_fits = leb-true _ _ passed.2;
        lasso_fits = leb-true _ _ passed.3;
        named = turns_named turns P passed.4;
      }

  pub refusal_low :
      (refusal_of room lasso turns offsets targets flags P ≡ 0)
      ⊎ ((9 ≤ refusal_of room lasso turns offsets targets flags P) × (refusal_of room lasso turns offsets targets flags P ≤ 13))
  unfolding refusal_of
  refusal_low = first_low a b c d e

-- what `check` knows where it asks for the room's size
pub few_workers : (P : ℕ) → workers_fit P ≡ true → P ≤ most_workers
few_workers P t = (workers_few P t).1

pub few_states : (offsets targets flags : List ℕ) → is_graph offsets targets flags ≡ true → length flags ≤ most_states
few_states offsets targets flags t = (words_are offsets targets flags t).few

pub ruleset few = (few_workers, few_states)

-- a test that holds at each place of a list
all_of : (f : ℕ → Bool) (l : List ℕ) → ((i : ℕ) → i < length l → f (get_or l i 0) ≡ true) → all f l ≡ true
unfolding all
all_of f [] h = refl
all_of f (x ∷ l) h = rw (h 0 (omega arith)) (all_of f l (λ i k. h (suc i) (omega arith)))

-- from what an iterator finds of the turns to `turns_fit`
pub fits_is : (r : Bool) (turns : List ℕ) (P : ℕ) → IsTrue r ↔ All (λ p. p < P) turns → r ≡ turns_fit turns P
fits_is true turns P h = sym (all_of _ turns (λ i k. lt-ltb _ _ (h.0 refl i 0 k)))
fits_is false turns P h = sym (not_both (λ e. clash (h.1 (λ i d k. ltb-true _ _ (all_at _ turns e i d k))) refl))

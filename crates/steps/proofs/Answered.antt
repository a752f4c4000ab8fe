-- The verdict that is read from the room after a move stands for the machine's answer.
use Prim.Native.Nat.{ℕ, suc, ◌+◌, ◌*◌, ◌<◌, ◌≤◌}
use mathlib.Core.Path.{◌≡◌, refl, ap, ◌∙◌}
use mathlib.Core.Bool.{Bool, true, false, cond}
use mathlib.Core.List.{List}
use lib.Dec.{eqb}
use lib.ListN.{length}
use native.Mathlib.Omega.{arith}
use Rattle.std.specs.Prelude.{Option, None, Some}
use Rattle.graphs.proofs.Every.{every_ext}
use Rattle.graphs.specs.Graph.{Graph, graph}
use Rattle.graphs.specs.Words.{graph_of}
use Rattle.graphs.proofs.Change.{upd_same}
use Rattle.moves.specs.declared.Place.{Place}
use Rattle.moves.specs.declared.Place.TheVariants.{Fresh, Outer, Inner, Waiting, Done}
use Rattle.moves.specs.declared.Move.{Move}
use Rattle.moves.specs.declared.Move.TheVariants.{Start, Skip, Enter, Leave, Seed, Hit, Pass, Join, Back, Paint, Wait, Rest}
use Rattle.moves.specs.declared.Tally.{Tally}
use Rattle.moves.specs.Place.{is_done}
use Rattle.moves.specs.Machine.{Machine}
use Rattle.moves.specs.Changes.{takes}
use Rattle.moves.specs.Moves.{Made, turn}
use Rattle.moves.specs.Room.{kind_word, stretch_at, room_size, AllFit}
use Rattle.moves.specs.Run.{none, undecided, all_done, quiet, answer_to}
use Rattle.moves.specs.Tally.{raised}
use Rattle.moves.proofs.Words.{Seen, own_word, last_at, long}
use Rattle.theory.specs.Rules.{Rule, by_start, by_skip, by_enter, by_leave, by_seed, by_hit, by_pass, by_join, by_back, by_paint, by_wait}
use Rattle.theory.specs.Rules.{by_rest}
use Rattle.theory.proofs.Demands.{graph_of_words}
use Rattle.theory.proofs.Run.{turn_shallow}
use Rattle.turn.proofs.Given as before
use Rattle.turn.proofs.Given.{Given}
use Rattle.turn.specs.Turn.{Formed, Turned}
use Rattle.steps.specs.declared.Verdict.{Verdict}
use Rattle.steps.specs.declared.Verdict.TheVariants.{Quiet, Found}
use Rattle.steps.specs.Verdict.{answer_of, all_done_in, verdict_by, verdict_in, verdict_of}
use Rattle.steps.specs.Steps.{Held, Stepped}

kind_done : (q : Place) → eqb (kind_word q) 4 ≡ is_done q
kind_done Fresh = refl
kind_done Outer = refl
kind_done (Inner z) = refl
kind_done (Waiting z) = refl
kind_done Done = refl

-- the answer that a verdict stands for is the machine's
module _ (P p : ℕ) (m : Machine) where
  quiet_stands : answer_of m p (cond (all_done P m) (Some Quiet) None) ≡ quiet P m
  quiet_stands = go (all_done P m)
    where
      go : (b : Bool) → answer_of m p (cond b (Some Quiet) None) ≡ cond b none undecided
      go true = refl
      go false = refl

  pub verdict_stands : (made : Move) → answer_of m p (verdict_of P m made) ≡ answer_to P p m made
  verdict_stands Start = quiet_stands
  verdict_stands (Skip s) = quiet_stands
  verdict_stands (Enter s x) = quiet_stands
  verdict_stands (Leave s) = quiet_stands
  verdict_stands (Seed s) = quiet_stands
  verdict_stands (Hit s x) = refl
  verdict_stands (Pass s) = quiet_stands
  verdict_stands (Join s x) = quiet_stands
  verdict_stands (Back z s) = quiet_stands
  verdict_stands (Paint z) = quiet_stands
  verdict_stands Wait = quiet_stands
  verdict_stands Rest = quiet_stands

-- what holds where a lasso is found
abbrev pub AtFound : Type 0 → Option Verdict → Type 0
AtFound A None = Unit {0}
AtFound A (Some Quiet) = Unit {0}
AtFound A (Some (Found x)) = A

quiet_found : (A : Type 0) (done : Bool) → AtFound A (cond done (Some Quiet) None)
quiet_found A true = tt
quiet_found A false = tt

-- the inner stack is not empty there
pub verdict_deep : {g : Graph} {p : ℕ} {m : Machine} {made : Made} → Rule g p m made → (done : Bool)
    → AtFound (0 < length (made.machine.worker p).inner) (verdict_by made.move done)
verdict_deep (by_start e) done = quiet_found _ done
verdict_deep (by_skip e o r c) done = quiet_found _ done
verdict_deep (by_enter e o r c) done = quiet_found _ done
verdict_deep (by_leave e o r c) done = quiet_found _ done
verdict_deep (by_seed e o r c) done = quiet_found _ done
verdict_deep {p} {m} (by_hit {s} {u} e o r c) done =
    let deep : length (m.worker p).inner ≡ suc (length u) = ap length o in
    rw (upd_same m.worker p (takes (m.worker p) s)) (omega (arith, deep))
verdict_deep (by_pass e o r c d) done = quiet_found _ done
verdict_deep (by_join e o r c d) done = quiet_found _ done
verdict_deep (by_back e o r) done = quiet_found _ done
verdict_deep (by_paint e o c) done = quiet_found _ done
verdict_deep (by_wait e c) done = quiet_found _ done
verdict_deep (by_rest e) done = quiet_found _ done

-- every worker is done, as the room says it
all_done_is : (n P : ℕ) (m : Machine) (rest l : List ℕ) → Seen n P m rest l → all_done_in n P l ≡ all_done P m
unfolding all_done_in all_done
all_done_is n P m rest l seen =
    every_ext P _ _
    (λ q h.
    let at : stretch_at n q + 5 * n ≡ stretch_at n q + (5 * n + 0) = omega arith in
    let word = own_word n P q h m rest l seen (5 * n + 0) (omega arith) ∙ last_at n (m.worker q) (seen.fits q h) 0 in
    rw (at, word) (kind_done (m.worker q).place))

pub verdict_is : (n P : ℕ) (m : Machine) (rest l : List ℕ) → Seen n P m rest l → (made : Move) → verdict_in n P made l ≡ verdict_of P m made
verdict_is n P m rest l seen made = ap (verdict_by made) (all_done_is n P m rest l seen)

-- the room of a machine is long enough for it
pub room_held : {offsets targets flags : List ℕ} {P p : ℕ} {m : Machine} {rest l : List ℕ} → Held offsets targets flags P → p < P
    → Formed offsets targets flags P m rest l → room_size (length flags) P ≤ length l
room_held {offsets} {targets} {flags} {P} {p} {m} {rest} {l} held named formed =
    let given : Given offsets targets flags P p m rest l = record { is = held.graph; named = named; formed = formed } in
    omega (arith, long (length flags) P m rest l (before.seen given))

-- a turn and its verdict, on a machine that the room is the form of
module _ {offsets targets flags : List ℕ} {P p : ℕ} {m : Machine} {rest l : List ℕ} (held : Held offsets targets flags P) (named : p < P)
    (formed : Formed offsets targets flags P m rest l) {made : Move} {l' : List ℕ} (turned : Turned offsets targets flags p P m rest l' made) where
  abbrev g : Graph
  g = graph_of offsets targets flags

  abbrev n : ℕ
  n = length flags

  fits : AllFit n P (turn g p m).machine
  unfolding graph_of graph
  fits =
      let s = turn_shallow g P (graph_of_words offsets targets flags held.graph) held.some p m named formed.inv in
      λ q h. record { outer_fits = (s q).outer_deep; inner_fits = (s q).inner_deep }

  seen : Seen n P (turn g p m).machine rest l'
  seen = record { form = turned.room'; fits = fits }

  pub room_held_after : room_size n P ≤ length l'
  room_held_after = omega (arith, long n P (turn g p m).machine rest l' seen)

  pub stepped : {t t' : Tally} {r : Option Verdict} → t' ≡ raised t made → r ≡ verdict_in n P made l'
      → Stepped offsets targets flags P p m rest t r l' t'
  stepped {t} e v =
      record {
        form = turned.room';
        tally = e ∙ ap (raised t) turned.move;
        verdict =
            v ∙ ap (λ k. verdict_in n P k l') turned.move ∙ verdict_is n P (turn g p m).machine rest l' seen (turn g p m).move;
      }

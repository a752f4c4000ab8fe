-- What a run leaves: what it tells, and every word that was lent to it.
use Rattle.std.specs.Prelude.{ℕ, cond, List, [], ◌++◌, eqb, length, drop, Result as Result·std}
use Rattle.graphs.specs.Words.{graph_of}
use Rattle.moves.specs.declared.Tally.{Tally}
use Rattle.moves.specs.Room.{room_size}
use Rattle.moves.specs.Run.{Result, run}
use Rattle.theory.specs.Turns.{run_to_end}
use Rattle.limits.specs.Refusals.{refusal_of, usual}
use Rattle.limits.specs.declared.RunError.{RunError}
use Rattle.ends.specs.declared.Outcome.{Outcome}
use Rattle.ends.specs.Told.{Told, told_cycle, told_none, told_undecided, told_refusal, told, tells_of, shown}

pub record Lent : Type 0 where
  pub tells : Told
  pub room : List ℕ
  pub lasso : List ℕ
  pub tally : Tally

abbrev pub lent : Result·std Outcome RunError → List ℕ → List ℕ → Tally → Lent
lent r room lasso t = record { tells = told r; room = room; lasso = lasso; tally = t }

-- 01: "The working room holds the machine's state after the last move made"; "Words beyond the needed ones are unchanged."
unfoldable pub left : (n P : ℕ) → Result → (room lasso : List ℕ) → Lent
left n P r room lasso =
    record {
      tells = tells_of r.answer r.used;
      room = Rattle.moves.specs.Room.room n P r.machine ++ drop (room_size n P) room;
      lasso = shown r.answer lasso;
      tally = r.tally;
    }

-- 01: "a refused run changes no lent word and no tally"
abbrev pub unless : ℕ → Lent → (room lasso : List ℕ) → Tally → Lent
unless number r room lasso t = cond (eqb number 0) r (record { tells = told_refusal number 0; room = room; lasso = lasso; tally = t })

-- the run over a turn list, and the run to the end
unfoldable pub outcome : (turns offsets targets flags : List ℕ) (P : ℕ) (room lasso : List ℕ) → Tally → Lent
outcome turns offsets targets flags P room lasso t =
    unless (refusal_of (length room) (length lasso) turns offsets targets flags P)
    (left (length flags) P (run (graph_of offsets targets flags) P turns) room lasso) room lasso t

unfoldable pub outcome_to_end : (offsets targets flags : List ℕ) (workers : ℕ) (room lasso : List ℕ) → Tally → Lent
outcome_to_end offsets targets flags workers room lasso t =
    let P = usual workers in
    unless (refusal_of (length room) (length lasso) [] offsets targets flags P)
    (left (length flags) P (run_to_end (graph_of offsets targets flags) P) room lasso) room lasso t

-- "undecided" is not told
abbrev pub Settles : Told → Type 0
Settles (told_cycle stem loop used) = Unit {0}
Settles (told_none used) = Unit {0}
Settles (told_undecided used) = ⊥
Settles (told_refusal number line) = Unit {0}

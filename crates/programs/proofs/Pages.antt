-- What the functions of this crate ask of those that they call, and what those leave: the lines of a run on a graph that was read.
use Prim.Native.Nat.{ℕ, ◌+◌, ◌≤◌}
use mathlib.Core.Path.{◌≡◌, ap}
use mathlib.Core.Bool.{Bool, true, false}
use mathlib.Core.List.{List, ◌++◌}
use lib.ListN.{length}
use native.Mathlib.Omega.{arith}
use Rattle.std.specs.Prelude.{Result}
use Rattle.moves.specs.declared.Tally.{Tally}
use Rattle.moves.specs.Tally.{zeroes}
use Rattle.moves.specs.Room.{room_size}
use Rattle.limits.specs.Refusals.{usual}
use Rattle.limits.specs.declared.RunError.{RunError}
use Rattle.ends.specs.declared.Outcome.{Outcome}
use Rattle.ends.specs.Told.{told}
use Rattle.text.specs.Lists.{zeros}
use Rattle.search.specs.Outcomes.{lent, outcome_to_end}
use Rattle.search.proofs.Promises.{Call, run_is_call, end_is_call}
use Rattle.report.specs.declared.labels.Labels.{Labels}
use Rattle.report.specs.Report.{run_lines, end_lines}
use Rattle.report.specs.Shows.{label_of, Shows, ShowsEnd}
use Rattle.programs.specs.Given.{Given}
use Rattle.programs.specs.Skiffplank.{search_lines}
use Rattle.programs.specs.Replay.{ran, named, replay_lines}
use Rattle.programs.proofs.Lines.{run_long}
use Rattle.programs.proofs.Shown.{shows, short_shown, shows_end, end_long}

-- a call of the search over room and lasso room, with a tally that is 0
abbrev Called : (offsets targets flags : List ℕ) (P : ℕ) (l lasso : List ℕ) → Result Outcome RunError → (l' lasso' : List ℕ) → Tally → Type 0
Called offsets targets flags P l lasso r l' lasso' t' =
    (turns : List ℕ) × (number : ℕ) × Call offsets targets flags turns P number l lasso zeroes r l' lasso' t'

-- the run to the end with two workers
module _ {labels : Labels} (offsets targets : List ℕ) {flags : List ℕ} (r : Result Outcome RunError) {l' lasso' : List ℕ} {t' : Tally}
    (given : Given flags labels)
    (is : lent r l' lasso' t' ≡ outcome_to_end offsets targets flags 2 (zeros (room_size 256 2)) (zeros 512) zeroes) where
  searched_call : Called offsets targets flags (usual 2) (zeros (room_size 256 2)) (zeros 512) r l' lasso' t'
  searched_call = (_, _, end_is_call offsets targets flags 2 (zeros (room_size 256 2)) (zeros 512) zeroes r l' lasso' t' is)

  pub search_shows : Shows labels lasso' (told r)
  search_shows = shows given searched_call.2

  pub search_long : length lasso' ≡ 512 → length (run_lines (label_of labels) lasso' (told r) t') ≤ 16384
  search_long k = let long = run_long (label_of labels) lasso' (told r) t' (short_shown given searched_call.2) in omega (arith, k, long)

  pub search_is : run_lines (label_of labels) lasso' (told r) t' ≡ search_lines labels.text.now offsets targets flags labels.places.now
  unfolding search_lines
  search_is = ap (λ k. run_lines (label_of labels) k.lasso k.tells k.tally) is

-- either run of `replay` is one
ran_called : (ending : Bool) (turns : List ℕ) (workers : ℕ) (offsets targets flags l lasso : List ℕ) (r : Result Outcome RunError)
    (l' lasso' : List ℕ) (t' : Tally) → lent r l' lasso' t' ≡ ran ending turns workers offsets targets flags l lasso
    → Called offsets targets flags (named ending workers) l lasso r l' lasso' t'
unfolding ran named
ran_called true turns workers offsets targets flags l lasso r l' lasso' t' is =
    (_, _, end_is_call offsets targets flags workers l lasso zeroes r l' lasso' t' is)
ran_called false turns workers offsets targets flags l lasso r l' lasso' t' is =
    (_, _, run_is_call turns offsets targets flags workers l lasso zeroes r l' lasso' t' is)

module _ (ending : Bool) (turns : List ℕ) (workers : ℕ) {labels : Labels} (offsets targets : List ℕ) {flags : List ℕ}
    (r : Result Outcome RunError) {l' lasso' : List ℕ} {t' : Tally} (given : Given flags labels)
    (is : lent r l' lasso' t' ≡ ran ending turns workers offsets targets flags (zeros (room_size 4096 8)) (zeros 8192)) where
  abbrev P : ℕ
  P = named ending workers

  called : Called offsets targets flags P (zeros (room_size 4096 8)) (zeros 8192) r l' lasso' t'
  called = ran_called ending turns workers offsets targets flags (zeros (room_size 4096 8)) (zeros 8192) r l' lasso' t' is

  pub replay_shows : Shows labels lasso' (told r)
  replay_shows = shows given called.2

  pub replay_shows_end : ShowsEnd labels l' (length flags) P (told r)
  replay_shows_end = shows_end given called.2

  pub replay_long : length lasso' ≡ 8192
      → length (run_lines (label_of labels) lasso' (told r) t') + length (end_lines (label_of labels) l' (length flags) P (told r)) ≤ 196608
  replay_long k =
      let first = run_long (label_of labels) lasso' (told r) t' (short_shown given called.2) in
      let rest = end_long given called.2 in
      omega (arith, k, first, rest)

  pub replay_is : run_lines (label_of labels) lasso' (told r) t' ++ end_lines (label_of labels) l' (length flags) P (told r)
      ≡ replay_lines ending turns workers labels.text.now offsets targets flags labels.places.now
  unfolding replay_lines
  replay_is = ap (λ k. run_lines (label_of labels) k.lasso k.tells k.tally ++ end_lines (label_of labels) k.room (length flags) P k.tells) is

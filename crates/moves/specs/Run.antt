-- A run over a turn list, and the run to the end.
use Rattle.std.specs.Prelude.{ℕ, zero, suc, Bool, if◌then◌else◌, List, [], ◌∷◌, ◌++◌, reverse, ◌==◌, drop}
use Rattle.graphs.specs.Lists.{every}
use Rattle.graphs.specs.Graph.{Graph}
use Rattle.moves.specs.declared.Move.{Move}
use Rattle.moves.specs.declared.Move.TheVariants.{Start, Skip, Enter, Leave, Seed, Hit, Pass, Join, Back, Paint, Wait, Rest}
use Rattle.moves.specs.declared.Tally.{Tally}
use Rattle.moves.specs.Place.{is_done}
use Rattle.moves.specs.Machine.{Worker, Machine, start}
use Rattle.moves.specs.Moves.{Made, turn}
use Rattle.moves.specs.Tally.{zeroes, raised}

pub data Answer : Type 0 where
  cycle : (stem loop : List ℕ) → Answer
  none : Answer
  undecided : Answer

-- the part of a stack below c; and the part from its top down to c
unfoldable pub below : ℕ → List ℕ → List ℕ
below c [] = []
below c (x ∷ l) = if x == c then l else below c l

unfoldable pub down_to : ℕ → List ℕ → List ℕ
down_to c [] = []
down_to c (x ∷ l) = if x == c then x ∷ [] else x ∷ down_to c l

-- 01: "For "cycle" on taking state c: the stem is the outer stack below c; the loop is the outer stack from c up to the seed, then the inner
-- stack above the seed."
abbrev pub stem_of : Worker → ℕ → List ℕ
stem_of w c = reverse (below c w.outer)

abbrev pub loop_of : Worker → ℕ → List ℕ
loop_of w c = reverse (down_to c w.outer) ++ drop 1 (reverse w.inner)

-- 01: ""None" is the answer as soon as every worker is done."
unfoldable pub all_done : ℕ → Machine → Bool
all_done P m = every P (λ q. is_done (m.worker q).place)

abbrev pub quiet : ℕ → Machine → Answer
quiet P m = if all_done P m then none else undecided

-- the answer after worker p's move, with P workers
abbrev pub answer_to : ℕ → ℕ → Machine → Move → Answer
answer_to P p m Start = quiet P m
answer_to P p m (Skip s) = quiet P m
answer_to P p m (Enter s x) = quiet P m
answer_to P p m (Leave s) = quiet P m
answer_to P p m (Seed s) = quiet P m
answer_to P p m (Hit s x) = cycle (stem_of (m.worker p) x) (loop_of (m.worker p) x)
answer_to P p m (Pass s) = quiet P m
answer_to P p m (Join s x) = quiet P m
answer_to P p m (Back z s) = quiet P m
answer_to P p m (Paint z) = quiet P m
answer_to P p m Wait = quiet P m
answer_to P p m Rest = quiet P m

-- where a run stands: the answer, the turns used, the tally, and the machine after the last move made
pub record Result : Type 0 where
  pub answer : Answer
  pub used : ℕ
  pub tally : Tally
  pub machine : Machine

abbrev pub begin : Result
begin = record { answer = undecided; used = 0; tally = zeroes; machine = start }

-- the result after what a turn of worker p made
abbrev pub next : ℕ → ℕ → Result → Made → Result
next P p r made =
    record {
      answer = answer_to P p made.machine made.move;
      used = suc r.used;
      tally = raised r.tally made.move;
      machine = made.machine;
    }

-- 01: "Turns after an answer are not run"
abbrev pub unless_answered : Answer → Result → Result → Result
unless_answered (cycle stem loop) r later = r
unless_answered none r later = r
unless_answered undecided r later = later

-- one turn, of worker p
unfoldable pub step : Graph → ℕ → Result → ℕ → Result
step g P r p = let later = next P p r (turn g p r.machine) in unless_answered r.answer r later

-- the turns of a list, one after the other. 01: "A list that ends first, also the empty one, gives "undecided"."
unfoldable pub run_from : Graph → ℕ → Result → List ℕ → Result
run_from g P r [] = r
run_from g P r (p ∷ l) = run_from g P (step g P r p) l

abbrev pub run : Graph → ℕ → List ℕ → Result
run g P turns = run_from g P begin turns

-- the list n, n + 1, .., n + k - 1
unfoldable pub up_from : ℕ → ℕ → List ℕ
up_from n zero = []
up_from n (suc k) = n ∷ up_from (suc n) k

-- 01: "turns 0, 1, .., P−1 repeated", k times over
unfoldable pub rounds : ℕ → ℕ → List ℕ
rounds P zero = []
rounds P (suc k) = up_from 0 P ++ rounds P k

-- The run to the end, for k rounds. Turns after an answer are not run; how many rounds always bring one is proved in theory (`most_moves`), and more
-- rounds change nothing then.
abbrev pub run_rounds : Graph → ℕ → ℕ → Result
run_rounds g P k = run g P (rounds P k)

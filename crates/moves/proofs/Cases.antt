-- The cases of 01 that are marked *, as rows of a single table under one theorem, computed by the rules themselves; then small graphs on which
-- slips show, runs to the end, and rooms. A row has what 01 says of the case, and with it the whole tally, every worker's place, and whether the
-- last turn was a wait.
use Rattle.std.proofs.Common.{ℕ, ◌-◌, ◌≡◌, refl, Bool, true, false, List, [], ◌∷◌, ◌++◌, map, ltb, length, take, replicate}
use Rattle.graphs.specs.Lists.{upd, every}
use Rattle.graphs.specs.Graph.{Graph, graph, turned}
use Rattle.graphs.specs.Words.{graph_of, successors, marked}
use Rattle.moves.specs.declared.Place.{Place}
use Rattle.moves.specs.declared.Place.TheVariants.{Outer, Inner, Waiting, Done}
use Rattle.moves.specs.declared.Tally.{Tally}
use Rattle.moves.specs.Machine.{start}
use Rattle.moves.specs.Changes.{only}
use Rattle.moves.specs.Moves.{others_red, move_1, move_2, move_3, move_4, move_5, move_6, move_7, turn_at, turn}
use Rattle.moves.specs.Run.{Answer, cycle, none, undecided, Result, run, run_rounds}
use Rattle.moves.specs.Run.{below, down_to, all_done, step, run_from, up_from, rounds}
use Rattle.graphs.specs.Lists.{tab}
use Rattle.moves.specs.Room.{pile, span, spans, room}

-- what a result tells: the answer, the turns used, the tally, and the place of each worker
pub record Told : Type 0 where
  pub answer : Answer
  pub used : ℕ
  pub tally : Tally
  pub places : List Place

-- its line names what a run is made of, so that to unfold it is to let a run compute
unfoldable pub told : ℕ → Result → Told
unfolding
    up_from run_from step turn turn_at move_1 move_2 move_3 move_4 move_5 move_6 move_7 others_red only upd every
    graph_of graph successors marked turned below down_to all_done
told P r =
    record { answer = r.answer; used = r.used; tally = r.tally; places = map (λ p. (r.machine.worker p).place) (up_from 0 P) }

-- outer entries, inner entries, waits, and moves that change something
abbrev pub counts : ℕ → ℕ → ℕ → ℕ → Tally
counts outer inner waits moves = record { outer = outer; inner = inner; waits = waits; moves = moves }

abbrev pub tells : Answer → ℕ → Tally → List Place → Told
tells answer used tally places = record { answer = answer; used = used; tally = tally; places = places }

pub record Row : Type 0 where
  pub workers : ℕ
  pub words : Graph
  pub turns : List ℕ
  pub result : Told
  pub last_waits : Bool

abbrev pub row : ℕ → Graph → List ℕ → Told → Bool → Row
row workers words turns result last_waits =
    record { workers = workers; words = words; turns = turns; result = result; last_waits = last_waits }

-- what the row says, and what the rules give; the last turn was a wait if the run without it has fewer
abbrev pub said : Row → Told × Bool
said r = (r.result, r.last_waits)

unfoldable pub computed : Row → Told × Bool
computed r =
    let whole = run r.words r.workers r.turns in
    let before = run r.words r.workers (take (length r.turns - 1) r.turns) in
    (told r.workers whole, ltb before.tally.waits whole.tally.waits)

-- a line of 01, then its graph as offsets, targets and flags
abbrev pub rows : List Row
rows =
    -- a) one state `-`, no T, P = 1: turns 0 0, none, 2 moves
    row 1 (graph_of (0 ∷ 0 ∷ []) [] (0 ∷ [])) (0 ∷ 0 ∷ []) (tells none 2 (counts 1 0 0 2) (Done ∷ [])) false
    -- b) one state `a`, no T, P = 1: none after 4
    ∷ row 1 (graph_of (0 ∷ 0 ∷ []) [] (1 ∷ [])) (replicate 9 0) (tells none 4 (counts 1 1 0 4) (Done ∷ [])) false
    -- c) one state `a`, T to itself, P = 1: cycle after 4, empty stem, loop of one
    ∷ row 1 (graph_of (0 ∷ 1 ∷ []) (0 ∷ []) (1 ∷ [])) (replicate 9 0) (tells (cycle [] (0 ∷ [])) 4 (counts 1 1 0 4) (Inner 0 ∷ [])) false
    -- d) as c) with flag `-`: none after 3
    ∷ row 1 (graph_of (0 ∷ 1 ∷ []) (0 ∷ []) (0 ∷ [])) (replicate 9 0) (tells none 3 (counts 1 0 0 3) (Done ∷ [])) false
    -- e) the 0417 text, P = 2, turns 0 1 0 1 0 1 0 1 0: cycle after 9
    ∷ row 2 (graph_of (0 ∷ 1 ∷ 2 ∷ []) (1 ∷ 1 ∷ []) (0 ∷ 1 ∷ [])) (0 ∷ 1 ∷ 0 ∷ 1 ∷ 0 ∷ 1 ∷ 0 ∷ 1 ∷ 0 ∷ [])
    (tells (cycle (0 ∷ []) (1 ∷ [])) 9 (counts 4 2 0 9) (Inner 1 ∷ Inner 1 ∷ [])) false
    -- f) the same, turns 1 1 1 1 0 0 0: undecided, worker 0 done
    ∷ row 2 (graph_of (0 ∷ 1 ∷ 2 ∷ []) (1 ∷ 1 ∷ []) (0 ∷ 1 ∷ [])) (1 ∷ 1 ∷ 1 ∷ 1 ∷ 0 ∷ 0 ∷ 0 ∷ [])
    (tells undecided 7 (counts 3 1 0 7) (Done ∷ Inner 1 ∷ [])) false
    -- f) with one more 1: cycle after 8
    ∷ row 2 (graph_of (0 ∷ 1 ∷ 2 ∷ []) (1 ∷ 1 ∷ []) (0 ∷ 1 ∷ [])) (1 ∷ 1 ∷ 1 ∷ 1 ∷ 0 ∷ 0 ∷ 0 ∷ 1 ∷ [])
    (tells (cycle (0 ∷ []) (1 ∷ [])) 8 (counts 3 1 0 8) (Done ∷ Inner 1 ∷ [])) false
    -- g) A `-`, B `a`, T B B, P = 1: none after 2
    ∷ row 1 (graph_of (0 ∷ 0 ∷ 1 ∷ []) (1 ∷ []) (0 ∷ 1 ∷ [])) (replicate 9 0) (tells none 2 (counts 1 0 0 2) (Done ∷ [])) false
    -- h) A `a`, B `-`, T A B, T B B, P = 1: none after 10
    ∷ row 1 (graph_of (0 ∷ 1 ∷ 2 ∷ []) (1 ∷ 1 ∷ []) (1 ∷ 0 ∷ [])) (replicate 20 0) (tells none 10 (counts 2 2 0 10) (Done ∷ [])) false
    -- i) A `a`, B `a`, T A B, P = 2, turns 1 1 1 0 0 0 0 0 0 0: undecided, the last turn a wait
    ∷ row 2 (graph_of (0 ∷ 1 ∷ 1 ∷ []) (1 ∷ []) (1 ∷ 1 ∷ [])) (replicate 3 1 ++ replicate 7 0)
    (tells undecided 10 (counts 3 3 1 9) (Waiting 0 ∷ Inner 1 ∷ [])) true
    -- j) i) with 1 1 0 1 1 1 1 added: none after 17 turns, 16 moves, 1 wait
    ∷ row 2 (graph_of (0 ∷ 1 ∷ 1 ∷ []) (1 ∷ []) (1 ∷ 1 ∷ [])) (replicate 3 1 ++ (replicate 7 0 ++ (1 ∷ 1 ∷ 0 ∷ 1 ∷ 1 ∷ 1 ∷ 1 ∷ [])))
    (tells none 17 (counts 3 4 1 16) (Done ∷ Done ∷ [])) false
    ∷ []

pub rows_right : map computed rows ≡ map said rows
unfolding computed told
rows_right = refl

-- Graphs on which a slip gives a wrong answer, each with the slip.
abbrev pub slips : List Row
slips =
    -- A `a`, B `a`, C `-`, T A B, T B C, T C B: painting red while searching, or not waiting, says none and loses the loop of B and C
    row 2 (graph_of (0 ∷ 1 ∷ 2 ∷ 3 ∷ []) (1 ∷ 2 ∷ 1 ∷ []) (1 ∷ 1 ∷ 0 ∷ [])) (replicate 6 0 ++ (replicate 10 1 ++ replicate 7 0))
    (tells (cycle (0 ∷ []) (1 ∷ 2 ∷ [])) 18 (counts 4 5 1 17) (Inner 1 ∷ Waiting 0 ∷ [])) false
    -- the same with T A C after T A B: painting red while searching says none
    ∷ row 2 (graph_of (0 ∷ 2 ∷ 3 ∷ 4 ∷ []) (1 ∷ 2 ∷ 2 ∷ 1 ∷ []) (1 ∷ 1 ∷ 0 ∷ []))
    (replicate 6 0 ++ (replicate 5 1 ++ (replicate 9 0 ++ replicate 5 1)))
    (tells (cycle (0 ∷ []) (1 ∷ 2 ∷ [])) 13 (counts 4 4 0 13) (Inner 1 ∷ Inner 0 ∷ [])) false
    -- A `a`, B `-`, T A B: testing cyan of any worker in move 4 says cycle after 7, and there is no loop
    ∷ row 2 (graph_of (0 ∷ 1 ∷ 1 ∷ []) (1 ∷ []) (1 ∷ 0 ∷ [])) (0 ∷ 1 ∷ 1 ∷ 0 ∷ 1 ∷ 1 ∷ 1 ∷ [])
    (tells undecided 7 (counts 4 2 0 7) (Outer ∷ Inner 0 ∷ [])) false
    -- A `-`, B `a`, T A B, T B A: "none" when a worker is done loses the loop
    ∷ row 2 (graph_of (0 ∷ 1 ∷ 2 ∷ []) (1 ∷ 0 ∷ []) (0 ∷ 1 ∷ [])) (replicate 4 0 ++ replicate 3 1)
    (tells undecided 7 (counts 3 1 0 7) (Inner 1 ∷ Done ∷ [])) false
    ∷ []

pub slips_right : map computed slips ≡ map said slips
unfolding computed told
slips_right = refl

-- Runs to the end: the program's, which 01 has print cycle, the stem 0417, the loop 417 and the tally 4 2 0 9; then c) and a). Rounds after the
-- answer change nothing.
pub ends_right :
    (told 2 (run_rounds (graph_of (0 ∷ 1 ∷ 2 ∷ []) (1 ∷ 1 ∷ []) (0 ∷ 1 ∷ [])) 2 30)
    ≡ tells (cycle (0 ∷ []) (1 ∷ [])) 9 (counts 4 2 0 9) (Inner 1 ∷ Inner 1 ∷ []))
    × (told 1 (run_rounds (graph_of (0 ∷ 1 ∷ []) (0 ∷ []) (1 ∷ [])) 1 8) ≡ tells (cycle [] (0 ∷ [])) 4 (counts 1 1 0 4) (Inner 0 ∷ []))
    × (told 1 (run_rounds (graph_of (0 ∷ 0 ∷ []) [] (0 ∷ [])) 1 5) ≡ tells none 2 (counts 1 0 0 2) (Done ∷ []))
unfolding told rounds
ends_right = (refl, refl, refl)

-- Rooms, word for word: at the start, with one state and one worker; after c); and after f), the example of docs/ROOM.md.
pub rooms_right :
    (room 1 1 start ≡ 0 ∷ 0 ∷ 0 ∷ 0 ∷ 0 ∷ 0 ∷ 0 ∷ 0 ∷ 0 ∷ 0 ∷ 0 ∷ [])
    × (room 1 1 (run (graph_of (0 ∷ 1 ∷ []) (0 ∷ []) (1 ∷ [])) 1 (replicate 9 0)).machine
    ≡ 1 ∷ 0 ∷ 1 ∷ 1 ∷ 0 ∷ 0 ∷ 1 ∷ 2 ∷ 0 ∷ 1 ∷ 1 ∷ [])
    × (room 2 2 (run (graph_of (0 ∷ 1 ∷ 2 ∷ []) (1 ∷ 1 ∷ []) (0 ∷ 1 ∷ [])) 2 (1 ∷ 1 ∷ 1 ∷ 1 ∷ 0 ∷ 0 ∷ 0 ∷ [])).machine
    ≡ (1 ∷ 1 ∷ 0 ∷ 0 ∷ [])
    ++ ((0 ∷ 0 ∷ 0 ∷ 0 ∷ 0 ∷ 0 ∷ 0 ∷ 0 ∷ 0 ∷ 0 ∷ 4 ∷ 0 ∷ 0 ∷ 0 ∷ [])
    ++ (1 ∷ 1 ∷ 0 ∷ 1 ∷ 0 ∷ 1 ∷ 1 ∷ 0 ∷ 1 ∷ 0 ∷ 2 ∷ 1 ∷ 2 ∷ 1 ∷ [])))
unfolding told room spans span pile tab
rooms_right = (refl, refl, refl)

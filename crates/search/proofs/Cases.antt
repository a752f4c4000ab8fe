-- What a run leaves, by computing: 01's 0417 list, with two workers and rooms that are a word longer than needed and hold 9s. The run of case e),
-- the run to the end, and a run that is refused.
use Prim.Native.Nat.{ℕ}
use mathlib.Core.Path.{◌≡◌, refl}
use mathlib.Core.List.{List, [], ◌∷◌}
use lib.ListN.{replicate}
use Rattle.graphs.specs.Lists.{upd, every, sum, tab, all, elem, repeats}
use Rattle.graphs.specs.Graph.{graph, turned, edges}
use Rattle.graphs.specs.Words.{graph_of, successors, marked, is_graph, sizes_fit, offsets_span, never_falling, all_below, none_twice}
use Rattle.moves.specs.declared.Tally.{Tally}
use Rattle.moves.specs.Changes.{only}
use Rattle.moves.specs.Moves.{others_red, move_1, move_2, move_3, move_4, move_5, move_6, move_7, turn_at, turn}
use Rattle.moves.specs.Run.{below, down_to, all_done, step, run_from, up_from, rounds}
use Rattle.moves.specs.Room.{pile, span, spans, room}
use Rattle.theory.specs.Turns.{most_moves}
use Rattle.limits.specs.Refusals.{refusal_of, usual}
use Rattle.ends.specs.Told.{told_cycle, told_refusal}
use Rattle.search.specs.Outcomes.{Lent, left, outcome, outcome_to_end}

abbrev nines : ℕ → List ℕ
nines k = replicate k 9

abbrev junk : Tally
junk = record { outer = 9; inner = 9; waits = 9; moves = 9 }

-- blue and red; then for each worker cyan, R, both stacks, the counts, the place and the depths; and the word beyond
abbrev words : List ℕ
words =
    0 ∷ 1 ∷ 0 ∷ 0
    ∷ 1 ∷ 1 ∷ 0 ∷ 1 ∷ 0 ∷ 1 ∷ 1 ∷ 0 ∷ 1 ∷ 1 ∷ 2 ∷ 1 ∷ 2 ∷ 1
    ∷ 1 ∷ 1 ∷ 0 ∷ 1 ∷ 0 ∷ 1 ∷ 1 ∷ 0 ∷ 1 ∷ 0 ∷ 2 ∷ 1 ∷ 2 ∷ 1
    ∷ 9 ∷ []

abbrev found : Lent
found =
    record {
      tells = told_cycle 1 1 9;
      room = words;
      lasso = 0 ∷ 1 ∷ 9 ∷ 9 ∷ 9 ∷ [];
      tally = record { outer = 4; inner = 2; waits = 0; moves = 9 };
    }

pub run_e : outcome (0 ∷ 1 ∷ 0 ∷ 1 ∷ 0 ∷ 1 ∷ 0 ∷ 1 ∷ 0 ∷ []) (0 ∷ 1 ∷ 2 ∷ []) (1 ∷ 1 ∷ []) (0 ∷ 1 ∷ []) 2 (nines 33) (nines 5) junk ≡ found
unfolding
    outcome left refusal_of is_graph sizes_fit offsets_span never_falling all_below none_twice successors every repeats elem all
    run_from step turn turn_at move_1 move_2 move_3 move_4 move_5 move_6 move_7 others_red only upd graph_of graph marked turned
    below down_to all_done room span spans pile tab
run_e = refl

-- to the end, with the usual two workers
pub end_e : outcome_to_end (0 ∷ 1 ∷ 2 ∷ []) (1 ∷ 1 ∷ []) (0 ∷ 1 ∷ []) 0 (nines 33) (nines 5) junk ≡ found
unfolding
    outcome_to_end usual most_moves edges sum rounds up_from left refusal_of is_graph sizes_fit offsets_span never_falling all_below none_twice
    successors every repeats elem all run_from step turn turn_at move_1 move_2 move_3 move_4 move_5 move_6 move_7 others_red only upd
    graph_of graph marked turned below down_to all_done room span spans pile tab
end_e = refl

-- a turn after the answer names worker 2
pub run_13 : outcome (0 ∷ 1 ∷ 0 ∷ 1 ∷ 0 ∷ 1 ∷ 0 ∷ 1 ∷ 0 ∷ 2 ∷ []) (0 ∷ 1 ∷ 2 ∷ []) (1 ∷ 1 ∷ []) (0 ∷ 1 ∷ []) 2 (nines 33) (nines 5) junk
    ≡ record { tells = told_refusal 13 0; room = nines 33; lasso = nines 5; tally = junk }
unfolding outcome refusal_of is_graph sizes_fit offsets_span never_falling all_below none_twice successors every repeats elem all
run_13 = refl

-- The demands at work on 01's 0417 graph with two workers: its words are a graph, P × (1 + 4N + 3E) is 30, and what the run to the end computes is
-- the lasso that the theorem promises.
use Rattle.std.proofs.Common.{◌≡◌, refl, true, [], ◌∷◌, arith}
use Rattle.graphs.specs.Lists.{upd, every, sum, elem, repeats}
use Rattle.graphs.specs.Graph.{Graph, graph, turned, edges}
use Rattle.graphs.specs.Lasso.{Lasso}
use Rattle.graphs.specs.Words.{graph_of, successors, marked, is_graph, sizes_fit, offsets_span, never_falling, all_below, none_twice}
use Rattle.moves.specs.Changes.{only}
use Rattle.moves.specs.Moves.{turn, turn_at, move_1, move_2, move_3, move_4, move_5, move_6, move_7, others_red}
use Rattle.moves.specs.Run.{cycle, below, down_to, all_done, step, run_from, up_from, rounds}
use Rattle.theory.specs.Turns.{most_moves, run_to_end, Decided}
use Rattle.theory.proofs.Ends.{rounds_named}
use Rattle.theory.proofs.Demands.{graph_of_words, cycle_is_lasso, end_decides}

abbrev pub signs : Graph
signs = graph_of (0 ∷ 1 ∷ 2 ∷ []) (1 ∷ 1 ∷ []) (0 ∷ 1 ∷ [])

pub signs_graph : is_graph (0 ∷ 1 ∷ 2 ∷ []) (1 ∷ 1 ∷ []) (0 ∷ 1 ∷ []) ≡ true
unfolding is_graph sizes_fit offsets_span never_falling all_below none_twice successors every repeats elem
signs_graph = refl

pub signs_most : most_moves signs 2 ≡ 30
unfolding most_moves edges sum graph_of graph successors
signs_most = refl

pub signs_decided : Decided (run_to_end signs 2).answer
signs_decided = end_decides signs 2 (graph_of_words _ _ _ signs_graph) (omega arith)

pub signs_answer : (run_to_end signs 2).answer ≡ cycle (0 ∷ []) (1 ∷ [])
unfolding
    most_moves edges sum rounds up_from run_from step turn turn_at move_1 move_2 move_3 move_4 move_5 move_6 move_7 others_red only upd every
    graph_of graph successors marked turned below down_to all_done
signs_answer = refl

pub signs_lasso : Lasso signs (0 ∷ []) (1 ∷ [])
signs_lasso =
    let turns = rounds 2 (most_moves signs 2) in
    let named = rounds_named 2 (most_moves signs 2) in
    cycle_is_lasso signs 2 (graph_of_words _ _ _ signs_graph) (omega arith) turns named (0 ∷ []) (1 ∷ []) signs_answer

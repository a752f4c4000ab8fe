-- What the programs print, by computing: 01's text of 0417 and 417, from bytes to bytes.
use mathlib.Core.Path.{◌≡◌, refl}
use mathlib.Core.Bool.{false}
use mathlib.Core.List.{[], ◌∷◌}
use Rattle.graphs.specs.Lists.{upd, every, sum, tab, any, all, same, elem, repeats}
use Rattle.graphs.specs.Graph.{graph, turned, edges}
use Rattle.graphs.specs.Words.{graph_of, successors, marked, is_graph, sizes_fit, offsets_span, never_falling, all_below, none_twice}
use Rattle.moves.specs.Changes.{only}
use Rattle.moves.specs.Moves.{others_red, move_1, move_2, move_3, move_4, move_5, move_6, move_7, turn_at, turn}
use Rattle.moves.specs.Run.{below, down_to, all_done, step, run_from, up_from, rounds}
use Rattle.moves.specs.Room.{pile, span, spans, room}
use Rattle.theory.specs.Turns.{most_moves}
use Rattle.limits.specs.Refusals.{refusal_of, usual}
use Rattle.lines.specs.Bytes.{between, kind_of, in_label}
use Rattle.lines.specs.Line.{onto, cut, is_label, is_state, is_transition, flag_of}
use Rattle.text.specs.Text.{is_nil, declared, number_of, transition_of, stood, with_state, with_transition}
use Rattle.text.specs.Text.{state_line as S_line, transition_line, one_line, at_end, read_lines, meaning}
use Rattle.text.specs.Lists.{padded, places_of, flags_of, targets_from, targets_of, offsets_of, rooms_of}
use Rattle.text.specs.Lists.{outcome as read_outcome}
use Rattle.text.specs.Labels.{label_at}
use Rattle.search.specs.Outcomes.{left, outcome, outcome_to_end}
use Rattle.std.specs.Prelude.{codes}
use Rattle.page.specs.Numbers.{digits, decimal, field, numbers_line}
use Rattle.report.specs.Report.{refused_line, state_line, tally_line, cycle_lines, label_field, worker_line, worker_lines, used_lines}
use Rattle.programs.specs.Skiffplank.{search_lines, searched}
use Rattle.programs.specs.Replay.{ran, named, replay_lines, replayed}

pub searched_0417 :
    searched (codes "S\t0417\t-\nS\t417\ta\nT\t0417\t417\nT\t417\t417\n")
    ≡ codes "answer\tcycle\nstem\t0417\nloop\t417\ntally\t4\t2\t0\t9\n"
unfolding
    searched search_lines read_outcome meaning read_lines one_line S_line transition_line at_end with_state with_transition is_nil declared number_of
    transition_of stood padded places_of flags_of targets_from targets_of offsets_of rooms_of onto cut is_label is_state is_transition flag_of between
    kind_of in_label tab any all same label_at outcome_to_end left usual most_moves edges sum rounds up_from refusal_of is_graph sizes_fit offsets_span
    never_falling all_below none_twice successors every repeats elem run_from step turn turn_at move_1 move_2 move_3 move_4 move_5 move_6 move_7
    others_red only upd graph_of graph marked turned below down_to all_done digits decimal field numbers_line refused_line state_line
    tally_line cycle_lines
searched_0417 = refl

-- 01's case f), before its last turn
pub replayed_f :
    replayed false (1 ∷ 1 ∷ 1 ∷ 1 ∷ 0 ∷ 0 ∷ 0 ∷ []) 2 (codes "S\t0417\t-\nS\t417\ta\nT\t0417\t417\nT\t417\t417\n")
    ≡ codes "answer\tundecided\ntally\t3\t1\t0\t7\nused\t7\nworker\t0\tdone\t0\t0\nworker\t1\tinner\t2\t1\t417\n"
unfolding
    replayed replay_lines ran named read_outcome meaning read_lines one_line S_line transition_line at_end with_state with_transition is_nil declared
    number_of transition_of stood padded places_of flags_of targets_from targets_of offsets_of rooms_of onto cut is_label is_state is_transition flag_of
    between kind_of in_label tab any all same label_at outcome left up_from refusal_of is_graph sizes_fit offsets_span never_falling all_below
    none_twice successors every repeats elem run_from step turn turn_at move_1 move_2 move_3 move_4 move_5 move_6 move_7 others_red only upd
    graph_of graph marked turned below down_to all_done room span spans pile digits decimal field numbers_line refused_line tally_line
    label_field worker_line worker_lines used_lines
replayed_f = refl

-- What the page of `skiffplank` says of the graph of a text, without rooms and words: it is the lines of the run on that graph.
use Prim.Native.Nat.{ℕ, ◌*◌, ◌≤◌, ◌<◌}
use mathlib.Core.Path.{◌≡◌, ap, ◌∙◌}
use mathlib.Core.Bool.{true}
use mathlib.Core.List.{List, []}
use lib.ListN.{length, length-replicate}
use native.Mathlib.Omega.{arith}
use borrow.Author.Tests.{le-ltb, lt-ltb, le-leb}
use Rattle.graphs.specs.Lists.{all}
use Rattle.graphs.specs.Graph.{Graph}
use Rattle.graphs.specs.Words.{graph_of, is_graph}
use Rattle.moves.specs.Room.{room_size}
use Rattle.moves.specs.Run.{Result, begin, rounds}
use Rattle.theory.specs.Turns.{Decided, Right, run_to_end, most_moves}
use Rattle.theory.proofs.Run.{run_stands, begin_stands}
use Rattle.theory.proofs.Ends.{rounds_named}
use Rattle.theory.proofs.Demands.{graph_of_words, end_decides}
use Rattle.limits.specs.Refusals.{refusal_of, usual}
use Rattle.text.specs.Text.{Seen, reads, refused, meaning}
use Rattle.text.specs.Lists.{zeros, padded, places_of, flags_of, targets_of, offsets_of, rooms_of, filled, outcome}
use Rattle.text.specs.Labels.{label_at}
use Rattle.text.proofs.Good.{label_in}
use Rattle.text.proofs.Filled.{states_fit, meaning_graph, offsets_first, targets_first, flags_first, flags_long}
use Rattle.text.proofs.Labels.{label_named}
use Rattle.search.specs.Outcomes.{left, outcome_to_end}
use Rattle.report.specs.Report.{refused_line}
use Rattle.programs.proofs.Answers.{answer_lines, told_lines, run_same}
use Rattle.programs.specs.Skiffplank.{most_input, reading, search_lines, lines_of, searched}

-- a text that is longer than the program takes, one that is refused, and one that is read
pub searched_long : (text : List ℕ) → most_input < length text → searched text ≡ refused_line 1 0
unfolding searched
searched_long text h = rw (lt-ltb most_input (length text) h)

module _ (text : List ℕ) (short : length text ≤ most_input) where
  pub searched_short : searched text ≡ lines_of text (reading text) (reading text).tells
  unfolding searched
  searched_short = rw (le-ltb most_input (length text) short)

  pub searched_refused : (number line : ℕ) → meaning (rooms_of 257 1024 256 512) text ≡ refused number line → searched text ≡ refused_line number line
  unfolding outcome
  searched_refused number line e = searched_short ∙ ap (λ m. lines_of text (filled 257 1024 256 512 m) (filled 257 1024 256 512 m).tells) e

  module _ (seen : Seen) (means : meaning (rooms_of 257 1024 256 512) text ≡ reads seen) where
    abbrev n : ℕ
    n = length seen.states

    abbrev offsets : List ℕ
    offsets = offsets_of n seen.transitions

    abbrev targets : List ℕ
    targets = targets_of n seen.transitions

    abbrev flags : List ℕ
    flags = flags_of seen.states

    -- the run to the end with two workers on the text's graph
    abbrev g : Graph
    g = graph_of offsets targets flags

    abbrev end : Result
    end = run_to_end g 2

    is : is_graph offsets targets flags ≡ true
    is = meaning_graph 257 1024 256 512 text seen means

    few : length flags ≤ 256
    few = omega (arith, flags_long seen.states, states_fit 257 1024 256 512 text seen means)

    not_refused : refusal_of (room_size 256 2) 512 [] offsets targets flags 2 ≡ 0
    unfolding refusal_of all
    not_refused =
        rw (is, le-leb (room_size (length flags) 2) (room_size 256 2) (omega (arith, few)), le-leb (2 * length flags) 512 (omega (arith, few)))

    lines_run : (places : List ℕ) → search_lines text offsets targets flags places ≡ answer_lines (label_at text places) end.answer end.tally
    unfolding search_lines outcome_to_end left usual
    lines_run places =
        rw (length-replicate {A = ℕ} (room_size 256 2) 0, length-replicate {A = ℕ} 512 0, not_refused)
        (told_lines (label_at text places) end.answer end.used (zeros 512) end.tally)

    pub searched_run : searched text ≡ answer_lines (label_in seen.states) end.answer end.tally
    unfolding outcome
    searched_run =
        let places = padded 512 (places_of seen.states) in
        searched_short
        ∙ ap (λ m. lines_of text (filled 257 1024 256 512 m) (filled 257 1024 256 512 m).tells) means
        ∙ rw (
          offsets_first 257 1024 256 512 text seen means,
          targets_first 257 1024 256 512 text seen means,
          flags_first 257 1024 256 512 text seen means,
        )
        (lines_run places)
        ∙ run_same (label_at text places) (label_in seen.states) offsets targets flags is 2 (omega arith) (rounds 2 (most_moves g 2))
        (rounds_named 2 (most_moves g 2))
        (λ s h. label_named 257 1024 256 512 text seen means s (omega (arith, h, flags_long seen.states))) end.tally

    -- 2. of that run: "cycle" comes with a lasso of the text's graph, "none" is said only if no loop through a mark can be reached; and it is one of them
    pub searched_right : Right g 2 end.machine end.answer × Decided end.answer
    searched_right =
        let sound = graph_of_words offsets targets flags is in
        let named = rounds_named 2 (most_moves g 2) in
        (run_stands g 2 sound (omega arith) begin (rounds 2 (most_moves g 2)) named (begin_stands g 2 sound (omega arith)), end_decides g 2 sound (omega arith))

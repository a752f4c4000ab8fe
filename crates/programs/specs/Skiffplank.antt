-- 01 "The program": what `skiffplank` prints for a text.
use Rattle.std.specs.Prelude.{ℕ, ◌+◌, cond, List, ltb, length, take}
use Rattle.moves.specs.Tally.{zeroes}
use Rattle.moves.specs.Room.{room_size}
use Rattle.text.specs.Lists as reader
use Rattle.text.specs.Labels.{label_at}
use Rattle.search.specs.Outcomes.{outcome_to_end}
use Rattle.report.specs.Report.{refused_line, run_lines}

-- 01: "at most 32,768 bytes, longer is refusal 1; rooms for 256 states and 1,024 transitions"
abbrev pub most_input : ℕ
most_input = 32768

abbrev pub reading : List ℕ → reader.Outcome
reading text = reader.outcome 257 1024 256 512 text

-- 01: "runs to the end with two workers and prints"
unfoldable pub search_lines : (text offsets targets flags places : List ℕ) → List ℕ
search_lines text offsets targets flags places =
    let out = outcome_to_end offsets targets flags 2 (reader.zeros (room_size 256 2)) (reader.zeros 512) zeroes in
    run_lines (label_at text places) out.lasso out.tells out.tally

-- the lines of a reading
abbrev pub lines_of : List ℕ → reader.Outcome → reader.Told → List ℕ
lines_of text out (reader.graph n e) = search_lines text (take (n + 1) out.offsets) (take e out.targets) (take n out.flags) out.places
lines_of text out (reader.refusal number line) = refused_line number line

unfoldable pub searched : List ℕ → List ℕ
searched text = cond (ltb most_input (length text)) (refused_line 1 0) (lines_of text (reading text) (reading text).tells)

-- The state at place i of a list has a label where all have, and the room for all lines holds its line after those before it.
use Rattle.std.proofs.Common.{ℕ, ◌+◌, ◌<◌, ◌≤◌, List, length, get_or, take, drop-cons}
use Rattle.std.proofs.lemmas.List.Folds.{length-flat_map-take}
use Rattle.graphs.proofs.Member.{drop_mem}
use Rattle.report.specs.declared.labels.Labels.{Labels}
use Rattle.report.specs.Report.{state_line, state_lines}
use Rattle.report.specs.Shows.{Labelled, ShowsAll}

pub labelled_at : (labels : Labels) (states : List ℕ) (i : ℕ) → ShowsAll labels states → i < length states → Labelled labels (get_or states i 0)
labelled_at labels states i all h = all.each (get_or states i 0) (drop_mem i states (get_or states i 0) _ (drop-cons states i 0 h))

pub states_long : (word : List ℕ) (label : ℕ → List ℕ) (states : List ℕ) (i : ℕ) → i < length states
    → length (state_lines word label (take i states)) + length (state_line word (label (get_or states i 0))) ≤ length (state_lines word label states)
states_long word label states i h = length-flat_map-take (λ s. state_line word (label s)) states i 0 h

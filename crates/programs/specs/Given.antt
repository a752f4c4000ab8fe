-- What a reading gives to a search: for each state a place within the text, of a label of at most 16 bytes. A state has a flag.
use Rattle.std.specs.Prelude.{ℕ, ◌+◌, ◌*◌, ◌≤◌, ◌<◌, List, length, get_or}
use Rattle.report.specs.declared.labels.Labels.{Labels}
use Rattle.report.specs.Shows.{Labelled}

pub record Given (flags : List ℕ) (labels : Labels) : Type 0 where
  pub labelled : (s : ℕ) → s < length flags → Labelled labels s
  pub short : (s : ℕ) → s < length flags → get_or labels.places.now (2 * s + 1) 0 ≤ 16

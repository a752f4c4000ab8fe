-- `none_twice` meets its contract. No state before s has a target twice, and no stamp in the table is above s.
use Rattle.std.proofs.Common.{ℕ, ◌+◌, ◌<◌, ◌≡◌, true, length, get_or}
use Rattle.graphs.specs.Words.{most_states, none_twice}
use Rattle.graphs.proofs.checks.none_twice.Given as goal

abbrev pub invariant-loop-s : goal.invariant-loop-s
invariant-loop-s l = record {
  long : length l.table ≡ most_states;
  low : (x : ℕ) → get_or l.table x 0 < l.s + 1;
  apart : none_twice l.offsets l.targets l.s ≡ true;
}

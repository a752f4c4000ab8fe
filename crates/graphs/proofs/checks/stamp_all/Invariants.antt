-- `stamp_all` meets its contract. What is left of the targets is unseen exactly if the whole does not repeat: seen is what has the stamp.
use Rattle.std.proofs.Common.{ℕ, ◌+◌, ◌<◌, ◌≡◌, length, get_or, drop, not}
use Rattle.graphs.specs.Lists.{repeats}
use Rattle.graphs.proofs.Stamps.{unseen, stamped}
use Rattle.graphs.proofs.checks.stamp_all.Given as goal

abbrev pub invariant-loop-target : goal.invariant-loop-target
invariant-loop-target l = record {
  long : length l.table ≡ length l.initial.table;
  rest : unseen (stamped l.table l.stamp) (drop l.target-index l.targets) ≡ not (repeats l.targets);
  low : (x : ℕ) → get_or l.table x 0 < l.stamp + 1;
}

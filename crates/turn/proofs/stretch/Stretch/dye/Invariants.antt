-- `dye` meets its contract: the words before i are joined, the others as they were.
use Rattle.std.proofs.Common.{ℕ, ◌≡◌, ◌<◌, ◌≤◌, length, get_or, bit_or}
use Rattle.turn.proofs.stretch.Stretch.dye.Given as goal

abbrev pub invariant-loop-i : goal.invariant-loop-i
invariant-loop-i l = record {
  joined : (k : ℕ) → k < l.i → get_or l.red k 0 ≡ bit_or (get_or l.fn.red k 0) (get_or l.self.gathered.now k 0);
  ahead : (k : ℕ) → l.i ≤ k → get_or l.red k 0 ≡ get_or l.fn.red k 0;
  long : length l.red ≡ length l.fn.red;
}

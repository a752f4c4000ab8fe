-- `digits_off` meets its contract: the first i digits are numbers, and the others are bytes still.
use Rattle.std.proofs.Common.{ℕ, ◌≡◌, ◌<◌, ◌≤◌, get_or, length}
use Rattle.asked.specs.Digits.{digit_of}
use Rattle.asked.proofs.digits.digits_off.Given as goal

abbrev pub invariant-loop-i : goal.invariant-loop-i
invariant-loop-i l = record {
  done : (k : ℕ) → k < l.i → get_or l.word k 0 ≡ digit_of (get_or l.fn.word k 0);
  ahead : (k : ℕ) → l.i ≤ k → get_or l.word k 0 ≡ get_or l.fn.word k 0;
  len : length l.word ≡ length l.fn.word;
}

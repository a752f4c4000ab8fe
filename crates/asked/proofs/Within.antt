-- The turns that are asked for stand at the front of the second word.
use Rattle.std.proofs.Common.{ℕ, ◌≤◌, ◌≡◌, sym, subst, not, List, length, arith, Option, Some, None, IfSome}
use lib.ListN.{length-map}
use Rattle.graphs.proofs.Tests.{cond_ind}
use Rattle.asked.specs.declared.Asked.{Asked}
use Rattle.asked.specs.Digits.{digit_of, is_number}
use Rattle.asked.specs.Asked.{Call, called, is_end, is_dash, asks}

abbrev pub Within : Option Asked → List ℕ → Type 0
Within r after = IfSome r (λ a. IfSome a.turns (λ turns. turns ≤ length after))

abbrev Fits : Call → Type 0
Fits c = Within c.asked c.turns

all_within : (workers turns : List ℕ) → Fits (asks workers turns)
unfolding asks
all_within workers turns =
    cond_ind Fits (not (is_number workers)) (λ e. tt) (λ e.
    cond_ind Fits (is_end turns) (λ e. tt) (λ e.
    cond_ind Fits (is_dash turns) (λ e. omega arith) (λ e.
    cond_ind Fits (not (is_number turns)) (λ e. tt) (λ e. let long = length-map turns digit_of in omega (arith, long)))))

pub turns_within : (workers turns after : List ℕ) (r : Option Asked) → called r after ≡ asks workers turns → Within r after
turns_within workers turns after r e = subst Fits (sym e) (all_within workers turns)

-- the word may stand at the front of a longer one
longer_front : (turns : Option ℕ) (n m : ℕ) → IfSome turns (λ k. k ≤ n) → n ≤ m → IfSome turns (λ k. k ≤ m)
longer_front None n m h long = tt
longer_front (Some k) n m h long = omega (arith, h, long)

pub within_longer : (r : Option Asked) (after longer : List ℕ) → Within r after → length after ≤ length longer → Within r longer
within_longer None after longer h long = tt
within_longer (Some asked) after longer h long = longer_front asked.turns (length after) (length longer) h long

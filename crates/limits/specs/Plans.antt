-- Who makes each turn: the workers of a list, or 0, 1, .., P − 1 again and again.
use Rattle.std.specs.Prelude.{ℕ, ◌%◌, List, [], Option, Some, slice_get}
use Rattle.limits.specs.declared.Plan.{Plan}
use Rattle.limits.specs.declared.Plan.TheVariants.{Turns, Rounds}

-- the turns that are given, each of which refusal 13 checks
abbrev pub listed : Plan → List ℕ
listed (Turns turns) = turns.now
listed Rounds = []

-- the worker of the turn after so many turns
abbrev pub next_in : Plan → ℕ → ℕ → Option ℕ
next_in (Turns turns) P used = slice_get turns.now used
next_in Rounds P used = Some (used % P)

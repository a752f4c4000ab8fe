-- The tally of a run, raised after each move. 01: "Each count is the count of those events in the moves above: the initial state's entry is an
-- outer entry, a seed's start is an inner entry, and taking a successor always changes something, the take that answers "cycle" included."
use Rattle.std.specs.Prelude.{◌+◌, ◌<◌, ◌^◌, Bool, true, false}
use Rattle.moves.specs.declared.Move.{Move}
use Rattle.moves.specs.declared.Move.TheVariants.{Start, Skip, Enter, Leave, Seed, Hit, Pass, Join, Back, Paint, Wait, Rest}
use Rattle.moves.specs.declared.Tally.{Tally}

-- 01: "It is set to 0 at the start."
abbrev pub zeroes : Tally
zeroes = record { outer = 0; inner = 0; waits = 0; moves = 0 }

-- an outer entry, an inner entry, a wait, and a move that is none of them but changes something
abbrev pub entered : Tally → Tally
entered t = record { outer = t.outer + 1; inner = t.inner; waits = t.waits; moves = t.moves + 1 }

abbrev pub joined : Tally → Tally
joined t = record { outer = t.outer; inner = t.inner + 1; waits = t.waits; moves = t.moves + 1 }

abbrev pub waited : Tally → Tally
waited t = record { outer = t.outer; inner = t.inner; waits = t.waits + 1; moves = t.moves }

abbrev pub changed : Tally → Tally
changed t = record { outer = t.outer; inner = t.inner; waits = t.waits; moves = t.moves + 1 }

abbrev pub raised : Tally → Move → Tally
raised t Start = entered t
raised t (Skip s) = changed t
raised t (Enter s x) = entered t
raised t (Leave s) = changed t
raised t (Seed s) = joined t
raised t (Hit s x) = changed t
raised t (Pass s) = changed t
raised t (Join s x) = joined t
raised t (Back z s) = changed t
raised t (Paint z) = changed t
raised t Wait = waited t
raised t Rest = t

-- the moves that change something
abbrev pub changes : Move → Bool
changes Start = true
changes (Skip s) = true
changes (Enter s x) = true
changes (Leave s) = true
changes (Seed s) = true
changes (Hit s x) = true
changes (Pass s) = true
changes (Join s x) = true
changes (Back z s) = true
changes (Paint z) = true
changes Wait = false
changes Rest = false

-- every count can be raised by one
pub record Low (t : Tally) : Type 0 where
  pub outer_low : t.outer + 1 < 2 ^ 64
  pub inner_low : t.inner + 1 < 2 ^ 64
  pub waits_low : t.waits + 1 < 2 ^ 64
  pub moves_low : t.moves + 1 < 2 ^ 64

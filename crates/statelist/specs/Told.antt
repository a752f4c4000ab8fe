-- 01's number and values for each answer of `read`: what its contract cites beside the pages of `text`.
use Rattle.std.specs.Prelude.{ℕ, List, Result, Ok, Err}
use Rattle.text.specs.Lists.{Told, graph, refusal, Outcome}
use Rattle.statelist.specs.declared.Size.{Size}
use Rattle.statelist.specs.declared.ReadError.{ReadError}
use Rattle.statelist.specs.declared.ReadError.TheVariants.{TooLong, NoForm, DeclaredTwice, NotDeclared, PairTwice}
use Rattle.statelist.specs.declared.ReadError.TheVariants.{NoStateRoom, NoTransitionRoom, NoState}

-- 01's number of a refusal, and its line, 0 if it has none
abbrev pub error_number : ReadError → ℕ
error_number TooLong = 1
error_number (NoForm line) = 2
error_number (DeclaredTwice line) = 3
error_number (NotDeclared line) = 4
error_number (PairTwice line) = 5
error_number (NoStateRoom line) = 6
error_number (NoTransitionRoom line) = 7
error_number NoState = 8

abbrev pub error_line : ReadError → ℕ
error_line TooLong = 0
error_line (NoForm line) = line
error_line (DeclaredTwice line) = line
error_line (NotDeclared line) = line
error_line (PairTwice line) = line
error_line (NoStateRoom line) = line
error_line (NoTransitionRoom line) = line
error_line NoState = 0

abbrev pub told : Result Size ReadError → Told
told (Ok size) = graph size.states size.transitions
told (Err error) = refusal (error_number error) (error_line error)

-- what comes of a call that returns r and leaves these lists
abbrev pub comes : Result Size ReadError → (offsets targets flags places : List ℕ) → Outcome
comes r offsets targets flags places = record { tells = told r; offsets = offsets; targets = targets; flags = flags; places = places }

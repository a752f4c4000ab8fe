-- 01's number of a refusal and its line, of what a reading or a run has told. Number 0 is no refusal: a graph, or an answer.
use Rattle.std.specs.Prelude.{ℕ, ◌≡◌, Err}
use Rattle.limits.specs.declared.RunError.{RunError}
use Rattle.ends.specs.Told.{Told, told_cycle, told_none, told_undecided, told_refusal, told}
use Rattle.text.specs.Lists as text
use Rattle.statelist.specs.declared.ReadError.{ReadError}
use Rattle.statelist.specs.Told.{told as told_reading}
use Rattle.refusals.specs.declared.Refusal.{Refusal}

abbrev pub refused : (number line : ℕ) → Refusal
refused number line = record { number = number; line = line }

abbrev pub of_reading : text.Told → Refusal
of_reading (text.graph states transitions) = refused 0 0
of_reading (text.refusal number line) = refused number line

abbrev pub of_run : Told → Refusal
of_run (told_cycle stem loop used) = refused 0 0
of_run (told_none used) = refused 0 0
of_run (told_undecided used) = refused 0 0
of_run (told_refusal number line) = refused number line

-- what the conversions give: the refusal of what a reading or a run tells that ends with this error
abbrev pub GivesReading : ReadError → Refusal → Type 0
GivesReading error refusal = refusal ≡ of_reading (told_reading (Err error))

abbrev pub GivesRun : RunError → Refusal → Type 0
GivesRun error refusal = refusal ≡ of_run (told (Err error))

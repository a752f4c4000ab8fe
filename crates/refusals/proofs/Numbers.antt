-- What the numbers say: 0 is a graph, or an answer; any other, with its line, is what was told.
use Rattle.std.proofs.Common.{◌≡◌, ◌≢◌, refl, arith, Ok, Err}
use Rattle.std.specs.Prelude.{Result}
use Rattle.limits.specs.declared.RunError.{RunError}
use Rattle.ends.specs.declared.Outcome.{Outcome}
use Rattle.ends.specs.Told.{Told, told_cycle, told_none, told_undecided, told_refusal, told}
use Rattle.text.specs.Lists as text
use Rattle.statelist.specs.declared.Size.{Size}
use Rattle.statelist.specs.declared.ReadError.{ReadError}
use Rattle.statelist.specs.declared.ReadError.TheVariants.{TooLong, NoForm, DeclaredTwice, NotDeclared, PairTwice}
use Rattle.statelist.specs.declared.ReadError.TheVariants.{NoStateRoom, NoTransitionRoom, NoState}
use Rattle.statelist.specs.Told.{told as told_reading}
use Rattle.refusals.specs.Refusals.{of_reading, of_run}

pub reading_graph : (r : Result Size ReadError) → (of_reading (told_reading r)).number ≡ 0 → (size : Size) × (r ≡ Ok size)
reading_graph (Ok size) is = (size, refl)
reading_graph (Err TooLong) is = absurd (omega arith)
reading_graph (Err (NoForm line)) is = absurd (omega arith)
reading_graph (Err (DeclaredTwice line)) is = absurd (omega arith)
reading_graph (Err (NotDeclared line)) is = absurd (omega arith)
reading_graph (Err (PairTwice line)) is = absurd (omega arith)
reading_graph (Err (NoStateRoom line)) is = absurd (omega arith)
reading_graph (Err (NoTransitionRoom line)) is = absurd (omega arith)
reading_graph (Err NoState) is = absurd (omega arith)

pub reading_refusal : (t : text.Told) → (of_reading t).number ≢ 0 → t ≡ text.refusal (of_reading t).number (of_reading t).line
reading_refusal (text.graph n e) some = absurd (some refl)
reading_refusal (text.refusal number line) some = refl

-- a reading that is no graph
pub no_graph_refusal : (r : Result Size ReadError) → ((size : Size) → r ≢ Ok size)
    → told_reading r ≡ text.refusal (of_reading (told_reading r)).number (of_reading (told_reading r)).line
no_graph_refusal (Ok size) none = absurd (none size refl)
no_graph_refusal (Err error) none = refl

pub run_refusal : (t : Told) → (of_run t).number ≢ 0 → t ≡ told_refusal (of_run t).number (of_run t).line
run_refusal (told_cycle stem loop used) some = absurd (some refl)
run_refusal (told_none used) some = absurd (some refl)
run_refusal (told_undecided used) some = absurd (some refl)
run_refusal (told_refusal number line) some = refl

-- a run with no answer
pub no_answer_refusal : (r : Result Outcome RunError) → ((outcome : Outcome) → r ≢ Ok outcome)
    → told r ≡ told_refusal (of_run (told r)).number (of_run (told r)).line
no_answer_refusal (Ok outcome) none = absurd (none outcome refl)
no_answer_refusal (Err error) none = refl

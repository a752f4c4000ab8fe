-- What a reading and a run tell, as the words of `ReadAnswer` and `RunAnswer`; and what comes of a call. A word that a case does not use is 0.
use Rattle.std.specs.Prelude.{ℕ, ◌<◌, List}
use Rattle.moves.specs.declared.Tally.{Tally}
use Rattle.text.specs.Lists.{Told, graph, refusal, Outcome}
use Rattle.ends.specs.Told.{Told as Told·run, told_cycle, told_none, told_undecided, told_refusal}
use Rattle.search.specs.Outcomes.{Lent}
use Rattle.skiffplank_c.specs.declared.ReadAnswer.{ReadAnswer}
use Rattle.skiffplank_c.specs.declared.RunAnswer.{RunAnswer}

-- refusal 0 is a graph
abbrev pub read_answer : Told → ReadAnswer
read_answer (graph states transitions) = record { refusal = 0; line = 0; states = states; transitions = transitions }
read_answer (refusal number line) = record { refusal = number; line = line; states = 0; transitions = 0 }

-- refusal 0 is a run; its answer is 0 for "undecided", 1 for "cycle", 2 for "none"
abbrev pub run_answer : Told·run → RunAnswer
run_answer (told_cycle stem loop used) = record { refusal = 0; answer = 1; stem = stem; loop_ = loop; used = used }
run_answer (told_none used) = record { refusal = 0; answer = 2; stem = 0; loop_ = 0; used = used }
run_answer (told_undecided used) = record { refusal = 0; answer = 0; stem = 0; loop_ = 0; used = used }
run_answer (told_refusal number line) = record { refusal = number; answer = 0; stem = 0; loop_ = 0; used = 0 }

-- a reading: the answer and the four lists
pub record ReadCall : Type 0 where
  pub answer : ReadAnswer
  pub offsets : List ℕ
  pub targets : List ℕ
  pub flags : List ℕ
  pub places : List ℕ

abbrev pub read_call : Outcome → ReadCall
read_call out =
    record { answer = read_answer out.tells; offsets = out.offsets; targets = out.targets; flags = out.flags; places = out.places }

abbrev pub read_call_of : ReadAnswer → (offsets targets flags places : List ℕ) → ReadCall
read_call_of r offsets targets flags places = record { answer = r; offsets = offsets; targets = targets; flags = flags; places = places }

-- a run: the answer, the room, the lasso room and the tally
pub record RunCall : Type 0 where
  pub answer : RunAnswer
  pub room : List ℕ
  pub lasso : List ℕ
  pub tally : Tally

abbrev pub run_call : Lent → RunCall
run_call out = record { answer = run_answer out.tells; room = out.room; lasso = out.lasso; tally = out.tally }

abbrev pub run_call_of : RunAnswer → (room lasso : List ℕ) → Tally → RunCall
run_call_of r room lasso tally = record { answer = r; room = room; lasso = lasso; tally = tally }

-- what is told fits 32 bits
abbrev pub ReadFits : Told → Type 0
ReadFits (graph states transitions) = (states < 4294967296) × (transitions < 4294967296)
ReadFits (refusal number line) = line < 4294967296

abbrev pub RunFits : Told·run → Type 0
RunFits (told_cycle stem loop used) = (stem < 4294967296) × (loop < 4294967296)
RunFits (told_none used) = Unit {0}
RunFits (told_undecided used) = Unit {0}
RunFits (told_refusal number line) = Unit {0}

-- No count of a run's tally is more than the turns used.
use Prim.Native.Nat.{ℕ, suc, ◌≤◌}
use mathlib.Core.List.{List, [], ◌∷◌}
use borrow.Author.Rules.{rules}
use Rattle.graphs.specs.Graph.{Graph}
use Rattle.moves.specs.declared.Move.{Move}
use Rattle.moves.specs.declared.Move.TheVariants.{Start, Skip, Enter, Leave, Seed, Hit, Pass, Join, Back, Paint, Wait, Rest}
use Rattle.moves.specs.declared.Tally.{Tally}
use Rattle.moves.specs.Moves.{turn}
use Rattle.moves.specs.Tally.{raised}
use Rattle.moves.specs.Run.{Result, begin, step, run_from, run}
use Rattle.theory.proofs.Run.{step_ind}

pub record Tallied (used : ℕ) (t : Tally) : Type 0 where
  pub outer_low : t.outer ≤ used
  pub inner_low : t.inner ≤ used
  pub waits_low : t.waits ≤ used
  pub moves_low : t.moves ≤ used

raised_low : (used : ℕ) (t : Tally) → Tallied used t → (v : Move) → Tallied (suc used) (raised t v)
raised_low used t h Start = search rules
raised_low used t h (Skip s) = search rules
raised_low used t h (Enter s x) = search rules
raised_low used t h (Leave s) = search rules
raised_low used t h (Seed s) = search rules
raised_low used t h (Hit s x) = search rules
raised_low used t h (Pass s) = search rules
raised_low used t h (Join s x) = search rules
raised_low used t h (Back z s) = search rules
raised_low used t h (Paint z) = search rules
raised_low used t h Wait = search rules
raised_low used t h Rest = search rules

module _ (g : Graph) (P : ℕ) where
  tally_from : (r : Result) (l : List ℕ) → Tallied r.used r.tally → Tallied (run_from g P r l).used (run_from g P r l).tally
  unfolding run_from
  tally_from r [] h = h
  tally_from r (p ∷ l) h =
      tally_from (step g P r p) l
      (step_ind g P (λ k. Tallied k.used k.tally) r p h (λ e. raised_low r.used r.tally h (turn g p r.machine).move))

  pub tally_low : (l : List ℕ) → Tallied (run g P l).used (run g P l).tally
  tally_low l = tally_from begin l (search rules)

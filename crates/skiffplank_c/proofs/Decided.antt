-- A run to the end that is not refused has an answer: its word is not that of "undecided".
use Rattle.std.proofs.Common.{ℕ, ◌≡◌, refl, sym, ap, ◌∙◌, List, [], ◌⊎◌, inl, inr, ◌≢◌, length, arith}
use Rattle.graphs.specs.Words.{graph_of}
use Rattle.graphs.proofs.Tests.{same?}
use Rattle.moves.specs.declared.Tally.{Tally}
use Rattle.moves.specs.Run.{Answer, cycle, none, undecided, Result}
use Rattle.theory.specs.Turns.{run_to_end}
use Rattle.limits.specs.Refusals.{refusal_of, usual}
use Rattle.ends.specs.Told.{Told, told_cycle, told_none, told_undecided, told_refusal, tells_of}
use Rattle.search.specs.Outcomes.{Lent, left, outcome_to_end, Settles}
use Rattle.search.proofs.Whole.{unless_0, unless_not}
use Rattle.search.proofs.Promises.{refuses}
use Rattle.search.proofs.Runs.{end_settles}
use Rattle.skiffplank_c.specs.Answers.{run_answer}

answer_told : (a : Answer) (used : ℕ) → refuses (tells_of a used) ≡ 0
answer_told (cycle stem loop) used = refl
answer_told none used = refl
answer_told undecided used = refl

answered : (says : Told) → Settles says → refuses says ≡ 0 → (run_answer says).answer ≢ 0
answered (told_cycle stem loop used) settles is = λ e. omega (arith, e)
answered (told_none used) settles is = λ e. omega (arith, e)
answered (told_undecided used) settles is = absurd settles
answered (told_refusal number line) settles is = absurd (omega (arith, is))

module _ (offsets targets flags : List ℕ) (workers : ℕ) (room lasso : List ℕ) (tally : Tally) where
  abbrev says : Told
  says = (outcome_to_end offsets targets flags workers room lasso tally).tells

  abbrev number : ℕ
  number = refusal_of (length room) (length lasso) [] offsets targets flags (usual workers)

  abbrev end : Result
  end = run_to_end (graph_of offsets targets flags) (usual workers)

  abbrev run : Lent
  run = left (length flags) (usual workers) end room lasso

  told_number : number ≢ 0 → (run_answer says).refusal ≡ number
  unfolding outcome_to_end
  told_number ne = ap (λ k. (run_answer k.tells).refusal) (unless_not number run room lasso tally ne)

  told_answer : number ≡ 0 → refuses says ≡ 0
  unfolding outcome_to_end left
  told_answer z =
      ap (λ k. refuses k.tells) (unless_0 number run room lasso tally z) ∙ answer_told end.answer end.used

  pub end_decided : (run_answer says).refusal ≡ 0 → (run_answer says).answer ≢ 0
  end_decided is = go (same? number 0)
    where
      go : (number ≡ 0) ⊎ (number ≢ 0) → (run_answer says).answer ≢ 0
      go (inl z) = answered says (end_settles offsets targets flags workers room lasso tally) (told_answer z)
      go (inr ne) = absurd (ne (sym (told_number ne) ∙ is))

-- The run to the end always tells an answer or a refusal.
use Prim.Native.Nat.{ℕ}
use mathlib.Core.Path.{◌≡◌, sym, ap, subst}
use mathlib.Core.List.{List, []}
use mathlib.Core.Logic.{◌⊎◌, inl, inr, ◌≢◌}
use lib.ListN.{length}
use borrow.Author.Tests.{ne_eqb}
use Rattle.std.specs.Prelude.{Result}
use Rattle.graphs.specs.Words.{graph_of}
use Rattle.graphs.proofs.Tests.{same?}
use Rattle.moves.specs.declared.Tally.{Tally}
use Rattle.moves.specs.Run.{Answer, cycle, none, undecided}
use Rattle.theory.specs.Turns.{Decided, run_to_end}
use Rattle.theory.proofs.Demands.{graph_of_words, end_decides}
use Rattle.limits.specs.declared.RunError.{RunError}
use Rattle.limits.specs.Refusals.{refusal_of, usual}
use Rattle.limits.proofs.Refused.{fine}
use Rattle.ends.specs.declared.Outcome.{Outcome}
use Rattle.ends.specs.Told.{told, tells_of}
use Rattle.search.specs.Outcomes.{lent, left, outcome_to_end, Settles}

decided_settles : (a : Answer) (used : ℕ) → Decided a → Settles (tells_of a used)
decided_settles (cycle stem loop) used d = tt
decided_settles none used d = tt
decided_settles undecided used d = d

module _ (offsets targets flags : List ℕ) (workers : ℕ) (l lasso : List ℕ) (t : Tally) where
  abbrev refusal : ℕ
  refusal = refusal_of (length l) (length lasso) [] offsets targets flags (usual workers)

  -- a refusal, or an answer
  pub end_settles : Settles (outcome_to_end offsets targets flags workers l lasso t).tells
  unfolding outcome_to_end left
  end_settles = go (same? refusal 0)
    where
      go : (refusal ≡ 0) ⊎ (refusal ≢ 0) → Settles (outcome_to_end offsets targets flags workers l lasso t).tells
      go (inl z) =
          let f = fine (length l) (length lasso) [] offsets targets flags (usual workers) z in
          let end = run_to_end (graph_of offsets targets flags) (usual workers) in
          let d = end_decides (graph_of offsets targets flags) (usual workers) (graph_of_words offsets targets flags f.graph) f.some in
          rw z (decided_settles end.answer end.used d)
      go (inr ne) = rw (ne_eqb refusal 0 ne) tt

  pub left_settles : (r : Result Outcome RunError) {l' lasso' : List ℕ} {t' : Tally}
      → lent r l' lasso' t' ≡ outcome_to_end offsets targets flags workers l lasso t → Settles (told r)
  left_settles r e = subst Settles (sym (ap (λ k. k.tells) e)) end_settles

-- The contracts of the runs settle the calls: two outcomes that one of them allows are the same.
use Prim.Native.Nat.{ℕ}
use mathlib.Core.Path.{◌≡◌, ap}
use mathlib.Core.List.{List}
use Rattle.std.specs.Prelude.{Result}
use Rattle.graphs.proofs.Settled.{settled}
use Rattle.moves.specs.declared.Tally.{Tally}
use Rattle.moves.specs.Tally.{zeroes}
use Rattle.limits.specs.declared.RunError.{RunError}
use Rattle.ends.specs.declared.Outcome.{Outcome}
use Rattle.ends.proofs.Numbered.{told_one}
use Rattle.search.specs.declared.Counted.{Counted}
use Rattle.search.specs.Outcomes.{Lent, lent, outcome, outcome_to_end}

-- whatever is left
module _ (out : Lent) (l' l'' lasso' lasso'' : List ℕ) where
  lent_settled : (r r' : Result Outcome RunError) (t' t'' : Tally) → lent r l' lasso' t' ≡ out → lent r' l'' lasso'' t'' ≡ out
      → (r ≡ r') × (l' ≡ l'') × (lasso' ≡ lasso'') × (t' ≡ t'')
  lent_settled r r' t' t'' a b =
      let e = settled a b in
      (told_one r r' (ap (λ k. k.tells) e), ap (λ k. k.room) e, ap (λ k. k.lasso) e, ap (λ k. k.tally) e)

  counted_settled : (r r' : Counted) → lent r.outcome l' lasso' r.tally ≡ out → lent r'.outcome l'' lasso'' r'.tally ≡ out
      → (r ≡ r') × (l' ≡ l'') × (lasso' ≡ lasso'')
  counted_settled r r' a b =
      let (outcome_is, room_is, lasso_is, tally_is) = lent_settled r.outcome r'.outcome r.tally r'.tally a b in
      (rw (outcome_is, tally_is), room_is, lasso_is)

module _ (offsets targets flags : List ℕ) (workers : ℕ) (l lasso l' l'' lasso' lasso'' : List ℕ) where
  pub run_settled : (turns : List ℕ) (t : Tally) (r r' : Result Outcome RunError) (t' t'' : Tally)
      → lent r l' lasso' t' ≡ outcome turns offsets targets flags workers l lasso t
      → lent r' l'' lasso'' t'' ≡ outcome turns offsets targets flags workers l lasso t
      → (r ≡ r') × (l' ≡ l'') × (lasso' ≡ lasso'') × (t' ≡ t'')
  run_settled turns t = lent_settled (outcome turns offsets targets flags workers l lasso t) l' l'' lasso' lasso''

  pub run_to_end_settled : (t : Tally) (r r' : Result Outcome RunError) (t' t'' : Tally)
      → lent r l' lasso' t' ≡ outcome_to_end offsets targets flags workers l lasso t
      → lent r' l'' lasso'' t'' ≡ outcome_to_end offsets targets flags workers l lasso t
      → (r ≡ r') × (l' ≡ l'') × (lasso' ≡ lasso'') × (t' ≡ t'')
  run_to_end_settled t = lent_settled (outcome_to_end offsets targets flags workers l lasso t) l' l'' lasso' lasso''

  pub counted_run_settled : (turns : List ℕ) (r r' : Counted)
      → lent r.outcome l' lasso' r.tally ≡ outcome turns offsets targets flags workers l lasso zeroes
      → lent r'.outcome l'' lasso'' r'.tally ≡ outcome turns offsets targets flags workers l lasso zeroes
      → (r ≡ r') × (l' ≡ l'') × (lasso' ≡ lasso'')
  counted_run_settled turns = counted_settled (outcome turns offsets targets flags workers l lasso zeroes) l' l'' lasso' lasso''

  pub counted_run_to_end_settled : (r r' : Counted)
      → lent r.outcome l' lasso' r.tally ≡ outcome_to_end offsets targets flags workers l lasso zeroes
      → lent r'.outcome l'' lasso'' r'.tally ≡ outcome_to_end offsets targets flags workers l lasso zeroes
      → (r ≡ r') × (l' ≡ l'') × (lasso' ≡ lasso'')
  counted_run_to_end_settled = counted_settled (outcome_to_end offsets targets flags workers l lasso zeroes) l' l'' lasso' lasso''

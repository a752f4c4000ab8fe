-- What is told fits 32 bits.
use Rattle.std.proofs.Common.{ℕ, ◌≡◌, refl, sym, ap, List, arith, Result}
use Rattle.graphs.proofs.Words.{words_are}
use Rattle.moves.specs.declared.Tally.{Tally}
use Rattle.limits.specs.declared.RunError.{RunError}
use Rattle.ends.specs.declared.Outcome.{Outcome}
use Rattle.ends.specs.Told.{Told, told_cycle, told_none, told_undecided, told_refusal, told}
use Rattle.search.specs.Outcomes.{lent, outcome, outcome_to_end}
use Rattle.search.proofs.Promises.{Call, run_is_call, end_is_call, refuses, not_refused, cycle_few}
use Rattle.text.specs.Lists as text
use Rattle.text.proofs.Told.{graph_low, refusal_low}
use Rattle.statelist.specs.declared.Size.{Size}
use Rattle.statelist.specs.declared.ReadError.{ReadError}
use Rattle.statelist.specs.Told.{comes, told as told_reading}
use Rattle.skiffplank_c.specs.Answers.{ReadFits, RunFits}

pub read_fits : (o t f p : ℕ) (bytes : List ℕ) (r : Result Size ReadError) (offsets targets flags places : List ℕ)
    → comes r offsets targets flags places ≡ text.outcome o t f p bytes → ReadFits (told_reading r)
read_fits o t f p bytes r offsets targets flags places e = go (told_reading r) (sym (ap (λ out. out.tells) e))
  where
    go : (says : text.Told) → (text.outcome o t f p bytes).tells ≡ says → ReadFits says
    go (text.graph n k) q = let low = graph_low o t f p bytes n k q in (omega (arith, low.0), omega (arith, low.1))
    go (text.refusal number line) q = omega (arith, (refusal_low o t f p bytes number line q).2)

-- no state stands twice in stem and loop, and a graph has at most 4,096
call_fits : {offsets targets flags turns : List ℕ} {P number : ℕ} {l lasso : List ℕ} {t : Tally} {r : Result Outcome RunError} {l' lasso' : List ℕ} {t' : Tally}
    → Call offsets targets flags turns P number l lasso t r l' lasso' t' → RunFits (told r)
call_fits {offsets} {targets} {flags} {r} call = go (told r) refl
  where
    go : (says : Told) → told r ≡ says → RunFits says
    go (told_cycle stem loop used) q =
        let answers : refuses (told r) ≡ 0 = rw q refl in
        let few = (words_are offsets targets flags (call.graph (not_refused call answers))).few in
        let short = cycle_few call answers stem loop used q in
        (omega (arith, few, short), omega (arith, few, short))
    go (told_none used) q = tt
    go (told_undecided used) q = tt
    go (told_refusal number line) q = tt

module _ (offsets targets flags turns : List ℕ) (P : ℕ) (room lasso : List ℕ) (tally : Tally) (r : Result Outcome RunError)
    (room' lasso' : List ℕ) (tally' : Tally) (left : lent r room' lasso' tally' ≡ outcome turns offsets targets flags P room lasso tally) where
  pub run_fits : RunFits (told r)
  run_fits = call_fits (run_is_call turns offsets targets flags P room lasso tally r room' lasso' tally' left)

module _ (offsets targets flags : List ℕ) (workers : ℕ) (room lasso : List ℕ) (tally : Tally) (r : Result Outcome RunError)
    (room' lasso' : List ℕ) (tally' : Tally) (left : lent r room' lasso' tally' ≡ outcome_to_end offsets targets flags workers room lasso tally) where
  pub end_fits : RunFits (told r)
  end_fits = call_fits (end_is_call offsets targets flags workers room lasso tally r room' lasso' tally' left)

-- The contracts are one equation each and settle the call: two calls that one of them allows are the same.
use Rattle.std.proofs.Common.{◌≡◌, ap, List, ℕ}
use Rattle.graphs.proofs.Settled.{settled}
use Rattle.moves.specs.declared.Tally.{Tally}
use Rattle.text.specs.Lists.{Outcome}
use Rattle.search.specs.Outcomes.{Lent}
use Rattle.skiffplank_c.specs.declared.ReadAnswer.{ReadAnswer}
use Rattle.skiffplank_c.specs.declared.RunAnswer.{RunAnswer}
use Rattle.skiffplank_c.specs.Answers.{read_call_of, read_call, run_call_of, run_call}

pub read_settled : (out : Outcome) (r r' : ReadAnswer) (offsets targets flags places offsets' targets' flags' places' : List ℕ)
    → read_call_of r offsets targets flags places ≡ read_call out → read_call_of r' offsets' targets' flags' places' ≡ read_call out
    → (r ≡ r') × (offsets ≡ offsets') × (targets ≡ targets') × (flags ≡ flags') × (places ≡ places')
read_settled out r r' offsets targets flags places offsets' targets' flags' places' a b =
    let e = settled a b in
    (ap (λ c. c.answer) e, ap (λ c. c.offsets) e, ap (λ c. c.targets) e, ap (λ c. c.flags) e, ap (λ c. c.places) e)

-- of `skiffplank_run` and of `skiffplank_run_to_end`
pub run_settled : (out : Lent) (r r' : RunAnswer) (room lasso room' lasso' : List ℕ) (tally tally' : Tally)
    → run_call_of r room lasso tally ≡ run_call out → run_call_of r' room' lasso' tally' ≡ run_call out
    → (r ≡ r') × (room ≡ room') × (lasso ≡ lasso') × (tally ≡ tally')
run_settled out r r' room lasso room' lasso' tally tally' a b =
    let e = settled a b in
    (ap (λ c. c.answer) e, ap (λ c. c.room) e, ap (λ c. c.lasso) e, ap (λ c. c.tally) e)

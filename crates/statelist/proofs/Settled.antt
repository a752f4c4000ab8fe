-- The contract of `read` is one equation and settles the call: two outcomes that it allows are the same.
use Prim.Native.Nat.{ℕ}
use mathlib.Core.Path.{◌≡◌, refl, sym, ap, ◌∙◌}
use mathlib.Core.Bool.{cond}
use mathlib.Core.List.{List}
use lib.Dec.{eqb}
use Rattle.graphs.proofs.Settled.{settled}
use Rattle.std.proofs.Common.{Result, Ok, Err}
use Rattle.statelist.specs.declared.Size.{Size}
use Rattle.statelist.specs.declared.ReadError.{ReadError}
use Rattle.statelist.specs.declared.ReadError.TheVariants.{TooLong, NoForm, DeclaredTwice, NotDeclared, PairTwice}
use Rattle.statelist.specs.declared.ReadError.TheVariants.{NoStateRoom, NoTransitionRoom, NoState}
use Rattle.text.specs.Lists.{Told, graph, refusal, outcome}
use Rattle.statelist.specs.Told.{told, comes}

-- the answer that tells it
abbrev answer_of : Told → Result Size ReadError
answer_of (graph states transitions) = Ok (record { states = states; transitions = transitions })
answer_of (refusal number line) =
    Err
    (cond (eqb number 1) TooLong
    (cond (eqb number 2) (NoForm line)
    (cond (eqb number 3) (DeclaredTwice line)
    (cond (eqb number 4) (NotDeclared line)
    (cond (eqb number 5) (PairTwice line)
    (cond (eqb number 6) (NoStateRoom line)
    (cond (eqb number 7) (NoTransitionRoom line)
    NoState)))))))

told_answer : (r : Result Size ReadError) → answer_of (told r) ≡ r
told_answer (Ok size) = refl
told_answer (Err TooLong) = refl
told_answer (Err (NoForm line)) = refl
told_answer (Err (DeclaredTwice line)) = refl
told_answer (Err (NotDeclared line)) = refl
told_answer (Err (PairTwice line)) = refl
told_answer (Err (NoStateRoom line)) = refl
told_answer (Err (NoTransitionRoom line)) = refl
told_answer (Err NoState) = refl

pub told_one : (r r' : Result Size ReadError) → told r ≡ told r' → r ≡ r'
told_one r r' e = sym (told_answer r) ∙ ap answer_of e ∙ told_answer r'

pub read_settled : (o t f p : ℕ) (text : List ℕ) (r r' : Result Size ReadError) (offsets targets flags places offsets' targets' flags' places' : List ℕ)
    → comes r offsets targets flags places ≡ outcome o t f p text → comes r' offsets' targets' flags' places' ≡ outcome o t f p text
    → (r ≡ r') × (offsets ≡ offsets') × (targets ≡ targets') × (flags ≡ flags') × (places ≡ places')
read_settled o t f p text r r' offsets targets flags places offsets' targets' flags' places' a b =
    let e = settled a b in
    (told_one r r' (ap (λ c. c.tells) e), ap (λ c. c.offsets) e, ap (λ c. c.targets) e, ap (λ c. c.flags) e, ap (λ c. c.places) e)

-- The contract of `check` settles the call: two results that it allows are the same.
use Prim.Native.Nat.{ℕ}
use mathlib.Core.Path.{◌≡◌, refl, sym, ap, ◌∙◌}
use mathlib.Core.Bool.{cond}
use mathlib.Core.List.{List}
use native.Mathlib.Omega.{arith}
use lib.Dec.{eqb}
use Rattle.std.specs.Prelude.{Result, Ok, Err, MatchResult}
use Rattle.graphs.specs.declared.graph.Graph.{Graph}
use Rattle.graphs.proofs.Settled.{settled, SameLists}
use Rattle.limits.specs.declared.RunError.{RunError}
use Rattle.limits.specs.declared.RunError.TheVariants.{NoWorkers, NoGraph, RoomShort, LassoShort, NoSuchWorker}
use Rattle.limits.specs.Refusals.{refusal_of, number_of, Passed}

-- the refusal with 01's number
abbrev pub error_of : ℕ → RunError
error_of number =
    cond (eqb number 9) NoWorkers
    (cond (eqb number 10) NoGraph (cond (eqb number 11) RoomShort (cond (eqb number 12) LassoShort NoSuchWorker)))

error_of_number : (e : RunError) → error_of (number_of e) ≡ e
error_of_number NoWorkers = refl
error_of_number NoGraph = refl
error_of_number RoomShort = refl
error_of_number LassoShort = refl
error_of_number NoSuchWorker = refl

pub number_one : (e d : RunError) → number_of e ≡ number_of d → e ≡ d
number_one e d same = sym (error_of_number e) ∙ ap error_of same ∙ error_of_number d

-- 0 is the number of none
number_not : {A : Type 0} (e : RunError) → number_of e ≡ 0 → A
number_not NoWorkers z = absurd (omega arith)
number_not NoGraph z = absurd (omega arith)
number_not RoomShort z = absurd (omega arith)
number_not LassoShort z = absurd (omega arith)
number_not NoSuchWorker z = absurd (omega arith)

-- the same error, or a graph of the same three lists
abbrev pub SameCheck : Result Graph RunError → Result Graph RunError → Type 0
SameCheck (Ok g) (Ok h) = SameLists g h
SameCheck (Err e) (Err d) = e ≡ d
SameCheck (Ok g) (Err d) = ⊥
SameCheck (Err e) (Ok h) = ⊥

module _ (room lasso : ℕ) (turns offsets targets flags : List ℕ) (P : ℕ) where
  -- what `check` promises of its result
  abbrev pub Checked : Result Graph RunError → Type 0
  Checked r =
      MatchResult r (λ g. Passed g room lasso turns offsets targets flags P) (λ e. refusal_of room lasso turns offsets targets flags P ≡ number_of e)

  pub check_settled : (r r' : Result Graph RunError) → Checked r → Checked r' → SameCheck r r'
  check_settled (Ok g) (Ok h) p q =
      (settled p.offsets_same q.offsets_same, settled p.targets_same q.targets_same, settled p.flags_same q.flags_same)
  check_settled (Err e) (Err d) p q = number_one e d (sym p ∙ q)
  check_settled (Ok g) (Err d) p q = number_not d (sym q ∙ p.not_refused)
  check_settled (Err e) (Ok h) p q = number_not e (sym p ∙ q.not_refused)

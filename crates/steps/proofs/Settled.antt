-- The contract of `step` settles the call: two outcomes that it allows are the same, and so is the move that was made, by the contract of `turn`.
use Prim.Native.Nat.{ℕ}
use mathlib.Core.Path.{◌≡◌}
use mathlib.Core.List.{List}
use Rattle.std.specs.Prelude.{Option}
use Rattle.graphs.proofs.Settled.{settled}
use Rattle.moves.specs.declared.Move.{Move}
use Rattle.moves.specs.declared.Tally.{Tally}
use Rattle.turn.specs.Turn.{Turns}
use Rattle.steps.specs.declared.Verdict.{Verdict}
use Rattle.steps.specs.Steps.{Due, Steps}

pub moved_settled : (offsets targets flags : List ℕ) (P p : ℕ) (l : List ℕ) (t : Tally) → Due offsets targets flags P p l t
    → (r r' : Option Verdict) (l' l'' : List ℕ) (t' t'' : Tally)
    → Steps offsets targets flags P p l t r l' t' → Steps offsets targets flags P p l t r' l'' t''
    → (r ≡ r') × (l' ≡ l'') × (t' ≡ t'')
    × ((made made' : Move) → Turns offsets targets flags p l l' made → Turns offsets targets flags p l l'' made' → made ≡ made')
moved_settled offsets targets flags P p l t due r r' l' l'' t' t'' a b =
    let one = a due.machine due.rest due.formed in
    let other = b due.machine due.rest due.formed in (
      settled one.verdict other.verdict,
      settled one.form other.form,
      settled one.tally other.tally,
      λ made made' x y.
          settled (x P due.machine due.rest due.named due.formed).move (y P due.machine due.rest due.named due.formed).move,
    )

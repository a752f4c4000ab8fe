-- `state_line` meets its contract: each arm cites the law of what its tests say of the line at the place.
use mathlib.Core.List.{[], ◌∷◌}
use Rattle.graphs.proofs.Tests.{clash}
use Rattle.lines.proofs.Found.{state_no_front, state_no_label, state_no_flag, state_accepting, state_plain}
use Rattle.lines.proofs.state_line.Goals as goal
use Rattle.lines.proofs.state_line.Goals.{then-starts_with, else-starts_with+then-starts_with-2}
use Rattle.std.proofs.lemmas.Slice.Eq.{starts_is}
use Rattle.std.proofs.lemmas.Bool.Decides.{Decides-eqb}

pub returns-in_err-front : goal.returns-in_err-front
returns-in_err-front c = rw c.from_residual.ensures (state_no_front c.args.at _ c.in_err-front.ensures)

pub returns-in_err-label : goal.returns-in_err-label
returns-in_err-label c = rw c.from_residual-in_err-label.ensures (state_no_label c.args.at c.in_ok-front.ensures c.in_err-label.ensures.begins)

pub returns-else-starts_with-2 : goal.returns-else-starts_with-2
returns-else-starts_with-2 c =
    let accepting = starts_is Decides-eqb c.in_ok-label.left.now (9 ∷ 97 ∷ 10 ∷ []) _ c.starts_with.ensures.value in
    let plain = starts_is Decides-eqb c.in_ok-label.left.now (9 ∷ 45 ∷ 10 ∷ []) _ c.starts_with-else-starts_with.ensures.value in
    state_no_flag c.args.at c.in_ok-front.ensures c.in_ok-label.ensures.begins
    (λ m e. clash (accepting.1 m e) c.if-starts_with.false) (λ m e. clash (plain.1 m e) c.if-starts_with-2.false)

pub returns : goal.returns
returns c = elim c.if-starts_with.branch [
  | then-starts_with w ↦
      let accepting = starts_is Decides-eqb c.in_ok-label.left.now (9 ∷ 97 ∷ 10 ∷ []) _ c.starts_with.ensures.value in
      rw w.flag-is (state_accepting c.args.at c.in_ok-front.ensures c.in_ok-label.ensures.begins _ (accepting.0 w.if-starts_with.true))
  | else-starts_with+then-starts_with-2 w ↦
      let plain = starts_is Decides-eqb c.in_ok-label.left.now (9 ∷ 45 ∷ 10 ∷ []) _ w.starts_with-else-starts_with.ensures.value in
      rw w.flag-is (state_plain c.args.at c.in_ok-front.ensures c.in_ok-label.ensures.begins _ (plain.0 w.if-starts_with-2.true))
]

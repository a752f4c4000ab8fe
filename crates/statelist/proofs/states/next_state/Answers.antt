-- `next_state` meets its contract, a law for each refusal.
use mathlib.Core.Path.{sym, ◌∙◌}
use native.Mathlib.Omega.{arith}
use Rattle.statelist.proofs.Declared.{stop_bad, stop_twice, stop_full}
use Rattle.statelist.proofs.Here.{state_here}
use Rattle.statelist.proofs.states.next_state.Goals as goal

pub returns-in_default : goal.returns-in_default
returns-in_default c =
    λ flags places t d. stop_bad d c.requires.letter.0 c.requires.letter.1 (sym c.state_line.ensures ∙ c.in_default.is) t

pub returns-in_default-find : goal.returns-in_default-find
returns-in_default-find c =
    λ flags places t d.
    let here = state_here (sym c.state_line.ensures ∙ c.in-Some.is) in
    stop_twice d here _ (sym c.find.ensures ∙ c.in_default-find.is) t

pub returns-then-held-labels : goal.returns-then-held-labels
returns-then-held-labels c =
    λ flags places t d.
    let here = state_here (sym c.state_line.ensures ∙ c.in-Some.is) in
    stop_full d here (sym c.find.ensures ∙ c.in-None.is) (omega (arith, c.if-held-labels.true)) t

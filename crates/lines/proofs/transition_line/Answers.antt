-- `transition_line` meets its contract: each arm cites the law of what its tests say of the line at the place.
use mathlib.Core.List.{[], ◌∷◌}
use Rattle.std.specs.Prelude.{Some, None}
use Rattle.std.proofs.lemmas.Slice.Eq.{starts_is, strip_prefix_is}
use Rattle.std.proofs.lemmas.Bool.Decides.{Decides-eqb}
use Rattle.graphs.proofs.Tests.{clash}
use Rattle.lines.proofs.Found.{transition_no_front, transition_no_from, transition_no_tab, transition_no_to, transition_no_feed, transition_is}
use Rattle.lines.proofs.transition_line.Goals as goal

pub returns-in_err-front : goal.returns-in_err-front
returns-in_err-front c = rw c.from_residual.ensures (transition_no_front c.args.at _ c.in_err-front.ensures)

pub returns-in_err-from : goal.returns-in_err-from
returns-in_err-from c = rw c.from_residual-in_err-from.ensures (transition_no_from c.args.at c.in_ok-front.ensures c.in_err-from.ensures.begins)

pub returns-in_err-strip_prefix : goal.returns-in_err-strip_prefix
returns-in_err-strip_prefix c =
    let none = strip_prefix_is Decides-eqb c.in_ok-from.left.now (9 ∷ []) None c.in_err-strip_prefix.ensures.cases in
    rw c.from_residual-in_err-strip_prefix.ensures (transition_no_tab c.args.at c.in_ok-front.ensures c.in_ok-from.ensures.begins none)

pub returns-in_err-to : goal.returns-in_err-to
returns-in_err-to c =
    let tab = strip_prefix_is Decides-eqb c.in_ok-from.left.now (9 ∷ []) (Some c.in_ok-strip_prefix.field-0) c.in_ok-strip_prefix.ensures.cases in
    rw c.from_residual-in_err-to.ensures
    (transition_no_to c.args.at c.in_ok-front.ensures c.in_ok-from.ensures.begins tab c.in_err-to.ensures.begins)

pub returns-then-not-starts_with : goal.returns-then-not-starts_with
returns-then-not-starts_with c =
    let tab = strip_prefix_is Decides-eqb c.in_ok-from.left.now (9 ∷ []) (Some c.in_ok-strip_prefix.field-0) c.in_ok-strip_prefix.ensures.cases in
    let feed = starts_is Decides-eqb c.in_ok-to.left.now (10 ∷ []) _ c.starts_with.ensures.value in
    transition_no_feed c.args.at c.in_ok-front.ensures c.in_ok-from.ensures.begins tab c.in_ok-to.ensures.begins
    (λ m e. clash (feed.1 m e) c.if-not-starts_with.true)

pub returns : goal.returns
returns c =
    let tab = strip_prefix_is Decides-eqb c.in_ok-from.left.now (9 ∷ []) (Some c.in_ok-strip_prefix.field-0) c.in_ok-strip_prefix.ensures.cases in
    let feed = starts_is Decides-eqb c.in_ok-to.left.now (10 ∷ []) _ c.starts_with.ensures.value in
    transition_is c.args.at c.in_ok-front.ensures c.in_ok-from.ensures.begins tab c.in_ok-to.ensures.begins _ (feed.0 c.if-not-starts_with.false)

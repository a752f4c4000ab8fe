-- `fill` meets its contract: the S lines are refused, or read and then the T lines are, or read and then there is no state, or a graph.
use mathlib.Core.Path.{◌≡◌}
use native.Mathlib.Omega.{arith}
use lib.ListN.{length}
use Rattle.std.proofs.Common.{Err}
use Rattle.text.specs.Lists.{transitions_held}
use Rattle.statelist.proofs.Ends.{rooms_same, stop_fills, ends_none, ends_graph, listed_buildable}
use Rattle.statelist.proofs.fill.fill.Goals as goal

pub returns-in_err-read_transitions : goal.returns-in_err-read_transitions
returns-in_err-read_transitions c =
    let stop : c.from_residual-in_err-read_transitions.result ≡ Err c.in_err-read_transitions.field-0.0 = grind arith in
    let held : c.min-held.result ≡ transitions_held (length c.args.targets.now) = omega arith in
    rw (stop, rooms_same _ _ _ _ _ _ c.states_held-held.ensures held)
    (stop_fills c.in_ok-at.ensures.0 _ _ _ _ c.in_err-read_transitions.ensures)

pub returns-then-labels-eq0 : goal.returns-then-labels-eq0
returns-then-labels-eq0 c =
    let read = c.in_ok-read_transitions.ensures in
    let held : c.min-held.result ≡ transitions_held (length c.args.targets.now) = omega arith in
    rw (rooms_same _ _ _ _ _ _ c.states_held-held.ensures held)
    (ends_none c.in_ok-at.ensures.0 read.1.0 read.1.1 c.if-labels-eq0.true _ _)

pub build-requires : goal.build-requires
build-requires c =
    let few = c.in_ok-at.ensures.0.few in
    let held = c.states_held-held.ensures in
    let read = c.in_ok-read_transitions.ensures in (
      listed_buildable read.1.0 (omega (arith, few, held)) (omega arith) (omega (arith, few, held)) (omega arith) c.requires.targets,
      read.1.0.counts,
    )

pub returns : goal.returns
returns c =
    let few = c.in_ok-at.ensures.0.few in
    let held = c.states_held-held.ensures in
    let read = c.in_ok-read_transitions.ensures in
    let held_t : c.min-held.result ≡ transitions_held (length c.args.targets.now) = omega arith in
    let o_long : length c.build.new.offsets ≡ length c.read_transitions.new.offsets = omega arith in
    let t_long : length c.build.new.targets ≡ length c.args.targets.now = omega arith in
    rw (rooms_same _ _ _ _ _ _ held held_t)
    (ends_graph c.in_ok-at.ensures.0 read.1.0 read.1.1 (omega (arith, c.if-labels-eq0.false)) _ _ (omega (arith, few, held)) (omega (arith, few, held))
    (rw o_long c.build.ensures.offsets) (rw t_long c.build.ensures.targets))

-- A run by a plan: what is asked before the first turn and at each one, by `Passed` and `Along`; and what is left, by the laws of `Whole`.
use Rattle.std.proofs.Common.{◌≡◌, arith, rules, refl, sym, ◌∙◌}
use Rattle.moves.specs.Tally.{zeroes}
use Rattle.search.proofs.Along.{next_left, none_left, due, along_more}
use Rattle.search.proofs.Whole.{few_states, few_workers, room_fits, cleared_long, along_cleared, left_undecided, left_quiet, stacked, left_found}
use Rattle.search.proofs.over.Goals as goal

pub room_size-requires : goal.room_size-requires
room_size-requires c =
    let passed = c.in_ok-graph.ensures in
    (rw c.states-n.ensures (few_states c.args.room.now c.args.lasso.now c.args.plan passed), few_workers c.args.room.now c.args.lasso.now c.args.plan passed)

pub slice_bounds-fill-end : goal.slice_bounds-fill-end
slice_bounds-fill-end c = rw (c.room_size.ensures, c.states-n.ensures) (room_fits c.args.room.now c.args.lasso.now c.args.plan c.in_ok-graph.ensures)

pub slice_bounds-fill-end-2 : goal.slice_bounds-fill-end-2
slice_bounds-fill-end-2 c = rw (c.room_size.ensures, c.states-n.ensures) (sym (cleared_long c.args.room.now c.args.lasso.now c.args.plan c.in_ok-graph.ensures))

pub loop-p-init : goal.loop-p-init
loop-p-init c =
    let passed = c.in_ok-graph.ensures in
    let cleared = c.fill.ensures.after (λ y e. e) in
    let tally : c.default.result ≡ zeroes = search rules in
    record {
      lasso = refl;
      along =
          rw (cleared, c.room_size.ensures, c.states-n.ensures, cleared_long c.args.room.now c.args.lasso.now c.args.plan passed, tally)
          (along_cleared c.args.room.now c.args.lasso.now c.args.plan passed);
    }

pub step-verdict-requires : goal.step-verdict-requires
step-verdict-requires c =
    let along = c.loop-p.invariant.along in
    due along (next_left c.args.plan along c.next.ensures c.in-Some.is)

pub overflow_add-used : goal.overflow_add-used
overflow_add-used c =
    let along = c.loop-p.invariant.along in
    let left = next_left c.args.plan along c.next.ensures c.in-Some.is in
    omega (arith, left.within, along.few)

pub show-requires : goal.show-requires
show-requires c =
    let along = c.loop-p.invariant.along in
    rw (c.states-n.ensures, c.loop-p.invariant.lasso)
    (stacked c.args.room.now c.args.lasso.now c.args.plan c.in_ok-graph.ensures c.args.tally.now along (next_left c.args.plan along c.next.ensures c.in-Some.is)
    c.step-verdict.ensures {s = c.in-Some-Found.state} (search rules))

pub returns-in-Some-Found : goal.returns-in-Some-Found
returns-in-Some-Found c =
    let along = c.loop-p.invariant.along in
    left_found c.args.room.now c.args.lasso.now c.args.plan c.in_ok-graph.ensures c.args.tally.now along (next_left c.args.plan along c.next.ensures c.in-Some.is)
    c.step-verdict.ensures (search rules) _
    (rw (c.states-n.ensures, c.loop-p.invariant.lasso) at c.show.ensures.lasso) (rw c.states-n.ensures at c.show.ensures.found)

pub returns-in-Some-Quiet : goal.returns-in-Some-Quiet
returns-in-Some-Quiet c =
    let along = c.loop-p.invariant.along in
    rw c.loop-p.invariant.lasso
    (left_quiet c.args.room.now c.args.lasso.now c.args.plan c.in_ok-graph.ensures c.args.tally.now along (next_left c.args.plan along c.next.ensures c.in-Some.is)
    c.step-verdict.ensures (search rules))

pub loop-p-smaller : goal.loop-p-smaller
loop-p-smaller c =
    let left = next_left c.args.plan c.loop-p.invariant.along c.next.ensures c.in-Some.is in
    omega (arith, left.within)

pub loop-p-preserved : goal.loop-p-preserved
loop-p-preserved c =
    let along = c.loop-p.invariant.along in
    record {
      lasso = c.loop-p.invariant.lasso;
      along = along_more along (next_left c.args.plan along c.next.ensures c.in-Some.is) c.step-verdict.ensures c.in-None.is;
    }

pub returns : goal.returns
returns c =
    let none = none_left _ _ _ _ _ c.args.plan (sym c.next.ensures ∙ c.in_default.is) in
    rw c.loop-p.invariant.lasso (left_undecided c.args.room.now c.args.lasso.now c.args.plan c.in_ok-graph.ensures c.args.tally.now c.loop-p.invariant.along none)

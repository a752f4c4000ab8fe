-- `stamp_all` meets its contract. What is left of the targets is unseen exactly if the whole does not repeat: seen is what has the stamp.
use Rattle.std.proofs.Common.{rules, sym, ap, ◌∙◌, arith, ◌<◌, ◌+◌, length, get_or, drop, set, eq-eqb, ne_eqb}
use Rattle.graphs.proofs.Stamps.{stamped, unseen, unseen_repeats, unseen_hit, unseen_step, unseen_end, stamped_none, stamped_set, set_bound}
use Rattle.graphs.proofs.checks.stamp_all.Goals as goal

pub loop-target-init : goal.loop-target-init
loop-target-init c = record {
  long = search rules;
  rest = unseen_repeats _ _ (stamped_none _ _ c.requires.fresh);
  low = λ x. omega (arith, c.requires.fresh x);
}

pub returns-then-table-t : goal.returns-then-table-t
unfolding stamped
returns-then-table-t c =
    let i = c.loop-target.target-index in
    record {
      answer = sym (unseen_hit _ _ i c.loop-target-test.true (eq-eqb _ _ (rw c.from-t.ensures at c.if-table-t.true))) ∙ c.loop-target.invariant.rest;
      used = c.loop-target.invariant.low;
    }

pub loop-target-preserved : goal.loop-target-preserved
unfolding stamped
loop-target-preserved c =
    let i = c.loop-target.target-index in
    let t = get_or c.args.targets.now i 0 in
    let here : t < length c.loop-target.table = omega (arith, c.requires.inside i c.loop-target-test.true, c.loop-target.invariant.long) in
    let left = drop (i + 1) c.args.targets.now in
    record {
      long = search rules;
      rest =
          ap (λ j. unseen (stamped (set c.loop-target.table j c.args.stamp) c.args.stamp) left) c.from-t.ensures
          ∙ ap (λ seen. unseen seen left) (stamped_set c.loop-target.table c.args.stamp t here)
          ∙ sym (unseen_step _ _ i c.loop-target-test.true (ne_eqb _ _ (rw c.from-t.ensures at c.if-table-t.false)))
          ∙ c.loop-target.invariant.rest;
      low = set_bound c.loop-target.table c.from-t.result c.args.stamp _ (omega arith) c.loop-target.invariant.low;
    }

pub returns : goal.returns
returns c = record {
  answer = sym (unseen_end _ _ c.loop-target.target-index c.loop-target-test.false) ∙ c.loop-target.invariant.rest;
  used = c.loop-target.invariant.low;
}

-- `first_part` meets its contract. The bytes so far are a label's, and `word` is their word.
use mathlib.Core.Path.{sym, ◌∙◌}
use native.Mathlib.Omega.{arith}
use Rattle.lines.specs.Bytes.{in_label}
use Rattle.std.proofs.lemmas.List.{length-take}
use Rattle.std.proofs.lemmas.List.Sums.{prefix_len-drop_no, prefix_len-drop_all}
use Rattle.lines.proofs.Part.{taken_none, taken_fits, taken_more, taken_all, few_is}
use Rattle.lines.proofs.scan.first_part.Goals as goal

pub loop-byte-init : goal.loop-byte-init
loop-byte-init c = record { taken = taken_none _; all = omega arith }

pub overflow_mul-word : goal.overflow_mul-word
overflow_mul-word c = omega (arith, taken_fits _ _ _ c.loop-byte.invariant.taken (omega (arith, length-take c.min.result c.args.left.now)))

pub overflow_add-word : goal.overflow_add-word
overflow_add-word c = omega (arith, taken_fits _ _ _ c.loop-byte.invariant.taken (omega (arith, length-take c.min.result c.args.left.now)))

pub loop-byte-preserved : goal.loop-byte-preserved
unfolding in_label
loop-byte-preserved c =
    let few = few_is c.args.left.now c.min.ensures in
    record {
      taken =
          taken_more _ _ _ c.loop-byte.invariant.taken c.from.result (rw few at c.loop-byte-test.true) (sym (rw few at c.from.ensures))
          (rw (c.from.ensures, ← c.of.ensures) (sym c.is_of_label.ensures ∙ c.if-not-is_of_label.false)) (omega arith);
      all = omega (arith, c.loop-byte.invariant.all);
    }

pub returns-after-loop-byte-clause-is : goal.returns-after-loop-byte-clause-is
returns-after-loop-byte-clause-is c =
    let l = c.loop-byte in
    let few = few_is c.args.left.now c.min.ensures in
    rw l.invariant.all (taken_all _ _ _ l.invariant.taken (prefix_len-drop_all in_label _ l.byte-index (rw few at c.loop-byte-test.false)))

pub returns-then-not-is_of_label-clause-is : goal.returns-then-not-is_of_label-clause-is
unfolding in_label
returns-then-not-is_of_label-clause-is c =
    let l = c.loop-byte in
    let few = few_is c.args.left.now c.min.ensures in
    rw l.invariant.all
    (taken_all _ _ _ l.invariant.taken (prefix_len-drop_no in_label _ l.byte-index 0 (rw few at c.loop-byte-test.true)
    (rw (← few, ← c.of.ensures) (sym c.is_of_label.ensures ∙ c.if-not-is_of_label.true))))

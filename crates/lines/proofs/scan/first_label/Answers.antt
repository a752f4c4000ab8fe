-- `first_label` meets its contract: a label is one part of less than eight bytes, or eight bytes and a second part.
use native.Mathlib.Omega.{arith}
use Rattle.lines.specs.Scan.{part_of}
use Rattle.lines.proofs.Labels.{label_of_one, label_of_two, to_end, begins}
use Rattle.lines.proofs.scan.first_label.Goals as goal

pub returns-then-len-lt8-clause-begins : goal.returns-then-len-lt8-clause-begins
unfolding part_of
returns-then-len-lt8-clause-begins c =
    let part = c.first_part-len.ensures.is in
    begins _ _ (omega (arith, c.if-len-eq0.false)) (rw part (label_of_one _ (rw part at c.if-len-lt8.true)))

pub returns-clause-begins : goal.returns-clause-begins
unfolding part_of
returns-clause-begins c =
    let part = c.first_part-len.ensures.is in
    begins _ _ (omega arith) (rw (part, c.first_part-rest.ensures.is, to_end c.args.left.now 8) (label_of_two _ (rw part at c.if-len-lt8.false)))

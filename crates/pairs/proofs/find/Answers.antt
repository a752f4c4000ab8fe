-- `find` meets its contract. It goes along the chain of the pair's bucket, from the last number to the first.
use Prim.Native.Nat.{◌-◌}
use mathlib.Core.Path.{sym, ◌∙◌}
use native.Mathlib.Omega.{arith}
use Rattle.pairs.proofs.Chain.{way_start, way_next, way_less, way_found, way_end}
use Rattle.pairs.proofs.find.Goals as goal

pub loop-at-init : goal.loop-at-init
loop-at-init c = rw (c.from-at.ensures, c.bucket.ensures.value) (way_start _ _ c.args.a c.args.b _ _ _ c.requires)

pub returns-then-is_pair : goal.returns-then-is_pair
returns-then-is_pair c = way_found _ _ _ _ _ c.loop-at.at _ c.loop-at.invariant (omega arith) (sym c.is_pair.ensures ∙ c.if-is_pair.true)

pub loop-at-smaller : goal.loop-at-smaller
loop-at-smaller c =
    rw c.from-at-in-loop-at.ensures
    (way_less _ _ c.args.a c.args.b _ _ _ c.requires c.loop-at.at (c.loop-at.at - 1) c.loop-at.invariant (omega arith))

pub loop-at-preserved : goal.loop-at-preserved
loop-at-preserved c =
    rw c.from-at-in-loop-at.ensures
    (way_next _ _ c.args.a c.args.b _ _ _ c.requires c.loop-at.at (c.loop-at.at - 1) c.loop-at.invariant (omega arith)
    (sym c.is_pair.ensures ∙ c.if-is_pair.false))

pub returns : goal.returns
returns c = way_end _ _ _ _ _ c.loop-at.at c.loop-at.invariant (omega arith)

-- `none_twice` meets its contract. No state before s has a target twice, and no stamp in the table is above s.
use Rattle.std.proofs.Common.{ℕ, Bool, rules, sym, refl, arith, not}
use Rattle.graphs.specs.Lists.{every, repeats}
use Rattle.graphs.specs.Words.{most_states, none_twice, successors}
use Rattle.graphs.proofs.Every.{every_not}
use Rattle.graphs.proofs.Stamps.{zeroes_at, part_below}
use Rattle.graphs.proofs.checks.none_twice.Goals as goal

pub loop-s-init : goal.loop-s-init
unfolding none_twice every
loop-s-init c = record { long = refl; low = λ x. omega (arith, zeroes_at most_states x); apart = refl }

pub stamp_all-requires : goal.stamp_all-requires
stamp_all-requires c = record {
  inside = part_below c.args.targets.now c.from.result _ _ (λ k h. omega (arith, c.requires.inside k h, c.requires.few, c.loop-s.invariant.long));
  fresh = c.loop-s.invariant.low;
}

pub returns-then-not-stamp_all : goal.returns-then-not-stamp_all
unfolding none_twice successors
returns-then-not-stamp_all c =
    let once : ℕ → Bool = λ s. not (repeats (successors c.args.offsets.now c.args.targets.now s)) in
    sym (every_not c.args.n once c.loop-s.s (omega arith) (search rules))

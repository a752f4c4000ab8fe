-- `show` meets its contract: the stem is no longer than the outer stack, and two copies put one part after the other.
use Rattle.std.proofs.Common.{arith}
use Rattle.ends.proofs.Stacked.{stacked_stem, stacked_lasso, stacked_found}
use Rattle.ends.proofs.show.Goals as goal

pub overflow_sub-result : goal.overflow_sub-result
overflow_sub-result c =
    let outer = rw c.own_at-own.ensures at c.from-outer.ensures in
    let inner = rw c.own_at-own.ensures at c.from-inner.ensures in
    let low = stacked_stem c.requires c.stretch_at-a.ensures outer inner _ c.place_down-stem.ensures in
    omega (arith, low)

pub returns-clause-lasso : goal.returns-clause-lasso
returns-clause-lasso c =
    let outer = rw c.own_at-own.ensures at c.from-outer.ensures in
    let inner = rw c.own_at-own.ensures at c.from-inner.ensures in
    stacked_lasso c.requires c.stretch_at-a.ensures outer inner c.copy.ensures c.copy-2.ensures

pub returns-clause-found : goal.returns-clause-found
returns-clause-found c =
    let outer = rw c.own_at-own.ensures at c.from-outer.ensures in
    let inner = rw c.own_at-own.ensures at c.from-inner.ensures in
    stacked_found c.requires c.stretch_at-a.ensures outer inner _ _ c.place_down-stem.ensures

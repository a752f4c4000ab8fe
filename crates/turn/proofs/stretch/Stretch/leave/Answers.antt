-- `leave` meets its contract: the depth after the pop tells whether the worker is done.
use mathlib.Core.Path.{sym, ◌∙◌}
use Rattle.moves.proofs.Stores.{none_left}
use Rattle.turn.proofs.Put.{popped, leave_put}
use Rattle.turn.proofs.stretch.Stretch.leave.Goals as goal

pub returns-clause-worker : goal.returns-clause-worker
returns-clause-worker c =
    λ n w u h place outer.
    let k = c.pop.ensures.worker n w u h outer in
    record { place = c.left-self.ensures ∙ rw (k.place, place, none_left k.outer); cyan = k.cyan; R = k.R; outer = k.outer; inner = k.inner; taken = k.taken }

pub returns-clause-stores : goal.returns-clause-stores
returns-clause-stores c =
    let k = c.args.self.now in
    let p = popped k c.pop.new.self c.args.s c.requires.top c.requires.some c.requires.deep c.pop.ensures.stores in
    rw (c.left-self.ensures, p.place, p.outer_depth, p.cyan, p.gathered, p.outer, p.inner, p.taken, p.inner_depth)
    (sym (leave_put k c.args.s c.requires.top c.requires.some c.requires.deep))

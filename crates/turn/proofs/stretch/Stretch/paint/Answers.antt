-- `paint` meets its contract: the depth after the pop tells whether the worker is done.
use mathlib.Core.Path.{◌≡◌, sym, ◌∙◌}
use lib.ListN.{length, replicate}
use borrow.Author.Rules.{rules}
use Rattle.moves.proofs.Stores.{none_left, cleared}
use Rattle.turn.proofs.Put.{popped, paint_put}
use Rattle.turn.proofs.stretch.Stretch.paint.Goals as goal

pub returns-clause-worker : goal.returns-clause-worker
returns-clause-worker c =
    λ n w u h place outer.
    let k = c.pop.ensures.worker n w u h outer in
    let R = cleared k.R in
    record { place = c.painted-self.ensures ∙ rw (k.place, place, none_left k.outer); cyan = k.cyan; R = search rules; outer = k.outer; inner = k.inner; taken = k.taken }

pub returns-clause-stores : goal.returns-clause-stores
returns-clause-stores c =
    let k = c.args.self.now in
    let p = popped k c.pop.new.self c.args.z c.requires.top c.requires.some c.requires.deep c.pop.ensures.stores in
    let emptied : c.fill.new.self ≡ replicate (length c.pop.new.self.gathered.now) 0 = search rules in
    rw (c.painted-self.ensures, p.place, p.outer_depth, p.cyan, emptied, p.gathered, k.even_gathered, p.outer, p.inner, p.taken, p.inner_depth)
    (sym (paint_put k c.args.z c.requires.top c.requires.some c.requires.deep))

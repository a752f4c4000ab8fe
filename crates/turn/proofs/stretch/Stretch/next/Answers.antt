-- `next` meets its contract: the row is read in the worker's order, at the count of those taken.
use mathlib.Core.Path.{◌≡◌, ◌∙◌}
use lib.ListN.{get_or}
use borrow.Author.Rules.{rules}
use Rattle.std.specs.Prelude.{slice_get}
use Rattle.graphs.specs.Graph.{turned}
use Rattle.graphs.specs.Words.{successors}
use Rattle.moves.proofs.Stores.{count_word}
use Rattle.turn.proofs.Next.{next_is, next_low, next_below}
use Rattle.turn.proofs.stretch.Stretch.next.Goals as goal

read : (c : goal.After-in_order)
    → c.in_order.result
    ≡ slice_get (turned c.args.p (successors c.args.graph.now.offsets.now c.args.graph.now.targets.now c.args.s)) (get_or c.args.self.now.taken.now c.args.s 0)
read c = rw (← c.from-s.ensures, ← c.from.ensures, ← c.successors.ensures.row) c.in_order.ensures

pub returns-clause-next : goal.returns-clause-next
returns-clause-next c =
    λ n m h. read c ∙ next_is _ _ c.args.graph.now.flags.now c.args.p m c.args.s _ (count_word h.taken c.args.s (search rules))

pub returns-clause-below : goal.returns-clause-below
returns-clause-below c = next_below _ _ _ _ _ c.in_order.ensures (search rules)

pub returns-clause-count : goal.returns-clause-count
returns-clause-count c = next_low _ _ _ c.args.graph.now.is_graph c.args.p c.args.s _ (search rules) _ (read c)

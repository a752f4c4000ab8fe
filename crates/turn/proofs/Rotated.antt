-- What stands at each place of a worker's order of looking; the length and the words of a row; and that the successor read from the words is the
-- first of what is left in that order.
use Prim.Native.Nat.{ℕ, ◌+◌, ◌-◌, ◌<◌}
use mathlib.Core.Path.{◌≡◌, ◌∙◌}
use mathlib.Core.List.{List}
use lib.Dec.{ltb}
use lib.ListN.{length, get_or, drop, length-take, length-drop, drop_of_length-le}
use lib.Seq.{drop-cons, get_or-take, get_or-drop}
use borrow.Author.Tests.{ltb-true, ltb-false}
use native.Mathlib.Omega.{arith}
use Rattle.graphs.specs.Graph.{turned}
use Rattle.graphs.specs.Words.{successors}
use Rattle.graphs.proofs.Tests.{cond_ind}
use Rattle.graphs.proofs.Order as order
use Rattle.graphs.proofs.Order.{turned_long}
use Rattle.turn.specs.Successor.{Row, rotation, successor_in}
use Rattle.turn.specs.Holds.{first_of}
use Rattle.turn.proofs.Rows.{rotation_below}

pub turned_at : (p k : ℕ) (l : List ℕ) → k < length l → get_or (turned p l) k 0 ≡ get_or l (rotation p (length l) k) 0
unfolding rotation
turned_at = order.turned_at

module _ (offsets targets : List ℕ) (s : ℕ) (row : Row offsets targets s) where
  pub row_long : length (successors offsets targets s) ≡ get_or offsets (s + 1) 0 - get_or offsets s 0
  unfolding successors
  row_long = simp (length-take, length-drop) (omega arith)

  pub row_at : (i : ℕ) → i < get_or offsets (s + 1) 0 - get_or offsets s 0
      → get_or (successors offsets targets s) i 0 ≡ get_or targets (get_or offsets s 0 + i) 0
  unfolding successors
  row_at i h = rw (get_or-take, get_or-drop)

pub successor_is : (offsets targets : List ℕ) (p s k : ℕ) → Row offsets targets s
    → successor_in offsets targets p s k ≡ first_of (drop k (turned p (successors offsets targets s)))
unfolding successor_in
successor_is offsets targets p s k row =
    let l = successors offsets targets s in
    let d = get_or offsets (s + 1) 0 - get_or offsets s 0 in
    let row_d = row_long offsets targets s row in
    let long : length (turned p l) ≡ d = turned_long p l ∙ row_d in
    cond_ind (λ next. next ≡ first_of (drop k (turned p l))) (ltb k d)
    (λ t.
    let less = ltb-true k d t in
    let here = rw row_d at (turned_at p k l (omega arith)) in
    rw (drop-cons (turned p l) k 0 (omega arith), here, row_at offsets targets s row (rotation p d k) (rotation_below p d k less)))
    (λ t. rw (drop_of_length-le (turned p l) {i = k} (omega (arith, ltb-false k d t))))

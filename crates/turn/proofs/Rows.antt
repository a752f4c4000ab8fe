-- Each place in a worker's order of looking is in the row; and, of words that are a graph, the row of each state, and that a successor taken from
-- it is a state.
use Prim.Native.Nat.{ℕ, ◌+◌, ◌-◌, ◌<◌, ◌%◌}
use mathlib.Core.Path.{◌≡◌}
use mathlib.Core.Bool.{true}
use mathlib.Core.List.{List}
use lib.Dec.{ltb}
use lib.ListN.{length, get_or}
use borrow.Author.Tests.{ltb-true, ltb-false}
use native.Mathlib.Nat.{mod-lt}
use native.Mathlib.Omega.{arith}
use Rattle.std.specs.Prelude.{Some}
use Rattle.graphs.specs.Words.{is_graph}
use Rattle.graphs.proofs.Tests.{cond_ind}
use Rattle.graphs.proofs.Words.{words_are, offset_inside}
use Rattle.turn.specs.Successor.{Row, rotation, successor_in}

pub rotation_below : (p d k : ℕ) → k < d → rotation p d k < d
unfolding rotation
rotation_below p d k h =
    let less : p % d < d = mod-lt p {m = d} (omega arith) in
    cond_ind (λ r. r < d) (ltb (p % d + k) d) (ltb-true _ _) (λ t. omega (arith, ltb-false (p % d + k) d t))

module _ (offsets targets flags : List ℕ) (s : ℕ) (graph : is_graph offsets targets flags ≡ true) (state : s < length flags) where
  pub row_of : Row offsets targets s
  row_of =
      let w = words_are offsets targets flags graph in
      record {
        inside = omega arith;
        rises = w.rising s state;
        ends = offset_inside offsets targets flags w (s + 1) (omega arith);
      }

  pub taken_below : (p k x : ℕ) → successor_in offsets targets p s k ≡ Some x → x < length flags
  unfolding successor_in
  taken_below p k x =
      let w = words_are offsets targets flags graph in
      let row = row_of in
      let from = get_or offsets s 0 in
      let d = get_or offsets (s + 1) 0 - from in
      let place = from + rotation p d k in
      cond_ind (λ next. next ≡ Some x → x < length flags) (ltb k d)
      (λ t e.
      let below = rotation_below p d k (ltb-true k d t) in
      let same : get_or targets place 0 ≡ x = cc in
      rw same at (w.inside place (omega arith)))
      (λ t e. let z : ◌≡◌ {A = ℕ} 0 1 = cc in absurd (omega arith))

-- What is read of a row: the first successor that is left, which is a state; and that the count of those taken is low then.
use Prim.Native.Nat.{ℕ, ◌+◌, ◌<◌, ◌≤◌, ◌%◌}
use mathlib.Core.Path.{◌≡◌, refl, sym}
use mathlib.Core.Bool.{true}
use mathlib.Core.List.{List, [], ◌∷◌}
use mathlib.Core.Logic.{◌⊎◌, inl, inr}
use lib.ListN.{length, drop, drop_of_length-le}
use lib.Seq.{drop-cons}
use native.Mathlib.Omega.{arith}
use Rattle.std.specs.Prelude.{Option, Some, None, IfSome, All, slice_get}
use Rattle.std.proofs.lemmas.Option.{slice_get_within, slice_get_past, slice_get-get_or, get_or_from_slice_get}
use Rattle.std.proofs.lemmas.List.Elements.{All-append, All-take, All-drop}
use Rattle.graphs.specs.Graph.{graph, turned}
use Rattle.graphs.specs.Words.{successors, graph_of, is_graph}
use Rattle.graphs.proofs.Tests.{below?}
use Rattle.graphs.proofs.Order.{turned_long}
use Rattle.graphs.proofs.Words.{words_are, offset_inside, successors_long}
use Rattle.moves.specs.Machine.{Machine}
use Rattle.moves.specs.Moves.{remaining}
use Rattle.turn.specs.Holds.{first_of}

slice_first : (l : List ℕ) (k : ℕ) → slice_get l k ≡ first_of (drop k l)
slice_first l k = go (below? k (length l))
  where
    go : (k < length l) ⊎ (length l ≤ k) → slice_get l k ≡ first_of (drop k l)
    go (inl h) = rw (slice_get-get_or l k 0 h, drop-cons l k 0 h)
    go (inr h) = rw (slice_get_past l k h, drop_of_length-le l {i = k} h)

pub past_order : (p k : ℕ) (row : List ℕ) → length row ≤ k → slice_get (turned p row) k ≡ None
past_order p k row h = slice_get_past (turned p row) k (omega (arith, h, turned_long p row))

-- the list that has a first is that one on others, and the list that has none is empty
pub first_some : (l : List ℕ) (x : ℕ) → first_of l ≡ Some x → (k : List ℕ) × (l ≡ x ∷ k)
first_some [] x e = let z : ◌≡◌ {A = ℕ} 0 1 = cc in absurd (omega arith)
first_some (y ∷ l) x e = (l, cc)

pub first_none : (l : List ℕ) → first_of l ≡ None → l ≡ []
first_none [] e = refl
first_none (y ∷ l) e = let z : ◌≡◌ {A = ℕ} 0 1 = cc in absurd (omega arith)

module _ (offsets targets flags : List ℕ) where
  pub next_is : (p : ℕ) (m : Machine) (s k : ℕ) → k ≡ (m.worker p).taken s
      → slice_get (turned p (successors offsets targets s)) k ≡ first_of (remaining (graph_of offsets targets flags) p m s)
  unfolding graph_of graph
  next_is p m s k e = rw e (slice_first (turned p (successors offsets targets s)) ((m.worker p).taken s))

  pub next_low : is_graph offsets targets flags ≡ true → (p s k : ℕ) → s < length flags → (r : Option ℕ)
      → r ≡ slice_get (turned p (successors offsets targets s)) k → IfSome r (λ x. k < 65535)
  next_low is p s k h None e = tt
  next_low is p s k h (Some x) e =
      let w = words_are offsets targets flags is in
      let row = successors offsets targets s in
      let within = slice_get_within (turned p row) k x (sym e) in
      omega (arith, within, turned_long p row, successors_long offsets targets flags w s h, offset_inside offsets targets flags w (s + 1) (omega arith), w.short)

pub next_below : (n p k : ℕ) (row : List ℕ) (r : Option ℕ) → r ≡ slice_get (turned p row) k → All (λ x. x < n) row → IfSome r (λ x. x < n)
unfolding turned
next_below n p k row None e low = tt
next_below n p k row (Some x) e low =
    let d = p % length row in
    let all : All (λ y. y < n) (turned p row) = All-append (λ y. y < n) _ _ (All-drop (λ y. y < n) d row low) (All-take (λ y. y < n) d row low) in
    let read = all k 0 (slice_get_within (turned p row) k x (sym e)) in
    rw (get_or_from_slice_get (turned p row) k x 0 (sym e)) at read

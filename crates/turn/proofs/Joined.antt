-- The contracts of a stretch's moves, said of its words in one piece: where they are the stretch of a worker, they are after the move the stretch of the
-- worker after it. A law for each move, from the clause that the move's contract has.
use Prim.Native.Nat.{ℕ}
use mathlib.Core.Path.{◌≡◌, refl, sym, ◌∙◌}
use mathlib.Core.Bool.{false}
use mathlib.Core.List.{List, [], ◌∷◌}
use lib.ListN.{length}
use Rattle.moves.specs.declared.Place.TheVariants.{Fresh, Outer, Inner, Waiting}
use Rattle.moves.specs.declared.own.Own.{Own}
use Rattle.moves.specs.Place.{left, painted}
use Rattle.moves.specs.Machine.{Worker, empty}
use Rattle.moves.specs.Changes.{is_empty, starts, takes, enters, pops, seeds, joins, backs}
use Rattle.moves.specs.Room.{kind_word, seed_word, place_of, span, Fits}
use Rattle.moves.proofs.Room.{place_words}
use Rattle.theory.specs.Invariant.{Calm}
use Rattle.turn.specs.declared.stretch.Stretch.{Stretch}
use Rattle.turn.specs.Holds.{Holds}
use Rattle.turn.specs.Stores.{words}
use Rattle.turn.proofs.Cut.{parted, parts_joined}

module _ {k : Stretch} (n : ℕ) (w : Worker) (fits : Fits n w) (long : length k.cyan.now ≡ n) (form : words k ≡ span n w) where
  holds : Holds k n w
  holds =
      let at : Own = record { place = place_of (kind_word k.place) (seed_word k.place); outer = k.outer_depth; inner = k.inner_depth } in
      let q = parted {at = at} n w (kind_word k.place ∷ seed_word k.place ∷ k.outer_depth ∷ k.inner_depth ∷ []) long fits form
      refl refl refl k.even_gathered refl k.even_outer refl k.even_inner refl k.even_taken refl in
      record { place = sym (place_words k.place) ∙ q.place; cyan = q.cyan_is; R = q.R_is; outer = q.outer_is; inner = q.inner_is; taken = q.taken_is }

  module _ {k' : Stretch} where
    -- move 1
    pub start_joined : ((n : ℕ) (w : Worker) → Holds k n w → w.place ≡ Fresh → w.outer ≡ [] → Holds k' n (starts w))
        → w.place ≡ Fresh → w.outer ≡ [] → words k' ≡ span n (starts w)
    start_joined start place outer = parts_joined (start n w holds place outer)

    -- moves 2 and 4, where a successor is taken and nothing else changes
    pub take_joined : (s : ℕ) → ((n : ℕ) (w : Worker) → Holds k n w → Holds k' n (takes w s)) → words k' ≡ span n (takes w s)
    take_joined s take = parts_joined (take n w holds)

    -- move 2
    pub enter_joined : (s x : ℕ) → ((n : ℕ) (w : Worker) → Holds k n w → Holds k' n (enters w s x)) → words k' ≡ span n (enters w s x)
    enter_joined s x enter = parts_joined (enter n w holds)

    -- the top of the outer stack leaves it; the place and R stay
    pub pop_joined : (s : ℕ) (u : List ℕ)
        → ((n : ℕ) (w : Worker) (u : List ℕ) → Holds k n w → w.outer ≡ s ∷ u → Holds k' n (pops w s u w.place w.R))
        → w.outer ≡ s ∷ u → words k' ≡ span n (pops w s u w.place w.R)
    pop_joined s u pop outer = parts_joined (pop n w u holds outer)

    -- move 3, not accepting
    pub leave_joined : (s : ℕ) (u : List ℕ)
        → ((n : ℕ) (w : Worker) (u : List ℕ) → Holds k n w → w.place ≡ Outer → w.outer ≡ s ∷ u → Holds k' n (pops w s u (left Outer (is_empty u)) w.R))
        → w.place ≡ Outer → w.outer ≡ s ∷ u → words k' ≡ span n (pops w s u (left Outer (is_empty u)) w.R)
    leave_joined s u leave place outer = parts_joined (leave n w u holds place outer)

    -- move 3, accepting
    pub seed_joined : (s : ℕ) → ((n : ℕ) (w : Worker) → Holds k n w → w.place ≡ Outer → Calm w → Holds k' n (seeds w s))
        → w.place ≡ Outer → w.inner ≡ [] → ((x : ℕ) → w.R x ≡ false) → words k' ≡ span n (seeds w s)
    seed_joined s seed place bare clear = parts_joined (seed n w holds place (record { bare = bare; clear = clear }))

    -- move 4
    pub join_joined : (s x : ℕ) → ((n : ℕ) (w : Worker) → Holds k n w → Holds k' n (joins w s x)) → words k' ≡ span n (joins w s x)
    join_joined s x join = parts_joined (join n w holds)

    -- move 5
    pub back_joined : (z s : ℕ) (u : List ℕ)
        → ((n : ℕ) (w : Worker) (z : ℕ) (u : List ℕ) → Holds k n w → w.place ≡ Inner z → w.inner ≡ s ∷ u → Holds k' n (backs w z s u))
        → w.place ≡ Inner z → w.inner ≡ s ∷ u → words k' ≡ span n (backs w z s u)
    back_joined z s u back place inner = parts_joined (back n w z u holds place inner)

    -- move 6
    pub paint_joined : (z : ℕ) (u : List ℕ)
        → ((n : ℕ) (w : Worker) (u : List ℕ) → Holds k n w → w.place ≡ Waiting z → w.outer ≡ z ∷ u → Holds k' n (pops w z u (painted (Waiting z) (is_empty u)) empty))
        → w.place ≡ Waiting z → w.outer ≡ z ∷ u → words k' ≡ span n (pops w z u (painted (Waiting z) (is_empty u)) empty)
    paint_joined z u paint place outer = parts_joined (paint n w u holds place outer)

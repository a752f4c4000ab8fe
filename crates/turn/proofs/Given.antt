-- What is known where a turn of worker p is made: the room is the form of a machine with the invariant, and the words are a graph.
use Prim.Native.Nat.{ℕ, suc, ◌+◌, ◌-◌, ◌*◌, ◌<◌, ◌≤◌}
use mathlib.Core.Path.{◌≡◌, refl, sym, ap, ◌∙◌}
use mathlib.Core.Bool.{true}
use mathlib.Core.List.{List, ◌∷◌}
use mathlib.Core.Logic.{inl}
use lib.ListN.{length, get_or, length-drop}
use native.Mathlib.Omega.{arith}
use Rattle.graphs.specs.Graph.{Graph, graph, Sound}
use Rattle.graphs.specs.Words.{graph_of, is_graph, most_states, most_transitions}
use Rattle.graphs.proofs.Words.{words_are, words_sound}
use Rattle.moves.specs.Machine.{Worker, Machine}
use Rattle.moves.specs.Moves.{remaining, turn}
use Rattle.moves.specs.Room.{bit, span, stretch, stretch_at, Fits, AllFit}
use Rattle.moves.proofs.Stretch.{stretch_inside}
use Rattle.moves.proofs.Words.{Seen, long, own_word, cyan_at, R_at, taken_at, outer_top, inner_top}
use Rattle.theory.specs.Rules.{Outermost, Innermost}
use Rattle.theory.specs.Turns.{AllShallow}
use Rattle.theory.proofs.Depth.{local_shallow}
use Rattle.theory.proofs.Run.{turn_shallow}
use Rattle.theory.proofs.Taken.{next_edge}
use Rattle.moves.specs.Own.{own_of, own_in}
use Rattle.moves.proofs.Owned.{own_seen}
use Rattle.turn.proofs.Rows.{row_of}
use Rattle.turn.proofs.Rotated.{row_long}
use Rattle.turn.specs.Turn.{Formed, Poised}

pub record Given (offsets targets flags : List ℕ) (P p : ℕ) (m : Machine) (rest l : List ℕ) : Type 0 where
  pub is : is_graph offsets targets flags ≡ true
  pub named : p < P
  pub formed : Formed offsets targets flags P m rest l

pub given : {offsets targets flags : List ℕ} {p : ℕ} {l : List ℕ} (x : Poised offsets targets flags p l)
    → Given offsets targets flags x.workers p x.machine x.rest l
given x = record { is = x.graph; named = x.named; formed = x.formed }

module _ {offsets targets flags : List ℕ} {P p : ℕ} {m : Machine} {rest l : List ℕ} (x : Given offsets targets flags P p m rest l) where
  abbrev n : ℕ
  n = length flags

  abbrev g : Graph
  g = graph_of offsets targets flags

  abbrev a : ℕ
  a = stretch_at n p

  abbrev w : Worker
  w = m.worker p

  pub sound : Sound g
  sound = words_sound offsets targets flags (words_are offsets targets flags x.is)

  pub start_some : 0 < n
  unfolding graph_of graph
  start_some = sound.first

  pub few : n ≤ most_states
  few = (words_are offsets targets flags x.is).few

  pub shallow : AllShallow g m
  shallow q = local_shallow sound (x.formed.inv.local q)

  -- the same after the turn
  pub shallow_after : AllShallow g (turn g p m).machine
  shallow_after = turn_shallow g P sound (omega (arith, x.named)) p m x.named x.formed.inv

  pub fits_of : (k : Machine) → AllShallow g k → AllFit n P k
  unfolding graph_of graph
  fits_of k s q h = record { outer_fits = (s q).outer_deep; inner_fits = (s q).inner_deep }

  pub seen : Seen n P m rest l
  seen = record { form = x.formed.form; fits = fits_of m shallow }

  pub fits : Fits n w
  fits = seen.fits p x.named

  -- the stretch lies in the room, after the shared colours
  pub after : 2 * n ≤ a
  after = omega arith

  pub inside : a + stretch n ≤ length l
  inside = stretch_inside n P p (length l) x.named (omega (arith, long n P m rest l seen))

  -- the stacks hold states
  pub outer_state : (s : ℕ) (u : List ℕ) → Outermost p m s u → s < n
  unfolding graph_of graph
  outer_state s u e = (shallow p).outer_below s (rw e (inl refl))

  pub inner_state : (s : ℕ) (u : List ℕ) → Innermost p m s u → s < n
  unfolding graph_of graph
  inner_state s u e = (shallow p).inner_below s (rw e (inl refl))

  -- a successor that is left is a state, and the count of those taken is low
  pub taken_state : (s y : ℕ) (k : List ℕ) → s < n → remaining g p m s ≡ y ∷ k → y < n
  unfolding graph_of graph
  taken_state s y k h e = sound.bound s y h (next_edge g p w sound s y k e)

  next_long : (s : ℕ) → s < n → length (g.next s) ≡ get_or offsets (s + 1) 0 - get_or offsets s 0
  unfolding graph_of graph
  next_long s h = row_long offsets targets s (row_of offsets targets flags s x.is h)

  pub count_low : (s y : ℕ) (k : List ℕ) → s < n → remaining g p m s ≡ y ∷ k → w.taken s < most_transitions
  count_low s y k h e =
      let row = row_of offsets targets flags s x.is h in
      let left : suc (length k) ≡ length (g.order p s) - w.taken s = sym (ap length e) ∙ length-drop (w.taken s) (g.order p s) in
      let order = sound.long p s in
      let next = next_long s h in
      omega (arith, left, order, next, row.ends, (words_are offsets targets flags x.is).short)

  -- the words that the stretch has at its start's distance
  pub stretch_word : (i j : ℕ) → i < stretch n → j ≡ a + i → get_or l j 0 ≡ get_or (span n w) i 0
  stretch_word i j h e = rw e (own_word n P p x.named m rest l seen i h)

  pub cyan_word : (s : ℕ) → s < n → get_or l (a + s) 0 ≡ bit (w.cyan s)
  cyan_word s h = stretch_word s (a + s) (omega arith) refl ∙ cyan_at n w fits s h

  pub R_word : (s : ℕ) → s < n → get_or l (a + n + s) 0 ≡ bit (w.R s)
  R_word s h = stretch_word (n + s) (a + n + s) (omega arith) (omega arith) ∙ R_at n w fits s h

  pub taken_word : (s : ℕ) → s < n → get_or l (a + 4 * n + s) 0 ≡ w.taken s
  taken_word s h = stretch_word (4 * n + s) (a + 4 * n + s) (omega arith) (omega arith) ∙ taken_at n w fits s h

  pub outer_word : (s : ℕ) (u : List ℕ) → Outermost p m s u → get_or l (a + 2 * n + (length w.outer - 1)) 0 ≡ s
  outer_word s u e =
      let deep : length w.outer ≡ suc (length u) = ap length e in
      let low = fits.outer_fits in
      stretch_word (2 * n + (length w.outer - 1)) (a + 2 * n + (length w.outer - 1)) (omega (arith, deep, low)) (omega arith)
      ∙ outer_top n w fits s u e

  pub inner_word : (s : ℕ) (u : List ℕ) → Innermost p m s u → get_or l (a + 3 * n + (length w.inner - 1)) 0 ≡ s
  inner_word s u e =
      let deep : length w.inner ≡ suc (length u) = ap length e in
      let low = fits.inner_fits in
      stretch_word (3 * n + (length w.inner - 1)) (a + 3 * n + (length w.inner - 1)) (omega (arith, deep, low)) (omega arith)
      ∙ inner_top n w fits s u e

  -- the place and the depths
  pub own_is : own_in l (a + 5 * n) ≡ own_of w
  own_is = own_seen n P p x.named m rest l seen

-- A rule that goes is the turn that is made; and what a turn asks of the parts that are lent to it, and makes of them.
use Prim.Native.Nat.{ℕ, ◌<◌, ◌≤◌}
use mathlib.Core.Path.{◌≡◌, refl, sym, ap, subst, ◌∙◌}
use mathlib.Core.Bool.{false, ◌||◌}
use mathlib.Core.List.{List, [], ◌∷◌}
use mathlib.Core.Logic.{inl}
use lib.ListN.{length, set}
use native.Mathlib.Omega.{arith}
use Rattle.graphs.specs.declared.graph.Graph as checked
use Rattle.graphs.specs.Graph.{Graph, graph, Sound}
use Rattle.graphs.specs.Lists.{upd}
use Rattle.graphs.specs.Words.{graph_of}
use Rattle.graphs.proofs.Change.{upd_same}
use Rattle.graphs.proofs.Words.{words_are, words_sound}
use Rattle.moves.specs.declared.Place.{Place}
use Rattle.moves.specs.declared.Place.TheVariants.{Fresh, Outer, Inner, Waiting}
use Rattle.moves.specs.Machine.{Worker, Machine}
use Rattle.moves.specs.Changes.{put, put_blue, put_red, dyed, enters, joins}
use Rattle.moves.specs.Moves.{Made, on_first, remaining, move_1, move_2, move_3, move_4, move_5, move_6, move_7, turn_at, turn}
use Rattle.moves.specs.Room.{Fits}
use Rattle.moves.specs.Words.{IsSet}
use Rattle.moves.proofs.Stores.{set_long, on}
use Rattle.theory.specs.Rules.{Rule, At, Outermost, Innermost}
use Rattle.theory.specs.Rules.{by_start, by_skip, by_enter, by_leave, by_seed, by_hit, by_pass, by_join, by_back, by_paint, by_wait, by_rest}
use Rattle.theory.specs.Invariant.{Climb, Hunt, Deep, Calm, Local, Dead}
use Rattle.theory.specs.Turns.{AllShallow}
use Rattle.theory.proofs.Phase.{at}
use Rattle.theory.proofs.Depth.{local_shallow}
use Rattle.theory.proofs.Run.{turn_shallow}
use Rattle.turn.specs.declared.stretch.Stretch.{Stretch}
use Rattle.turn.specs.Holds.{Holds, Topped, graph_in}
use Rattle.turn.specs.Lent.{Lent, LentOf, LentAfter}

module _ (g : Graph) (p : ℕ) (m : Machine) where
  outer_goes : {s : ℕ} {u k : List ℕ} → At p m Outer → Outermost p m s u → remaining g p m s ≡ k
      → turn g p m ≡ on_first k (move_3 g p m s u) (λ x l. move_2 g p m s x)
  unfolding turn turn_at
  outer_goes {s} {u} {k} e o r =
      ap (turn_at g p m) e
      ∙ ap (λ l. on_first l (move_7 g p m) (λ s u. on_first (remaining g p m s) (move_3 g p m s u) (λ x l. move_2 g p m s x))) o
      ∙ ap (λ l. on_first l (move_3 g p m s u) (λ x l. move_2 g p m s x)) r

  inner_goes : {z s : ℕ} {u k : List ℕ} → At p m (Inner z) → Innermost p m s u → remaining g p m s ≡ k
      → turn g p m ≡ on_first k (move_5 g p m z s u) (λ x l. move_4 g p m s x)
  unfolding turn turn_at
  inner_goes {z} {s} {u} {k} e o r =
      ap (turn_at g p m) e
      ∙ ap (λ l. on_first l (move_7 g p m) (λ s u. on_first (remaining g p m s) (move_5 g p m z s u) (λ x l. move_4 g p m s x))) o
      ∙ ap (λ l. on_first l (move_5 g p m z s u) (λ x l. move_4 g p m s x)) r

  waiting_goes : {z : ℕ} {u : List ℕ} → At p m (Waiting z) → Outermost p m z u → turn g p m ≡ move_6 g p m z u
  unfolding turn turn_at
  waiting_goes {z} {u} e o = ap (turn_at g p m) e ∙ ap (λ l. on_first l (move_7 g p m) (λ s u. move_6 g p m z u)) o

  pub rule_is : {dead : ℕ → Type 0} → Local g m.blue dead p (m.worker p) → (a : Made) → Rule g p m a → turn g p m ≡ a
  unfolding turn turn_at move_1 move_2 move_3 move_4 move_5 move_6 move_7
  rule_is l a (by_start e) = ap (turn_at g p m) e
  rule_is l a (by_skip e o r c) = outer_goes e o r ∙ rw c
  rule_is l a (by_enter e o r c) = outer_goes e o r ∙ rw c
  rule_is l a (by_leave e o r c) = outer_goes e o r ∙ rw c
  rule_is l a (by_seed e o r c) = outer_goes e o r ∙ rw c
  rule_is l a (by_hit e o r c) = inner_goes e o r ∙ rw c
  rule_is l a (by_pass e o r c d) = inner_goes e o r ∙ rw (c, d)
  rule_is l a (by_join e o r c d) = inner_goes e o r ∙ rw (c, d)
  rule_is l a (by_back e o r) = inner_goes e o r
  rule_is l a (by_paint e o c) = waiting_goes e o ∙ rw c
  rule_is l a (by_wait e c) = waiting_goes e (at l e).0.top ∙ rw c
  rule_is l a (by_rest e) = ap (turn_at g p m) e

module _ {g : checked.Graph} {P p : ℕ} {m : Machine} {blue red : List ℕ} {k : Stretch} (x : LentOf g P p m blue red (Holds k)) where
  abbrev n : ℕ
  n = length g.flags.now

  abbrev G : Graph
  G = graph_in g

  abbrev w : Worker
  w = m.worker p

  sound : Sound G
  sound = words_sound g.offsets.now g.targets.now g.flags.now (words_are g.offsets.now g.targets.now g.flags.now g.is_graph)

  pub start_some : 0 < length k.cyan.now
  unfolding graph_of graph
  start_some = omega (arith, sound.first, set_long x.lent.own.cyan)

  pub place_is : {q : Place} → k.place ≡ q → At p m q
  place_is e = sym x.lent.own.place ∙ e

  -- what is known by the place
  pub fresh : k.place ≡ Fresh → (w.outer ≡ []) × Calm w
  fresh e = at (x.inv.local p) (place_is e)

  pub climb : k.place ≡ Outer → Climb G m.blue p w
  climb e = at (x.inv.local p) (place_is e)

  pub hunt : {z : ℕ} → k.place ≡ Inner z → Hunt G m.blue (Dead m) p w z × Deep G w z
  hunt e = at (x.inv.local p) (place_is e)

  pub wait : {z : ℕ} → k.place ≡ Waiting z → Hunt G m.blue (Dead m) p w z × (w.inner ≡ [])
  wait e = at (x.inv.local p) (place_is e)

  outer_topped : (s : ℕ) (u : List ℕ) → w.outer ≡ s ∷ u → Topped k.outer.now k.outer_depth
  unfolding graph_of graph
  outer_topped s u e =
      let long = x.lent.own.outer.long in
      record {
        top = s;
        under = u;
        stack = rw (long, ← e) x.lent.own.outer;
        state = rw long ((local_shallow sound (x.inv.local p)).outer_below s (rw e (inl refl)));
      }

  inner_topped : (s : ℕ) (u : List ℕ) → w.inner ≡ s ∷ u → Topped k.inner.now k.inner_depth
  unfolding graph_of graph
  inner_topped s u e =
      let long = x.lent.own.inner.long in
      record {
        top = s;
        under = u;
        stack = rw (long, ← e) x.lent.own.inner;
        state = rw long ((local_shallow sound (x.inv.local p)).inner_below s (rw e (inl refl)));
      }

  pub climb_topped : k.place ≡ Outer → Topped k.outer.now k.outer_depth
  climb_topped e = outer_topped _ _ (climb e).top

  pub hunt_topped : {z : ℕ} → k.place ≡ Inner z → Topped k.inner.now k.inner_depth
  hunt_topped e = inner_topped _ _ (hunt e).1.stack

  pub seed_pops : {z : ℕ} → k.place ≡ Waiting z → (z < length k.cyan.now) × (0 < k.outer_depth) × (k.outer_depth ≤ length k.cyan.now)
  unfolding graph_of graph
  seed_pops {z} e =
      let top = (wait e).0.top in
      let s = local_shallow sound (x.inv.local p) in
      let state = s.outer_below z (rw top (inl refl)) in
      let deep = s.outer_deep in
      let some = ap length top in
      let long = set_long x.lent.own.cyan in
      let depth = x.lent.own.outer.depth in
      (omega (arith, state, long), omega (arith, some, depth), omega (arith, deep, depth, long))

  -- a rule that goes is the turn
  pub after_by : {a : Made} {blue' red' : List ℕ} {k' : Stretch} → Rule G p m a → Lent n p a.machine blue' red' (Holds k') → LentAfter g p m blue' red' (Holds k') a.move
  after_by {a} {blue'} {red'} {k'} r h =
      let is = sym (rule_is G p m (x.inv.local p) a r) in
      record { move = ap (λ b. b.move) is; lent = subst (λ b. Lent n p b.machine blue' red' (Holds k')) is h }

  -- p is another worker now; with that nothing shared changes, s becomes blue, or all of p's R becomes red
  own_is : (w' : Worker) (k' : Stretch) → Holds k' n w' → Holds k' n (upd m.worker p w' p)
  own_is w' k' h = subst (λ v. Holds k' n v) (sym (upd_same m.worker p w')) h

  pub put_lent : {w' : Worker} {k' : Stretch} → Holds k' n w' → Lent n p (put m p w') blue red (Holds k')
  put_lent {w'} {k'} h = record { blue_is = x.lent.blue_is; red_is = x.lent.red_is; own = own_is w' k' h }

  pub blue_lent : (s : ℕ) {w' : Worker} {k' : Stretch} → s < length blue → Holds k' n w' → Lent n p (put_blue m p w' s) (set blue s 1) red (Holds k')
  blue_lent s {w'} {k'} b h = record { blue_is = on x.lent.blue_is s b; red_is = x.lent.red_is; own = own_is w' k' h }

  pub red_lent : {w' : Worker} {red' : List ℕ} {k' : Stretch} → IsSet n (dyed m p) red' → Holds k' n w' → Lent n p (put_red m p w') blue red' (Holds k')
  red_lent {w'} {red'} {k'} r h = record { blue_is = x.lent.blue_is; red_is = r; own = own_is w' k' h }

  -- the stack that a move pushes on has room
  shallow : {a : Made} → Rule G p m a → AllShallow G a.machine
  shallow {a} r =
      subst (λ b. AllShallow G b.machine) (rule_is G p m (x.inv.local p) a r) (turn_shallow G P sound (omega (arith, x.named)) p m x.named x.inv)

  pub outer_room : {s y : ℕ} {u l : List ℕ} → k.place ≡ Outer → w.outer ≡ s ∷ u → remaining G p m s ≡ y ∷ l → (w.cyan y || m.blue y) ≡ false
      → k.outer_depth < length k.cyan.now
  unfolding graph_of graph
  outer_room {s} {y} e o r c =
      let after = rw (upd_same m.worker p (enters w s y)) at ((shallow (by_enter (place_is e) o r c) p).outer_deep) in
      omega (arith, after, x.lent.own.outer.depth, set_long x.lent.own.cyan)

  pub inner_room : {z s y : ℕ} {u l : List ℕ} → k.place ≡ Inner z → w.inner ≡ s ∷ u → remaining G p m s ≡ y ∷ l → w.cyan y ≡ false
      → (w.R y || m.red y) ≡ false → k.inner_depth < length k.cyan.now
  unfolding graph_of graph
  inner_room {z} {s} {y} e o r c d =
      let after = rw (upd_same m.worker p (joins w s y)) at ((shallow (by_join (place_is e) o r c d) p).inner_deep) in
      omega (arith, after, x.lent.own.inner.depth, set_long x.lent.own.cyan)

-- the stacks of the worker fit its stretch
pub span_fits : {g : checked.Graph} {P p : ℕ} {m : Machine} {blue red : List ℕ} {Own : ℕ → Worker → Type 0} → LentOf g P p m blue red Own
    → Fits (length g.flags.now) (m.worker p)
unfolding graph_of graph
span_fits {g} x =
    let sound = words_sound g.offsets.now g.targets.now g.flags.now (words_are g.offsets.now g.targets.now g.flags.now g.is_graph) in
    let s = local_shallow sound (x.inv.local _) in
    record { outer_fits = s.outer_deep; inner_fits = s.inner_deep }

-- What is left for one worker: more blue and more red do not raise it, and each changing move of the worker lowers it. A move lowers it at one
-- state, the one that is taken from or leaves its stack, and raises it at none.
use Rattle.std.proofs.Common.{ℕ, ◌≤◌, ◌<◌, zero-le, ◌≡◌, refl, sym, ap, subst, ◌∙◌, Bool, true, false, cond, not, ◌&&◌, ◌||◌, List, [], ◌∷◌, ◌⊎◌, inl, inr}
use Rattle.std.proofs.Common.{◌≢◌, arith, le_refl, add-le-add, eqb, length, drop, length-drop, eq-eqb, ne_eqb}
use mathlib.Core.Bool.{or_comm}
use Rattle.graphs.specs.Lists.{upd, elem, Mem}
use Rattle.graphs.specs.Graph.{Graph, Sound}
use Rattle.graphs.proofs.Tests.{same?, clash, not_both, or_left, or_right}
use Rattle.graphs.proofs.Change.{upd_same, upd_other}
use Rattle.graphs.proofs.Member.{mem_elem, not_elem, mem_top}
use Rattle.graphs.proofs.Sum.{sum_le, sum_falls}
use Rattle.moves.specs.declared.Place.TheVariants.{Fresh, Outer, Inner, Waiting, Done}
use Rattle.moves.specs.Place.{left, painted}
use Rattle.moves.specs.Machine.{Worker, empty}
use Rattle.moves.specs.Changes.{is_empty, only, starts, takes, enters, pops, seeds, joins, backs}
use Rattle.theory.specs.Stacks.{Trail}
use Rattle.theory.specs.Invariant.{Local, Hunt}
use Rattle.theory.proofs.Phase.{at, deep_trail}
use Rattle.theory.proofs.Trail.{trail_bottom}
use Rattle.theory.proofs.Depth.{outer_inside, inner_inside}
use Rattle.theory.specs.Cost.{is_fresh, searches_at, waits_at, outer_part, join_part, cell, work_left}

-- what counts unless a test holds: it does not rise if the test goes on holding, also as one of two
unless_le : (b b' : Bool) (n : ℕ) → (b ≡ true → b' ≡ true) → cond b' 0 n ≤ cond b 0 n
unless_le true b' n up = rw (up refl) (le_refl 0)
unless_le false true n up = zero-le
unless_le false false n up = le_refl n

unless_and_le : (a b b' : Bool) (n : ℕ) → (b ≡ true → b' ≡ true) → cond (a && b') 0 n ≤ cond (a && b) 0 n
unless_and_le true b b' n up = unless_le b b' n up
unless_and_le false b b' n up = le_refl n

unless_or_le : (a b b' : Bool) (n : ℕ) → (b ≡ true → b' ≡ true) → cond (a || b') 0 n ≤ cond (a || b) 0 n
unless_or_le true b b' n up = le_refl 0
unless_or_le false b b' n up = unless_le b b' n up

cond_le : (c : Bool) (a : ℕ) {b b' : ℕ} → b ≤ b' → cond c a b ≤ cond c a b'
cond_le true a h = le_refl a
cond_le false a h = h

module _ (g : Graph) (blue blue' red red' : ℕ → Bool)
    (blues : (t : ℕ) → blue t ≡ true → blue' t ≡ true) (reds : (t : ℕ) → red t ≡ true → red' t ≡ true) (w : Worker) where
  pub work_more : work_left g blue' red' w ≤ work_left g blue red w
  unfolding work_left
  work_more = omega (arith, sum_le g.size (cell g blue' red' w) (cell g blue red w) (λ t k. add-le-add (outer t) (join t)))
    where
      outer : (t : ℕ) → outer_part g blue' red' w t ≤ outer_part g blue red w t
      outer t = cond_le (w.cyan t) _ (unless_and_le (not (is_fresh w.place && eqb t 0)) (blue t) (blue' t) _ (blues t))

      join : (t : ℕ) → join_part g blue' red' w t ≤ join_part g blue red w t
      join t = cond_le (not (searches_at w.place t) && elem t w.inner) _ (unless_or_le (w.R t) (red t) (red' t) _ (reds t))

-- a worker that has popped its outer stack is neither fresh nor at a seed
idle : (last : Bool) (t : ℕ) → let q = cond last Done Outer in (is_fresh q ≡ false) × (searches_at q t ≡ false) × (waits_at q t ≡ false)
idle true t = (refl, refl, refl)
idle false t = (refl, refl, refl)

module _ {g : Graph} (sound : Sound g) {blue : ℕ → Bool} {dead : ℕ → Type 0} {p : ℕ} {w : Worker} (l : Local g blue dead p w) (red : ℕ → Bool) where
  top_inside : {s : ℕ} {u : List ℕ} → w.outer ≡ s ∷ u → s < g.size
  top_inside {s} eo = outer_inside sound l s (mem_top eo)

  outer_cyan : {s : ℕ} {u : List ℕ} → w.outer ≡ s ∷ u → w.cyan s ≡ true
  outer_cyan {s} eo = l.stacks.is s (mem_top eo)

  not_cyan_free : (x : ℕ) → w.cyan x ≡ false → (Mem x w.inner → ⊥) → w.taken x ≡ 0
  not_cyan_free x e off = l.stacks.free x (λ h. clash (l.stacks.is x h) e) off

  -- a successor of s is left, or none is
  some_left : {s x : ℕ} {r : List ℕ} → drop (w.taken s) (g.order p s) ≡ x ∷ r → w.taken s < length (g.next s)
  some_left {s} e = omega (arith, length-drop (w.taken s) (g.order p s), ap length e, sound.long p s)

  none_left : (s : ℕ) → drop (w.taken s) (g.order p s) ≡ [] → length (g.next s) ≤ w.taken s
  none_left s e = omega (arith, length-drop (w.taken s) (g.order p s), ap length e, sound.long p s)

  -- what all moves but the start share; then the takes that do no more (skip, hit and pass); then those that push x (enter and join)
  lowers : (blue' red' : ℕ → Bool) (w' : Worker) → is_fresh w'.place ≡ false → (s : ℕ) → s < g.size
      → cell g blue' red' w' s < cell g blue red w s → ((t : ℕ) → t ≢ s → cell g blue' red' w' t ≤ cell g blue red w t)
      → work_left g blue' red' w' < work_left g blue red w
  unfolding work_left
  lowers blue' red' w' started s inside here there =
      rw started (omega (arith, sum_falls g.size (cell g blue' red' w') (cell g blue red w) s inside here there))

  take_lowers : (s : ℕ) → is_fresh w.place ≡ false → s < g.size
      → cell g blue red (takes w s) s < cell g blue red w s → work_left g blue red (takes w s) < work_left g blue red w
  take_lowers s started inside here = lowers blue red (takes w s) started s inside here (λ t ne. simp upd_other (le_refl _))

  push_lowers : (w' : Worker) → is_fresh w'.place ≡ false → (s x : ℕ) → s < g.size
      → cell g blue red w' s < cell g blue red w s → cell g blue red w' x ≤ cell g blue red w x
      → ((t : ℕ) → t ≢ s → t ≢ x → cell g blue red w' t ≤ cell g blue red w t) → work_left g blue red w' < work_left g blue red w
  push_lowers w' started s x inside here pushed there = lowers blue red w' started s inside here (λ t ne. go t ne (same? t x))
    where
      go : (t : ℕ) → t ≢ s → (t ≡ x) ⊎ (t ≢ x) → cell g blue red w' t ≤ cell g blue red w t
      go t ne (inl e) = rw e pushed
      go t ne (inr nx) = there t ne nx

  -- move 1
  pub start_lowers : w.place ≡ Fresh → work_left g blue red (starts w) < work_left g blue red w
  unfolding work_left
  start_lowers ep =
      rw (ap is_fresh ep) (omega (arith, sum_le g.size (cell g blue red (starts w)) (cell g blue red w) (λ t k. go t (same? t 0))))
    where
      not_cyan : w.cyan 0 ≡ false
      not_cyan = not_both (λ h. rw (at l ep).0 at (l.stacks.on 0 h))

      none : w.taken 0 ≡ 0
      none = not_cyan_free 0 not_cyan (rw (at l ep).1.bare (λ h. h))

      go : (t : ℕ) → (t ≡ 0) ⊎ (t ≢ 0) → cell g blue red (starts w) t ≤ cell g blue red w t
      go t (inl e) = rw e (simp (upd_same, not_cyan, none, ep) (omega arith))
      go t (inr ne) = simp (upd_other, ne_eqb, ep) (le_refl _)

  -- moves 2 and 3
  module _ {s : ℕ} {u : List ℕ} (ep : w.place ≡ Outer) (eo : w.outer ≡ s ∷ u) where
    bare : w.inner ≡ []
    bare = (at l ep).calm.bare

    module _ {x : ℕ} {r : List ℕ} (er : drop (w.taken s) (g.order p s) ≡ x ∷ r) where
      outer_take : cell g blue red (takes w s) s < cell g blue red w s
      unfolding elem
      outer_take = let k = some_left er in simp (upd_same, outer_cyan eo, ep, bare) (omega arith)

      pub skip_lowers : work_left g blue red (takes w s) < work_left g blue red w
      skip_lowers = take_lowers s (ap is_fresh ep) (top_inside eo) outer_take

      pub enter_lowers : (w.cyan x || blue x) ≡ false → work_left g blue red (enters w s x) < work_left g blue red w
      enter_lowers ex =
          let not_cyan = or_left (w.cyan x) (blue x) ex in
          let not_blue = or_right (w.cyan x) (blue x) ex in
          let none = not_cyan_free x not_cyan (rw bare (λ h. h)) in
          let apart : x ≢ s = λ e. clash (outer_cyan eo) (rw e at not_cyan) in
          let apart' : s ≢ x = λ e. apart (sym e) in
          push_lowers (enters w s x) (ap is_fresh ep) s x (top_inside eo)
          (simp upd_other outer_take)
          (simp (upd_other, upd_same) (rw (not_cyan, not_blue, none, ep) (omega arith)))
          (λ t ne nx. simp upd_other (le_refl _))

    pub leave_lowers : work_left g (upd blue s true) red (pops w s u (left Outer (is_empty u)) w.R) < work_left g blue red w
    unfolding elem
    leave_lowers =
        let i = idle (is_empty u) in
        lowers (upd blue s true) red (pops w s u (left Outer (is_empty u)) w.R) (i 0).0 s (top_inside eo)
        (simp (upd_same, (i s).0, (i s).1, outer_cyan eo, ep, bare) (omega arith))
        (λ t ne. simp (upd_other, (i t).0, (i t).1, (i t).2, ep, bare) (le_refl _))

    pub seed_lowers : drop (w.taken s) (g.order p s) ≡ [] → work_left g (upd blue s true) red (seeds w s) < work_left g blue red w
    unfolding elem only
    seed_lowers er =
        lowers (upd blue s true) red (seeds w s) refl s (top_inside eo)
        (let k = none_left s er in simp (upd_same, outer_cyan eo, eq-eqb s s refl, ep) (omega arith))
        (λ t ne. simp (upd_other, ne_eqb, (at l ep).calm.clear t, ep, bare) (le_refl _))

  -- moves 4 and 5
  module _ {z s : ℕ} {u : List ℕ} (ep : w.place ≡ Inner z) (ei : w.inner ≡ s ∷ u) where
    hunt : Hunt g blue dead p w z
    hunt = (at l ep).0

    trail : Trail g z s u
    trail = deep_trail (at l ep).1 ei

    inside : s < g.size
    inside = inner_inside sound l s (mem_top ei)

    on : elem s w.inner ≡ true
    on = mem_elem s w.inner (mem_top ei)

    in_R : w.R s ≡ true
    in_R = hunt.held s (mem_top ei)

    seed_cyan : s ≡ z → w.cyan s ≡ true
    seed_cyan e = ap w.cyan e ∙ outer_cyan hunt.top

    module _ {x : ℕ} {r : List ℕ} (er : drop (w.taken s) (g.order p s) ≡ x ∷ r) where
      inner_take : cell g blue red (takes w s) s < cell g blue red w s
      inner_take = go (some_left er) (same? s z)
        where
          go : w.taken s < length (g.next s) → (s ≡ z) ⊎ (s ≢ z) → cell g blue red (takes w s) s < cell g blue red w s
          go k (inl e) = simp (upd_same, seed_cyan e, ep, eq-eqb s z e) (omega arith)
          go k (inr ne) = simp (upd_same, hunt.off s in_R ne, ep, ne_eqb, on) (omega arith)

      pub pass_lowers : work_left g blue red (takes w s) < work_left g blue red w
      pass_lowers = take_lowers s (ap is_fresh ep) inside inner_take

      pub join_lowers : w.cyan x ≡ false → (w.R x || red x) ≡ false → work_left g blue red (joins w s x) < work_left g blue red w
      unfolding elem
      join_lowers cx ex =
          let apart : x ≢ s = out s in_R in
          let apart' : s ≢ x = λ e. apart (sym e) in
          let not_seed : x ≢ z = out z hunt.own in
          push_lowers (joins w s x) (ap is_fresh ep) s x inside
          (simp (upd_other, ne_eqb) inner_take)
          (simp (upd_other, upd_same, cx, ep, ne_eqb, eq-eqb x x refl, not_elem x w.inner off, ex, not_cyan_free x cx off) (omega arith))
          (λ t ne nx. simp (upd_other, ne_eqb) (le_refl _))
        where
          out : (y : ℕ) → w.R y ≡ true → x ≢ y
          out y h e = clash h (ap w.R (sym e) ∙ or_left (w.R x) (red x) ex)

          off : Mem x w.inner → ⊥
          off h = out x (hunt.held x h) refl

    -- the seed is the last to leave, and then the worker waits
    pub back_lowers : work_left g blue red (backs w z s u) < work_left g blue red w
    unfolding elem
    back_lowers = go u ei trail
      where
        go : (v : List ℕ) → w.inner ≡ s ∷ v → Trail g z s v → work_left g blue red (backs w z s v) < work_left g blue red w
        go [] e t =
            lowers blue red (backs w z s []) refl s inside
            (simp (seed_cyan t, ep, eq-eqb s z t, in_R) (omega arith))
            (λ y ne. simp (upd_other, ep, ne_eqb y z (λ h. ne (h ∙ sym t)), e, ne_eqb) (le_refl _))
        go (x ∷ v) e t =
            lowers blue red (backs w z s (x ∷ v)) refl s inside
            (simp (hunt.off s in_R apart, ep, ne_eqb s z apart, on, not_elem s (x ∷ v) once, in_R) (omega arith))
            (λ y ne. simp (upd_other, ep, e, ne_eqb) (le_refl _))
          where
            once : Mem s (x ∷ v) → ⊥
            once = (rw e at (at l ep).1.once).0

            apart : s ≢ z
            apart h = once (subst (λ (y : ℕ). Mem y (x ∷ v)) (sym h) (trail_bottom g z x v t.1))

  -- move 6
  pub paint_lowers : {z : ℕ} {u : List ℕ} → w.place ≡ Waiting z → w.outer ≡ z ∷ u
      → work_left g blue (λ t. red t || w.R t) (pops w z u (painted (Waiting z) (is_empty u)) empty) < work_left g blue red w
  unfolding elem
  paint_lowers {z} {u} ep eo =
      let i = idle (is_empty u) in
      let h = (at l ep).0 in
      let bare = (at l ep).1 in
      lowers blue (λ t. red t || w.R t) (pops w z u (painted (Waiting z) (is_empty u)) empty) (i 0).0 z (top_inside eo)
      (simp upd_same (rw (or_comm (red z) (w.R z), h.is_blue, (i z).0, (i z).1, h.own, outer_cyan eo, ep, eq-eqb z z refl, bare) (omega arith)))
      (λ t ne. simp upd_other (rw (or_comm (red t) (w.R t), (i t).0, (i t).1, (i t).2, ep, ne_eqb t z ne, bare) (le_refl _)))

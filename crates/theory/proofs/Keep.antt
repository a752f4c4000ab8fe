-- What a worker's own move keeps: `Local` of the worker after each move of 01, from `Local` before it and the conditions of the move's rule.
use Rattle.std.proofs.Common.{ℕ, suc, ◌≡◌, refl, subst, sym, ap, ◌∙◌, Bool, true, false, cond, List, [], ◌∷◌, ◌⊎◌, inl, inr, ◌≢◌, drop, eqb-true, eq-eqb}
use mathlib.Core.Logic.{⊎_map}
use Rattle.graphs.specs.Lists.{upd, Mem, Once}
use Rattle.graphs.specs.Graph.{Graph, Edge, Sound}
use Rattle.graphs.proofs.Tests.{clash, same?}
use Rattle.graphs.proofs.Change.{upd_same, upd_other, upd_cases, upd_up}
use Rattle.graphs.proofs.Member.{mem_top, mem_under, mem_rest, mem_nil}
use Rattle.moves.specs.declared.Place.TheVariants.{Fresh, Outer, Inner, Waiting, Done}
use Rattle.moves.specs.Machine.{Worker}
use Rattle.moves.specs.Changes.{is_empty, only, starts, takes, enters, pops, seeds, joins, backs}
use Rattle.theory.specs.Stacks.{Stacked, Trail}
use Rattle.theory.specs.Invariant.{Taken, Looked, Fine, Within, here, onward, Calm, Climb, Hunt, Deep, Phase, Local}
use Rattle.theory.proofs.Phase.{at, deep_trail}
use Rattle.theory.proofs.Taken.{took_one, set_back, none_taken, all_of, next_edge}
use Rattle.theory.proofs.Stacks.{stacks_start, stacks_take, stacks_push, stacks_pop, stacks_inner}

module _ {g : Graph} (sound : Sound g) {b : ℕ → Bool} {d : ℕ → Type 0} {p : ℕ} {w : Worker} (l : Local g b d p w) where
  -- move 1
  pub start_local : w.place ≡ Fresh → Local g b d p (starts w)
  start_local e =
      record {
        stacks = stacks_start l.stacks f.0;
        phase =
            record {
              calm = record { bare = f.1.bare; clear = f.1.clear };
              head = 0;
              under = [];
              top = refl;
              looked = λ s m x t. absurd (none_taken g p w s x (untaken s) t);
            };
      }
    where
      f : (w.outer ≡ []) × Calm w
      f = at l e

      untaken : (s : ℕ) → w.taken s ≡ 0
      untaken s = l.stacks.free s (mem_nil s f.0) (mem_nil s f.1.bare)

  -- the outer search, whose top is s
  module _ {s : ℕ} {u : List ℕ} (ep : w.place ≡ Outer) (eo : w.outer ≡ s ∷ u) where
    climb : Climb g b p w
    climb = at l ep

    module _ {x : ℕ} {k : List ℕ} (er : drop (w.taken s) (g.order p s) ≡ x ∷ k) where
      -- move 2, the successor is cyan or blue
      pub skip_local : (b x ≡ true) ⊎ (w.cyan x ≡ true) → Local g b d p (takes w s)
      skip_local h =
          record {
            stacks = stacks_take l.stacks s (inl (mem_top eo));
            phase =
                rw ep
                record {
                  calm = record { bare = climb.calm.bare; clear = climb.calm.clear };
                  head = climb.head;
                  under = climb.under;
                  top = climb.top;
                  looked = λ t m y k'. go t m y (took_one g p w s x k er t y k');
                };
          }
        where
          go : (t : ℕ) → Mem t w.outer → (y : ℕ) → Taken g p w t y ⊎ ((t ≡ s) × (y ≡ x)) → (b y ≡ true) ⊎ (w.cyan y ≡ true)
          go t m y (inl h') = climb.looked t m y h'
          go t m y (inr q) = rw q.1 h

      -- move 2, the successor goes on the stack
      pub enter_local : w.cyan x ≡ false → Local g b d p (enters w s x)
      enter_local off =
          record {
            stacks = stacks_push l.stacks s x u eo (next_edge g p w sound s x k er) off;
            phase =
                rw ep
                record {
                  calm = record { bare = climb.calm.bare; clear = climb.calm.clear };
                  head = x;
                  under = w.outer;
                  top = refl;
                  looked = λ t m y k'. go t m y (took_one g p w s x k er t y k');
                };
          }
        where
          untaken : w.taken x ≡ 0
          untaken = l.stacks.free x (λ m. clash (l.stacks.is x m) off) (mem_nil x climb.calm.bare)

          go : (t : ℕ) → Mem t (x ∷ w.outer) → (y : ℕ) → Taken g p w t y ⊎ ((t ≡ s) × (y ≡ x))
              → (b y ≡ true) ⊎ (upd w.cyan x true y ≡ true)
          go t (inl q) y (inl h') = absurd (none_taken g p w x y untaken (subst (λ r. Taken g p w r y) q h'))
          go t (inr m) y (inl h') = ⊎_map (λ e. e) (upd_up w.cyan x y) (climb.looked t m y h')
          go t m y (inr q) = inr (rw q.1 (upd_same w.cyan x true))

    -- move 3, accepting: s becomes the seed
    pub seed_local : g.accepting s ≡ true → Local g (upd b s true) d p (seeds w s)
    unfolding only
    seed_local acc =
        record {
          stacks = stacks_inner l.stacks (s ∷ []) (upd w.taken s 0) freed;
          phase = (
            record {
              under = u;
              top = eo;
              accepts = acc;
              is_blue = upd_same b s true;
              looked = λ t m y k. ⊎_map (upd_up b s y) (λ e. e) (climb.looked t (mem_under t eo m) y (set_back g p w s t y k));
              held = held;
              own = eq-eqb s s refl;
              took = λ t r x k. absurd (rw (eqb-true t s r, upd_same w.taken s 0) at k);
              full = λ t r n x e. absurd (n (inl (eqb-true t s r)));
              way = λ t r. rw (eqb-true t s r) here;
              off = λ t r ne. absurd (ne (eqb-true t s r));
            },
            record { head = s; rest = []; stack = refl; trail = refl; once = (λ m. m, tt) },
          );
        }
      where
        freed : (x : ℕ) → (Mem x w.outer → ⊥) → (Mem x (s ∷ []) → ⊥) → upd w.taken s 0 x ≡ 0
        freed x m n = upd_other w.taken s 0 x (λ q. n (inl q)) ∙ l.stacks.free x m (mem_nil x climb.calm.bare)

        held : (x : ℕ) → Mem x (s ∷ []) → only s x ≡ true
        held x (inl q) = eq-eqb x s q
        held x (inr m) = absurd m

  -- s leaves the outer stack, and is blue then: move 3, not accepting, and move 6
  pub pop_local : {b' : ℕ → Bool} {d' : ℕ → Type 0} {s : ℕ} {u : List ℕ} {k : ℕ → Bool}
      → w.outer ≡ s ∷ u → w.inner ≡ [] → Looked g b p w u
      → ((x : ℕ) → b x ≡ true → b' x ≡ true) → b' s ≡ true → ((x : ℕ) → k x ≡ false)
      → Local g b' d' p (pops w s u (cond (is_empty u) Done Outer) k)
  pop_local {b'} {d'} {s} {u} {k} eo ei looked blues s_blue clear =
      record { stacks = stacks_pop l.stacks s u eo; phase = go u refl }
    where
      w' : List ℕ → Worker
      w' v = pops w s u (cond (is_empty v) Done Outer) k

      -- what was blue or cyan is so still, since s is blue
      still : (y : ℕ) → (y ≡ s) ⊎ (y ≢ s) → (b y ≡ true) ⊎ (w.cyan y ≡ true) → (b' y ≡ true) ⊎ (upd w.cyan s false y ≡ true)
      still y (inl q) h = inl (rw q s_blue)
      still y (inr ne) h = ⊎_map (blues y) (λ e. upd_other w.cyan s false y ne ∙ e) h

      go : (v : List ℕ) → u ≡ v → Phase g b' d' p (w' v) (cond (is_empty v) Done Outer)
      go [] q = (q, record { bare = ei; clear = clear }, rw (sym first) s_blue)
        where
          first : s ≡ 0
          first = subst (Stacked g 0) (eo ∙ ap (λ r. s ∷ r) q) l.stacks.trail
      go (y ∷ v) q =
          record {
            calm = record { bare = ei; clear = clear };
            head = y;
            under = v;
            top = q;
            looked = λ t m x h. still x (same? x s) (looked t m x (set_back g p w s t x h));
          }

  -- the inner search of the seed z, whose top is s
  module _ {z s : ℕ} {u : List ℕ} (ep : w.place ≡ Inner z) (ei : w.inner ≡ s ∷ u) where
    hunt : Hunt g b d p w z
    hunt = (at l ep).0

    deep : Deep g w z
    deep = (at l ep).1

    in_R : w.R s ≡ true
    in_R = hunt.held s (mem_top ei)

    -- a state of R is not on the outer stack below the seed
    apart : (t : ℕ) → Mem t hunt.under → w.R t ≡ true → ⊥
    apart t m r = go (same? t z)
      where
        go : (t ≡ z) ⊎ (t ≢ z) → ⊥
        go (inl q) = (subst Once hunt.top l.stacks.once).0 (subst (λ y. Mem y hunt.under) q m)
        go (inr ne) = clash (l.stacks.is t (mem_under t hunt.top m)) (hunt.off t r ne)

    below_s : (t : ℕ) → Mem t hunt.under → t ≢ s
    below_s t m q = apart t m (rw q in_R)

    trail : Trail g z s u
    trail = deep_trail deep ei

    module _ {x : ℕ} {k : List ℕ} (er : drop (w.taken s) (g.order p s) ≡ x ∷ k) where
      looked_on : Looked g b p (takes w s) hunt.under
      looked_on t m y h = hunt.looked t m y (rw (upd_other w.taken s (suc (w.taken s)) t (below_s t m)) at h)

      -- move 4, the successor is in R or dead
      pub pass_local : Fine d w x → Local g b d p (takes w s)
      pass_local f =
          record {
            stacks = stacks_take l.stacks s (inr (mem_top ei));
            phase =
                rw ep (
                  record {
                    under = hunt.under;
                    top = hunt.top;
                    accepts = hunt.accepts;
                    is_blue = hunt.is_blue;
                    looked = looked_on;
                    held = hunt.held;
                    own = hunt.own;
                    took = λ t r y h. go t r y (took_one g p w s x k er t y h);
                    full = hunt.full;
                    way = hunt.way;
                    off = hunt.off;
                  },
                  record { head = deep.head; rest = deep.rest; stack = deep.stack; trail = deep.trail; once = deep.once },
                );
          }
        where
          go : (t : ℕ) → w.R t ≡ true → (y : ℕ) → Taken g p w t y ⊎ ((t ≡ s) × (y ≡ x)) → Fine d w y
          go t r y (inl h) = hunt.took t r y h
          go t r y (inr q) = rw q.1 f

      -- move 4, the successor joins R and the inner stack
      pub join_local : w.cyan x ≡ false → w.R x ≡ false → Local g b d p (joins w s x)
      join_local off out =
          record {
            stacks = stacks_inner l.stacks (x ∷ w.inner) (upd w.taken s (suc (w.taken s))) freed;
            phase =
                rw ep (
                  record {
                    under = hunt.under;
                    top = hunt.top;
                    accepts = hunt.accepts;
                    is_blue = hunt.is_blue;
                    looked = looked_on;
                    held = held;
                    own = up z hunt.own;
                    took = λ t r y h. took t (upd_cases w.R x t r) y (took_one g p w s x k er t y h);
                    full = λ t r n y e. full t (upd_cases w.R x t r) n y e;
                    way = λ t r. way t (upd_cases w.R x t r);
                    off = λ t r ne. away t (upd_cases w.R x t r) ne;
                  },
                  record { head = x; rest = w.inner; stack = refl; trail = rw ei (edge, trail); once = (not_on, deep.once) },
                );
          }
        where
          edge : Edge g s x
          edge = next_edge g p w sound s x k er

          up : (y : ℕ) → w.R y ≡ true → upd w.R x true y ≡ true
          up y e = upd_up w.R x y e

          not_on : Mem x w.inner → ⊥
          not_on m = clash (hunt.held x m) out

          untaken : w.taken x ≡ 0
          untaken = l.stacks.free x (λ m. clash (l.stacks.is x m) off) not_on

          fine_up : (y : ℕ) → Fine d w y → Fine d (joins w s x) y
          fine_up y f = (f.0, ⊎_map (up y) (λ e. e) f.1)

          freed : (y : ℕ) → (Mem y w.outer → ⊥) → (Mem y (x ∷ w.inner) → ⊥) → upd w.taken s (suc (w.taken s)) y ≡ 0
          freed y m n = (stacks_take l.stacks s (inr (mem_top ei))).free y m (λ h. n (inr h))

          held : (y : ℕ) → Mem y (x ∷ w.inner) → upd w.R x true y ≡ true
          held y (inl q) = rw q (upd_same w.R x true)
          held y (inr m) = up y (hunt.held y m)

          took : (t : ℕ) → (t ≡ x) ⊎ (w.R t ≡ true) → (y : ℕ) → Taken g p w t y ⊎ ((t ≡ s) × (y ≡ x)) → Fine d (joins w s x) y
          took t (inl q) y (inl h) = absurd (none_taken g p w x y untaken (subst (λ r. Taken g p w r y) q h))
          took t (inr r) y (inl h) = fine_up y (hunt.took t r y h)
          took t r y (inr q) = rw q.1 (off, inl (upd_same w.R x true))

          full : (t : ℕ) → (t ≡ x) ⊎ (w.R t ≡ true) → (Mem t (x ∷ w.inner) → ⊥) → (y : ℕ) → Edge g t y → Fine d (joins w s x) y
          full t (inl q) n y e = absurd (n (inl q))
          full t (inr r) n y e = fine_up y (hunt.full t r (λ m. n (inr m)) y e)

          lift : {t : ℕ} → Within g w.R z t → Within g (upd w.R x true) z t
          lift here = here
          lift (onward v e r) = onward (lift v) e (up _ r)

          way : (t : ℕ) → (t ≡ x) ⊎ (w.R t ≡ true) → Within g (upd w.R x true) z t
          way t (inl q) = rw q (onward (lift (hunt.way s in_R)) edge (upd_same w.R x true))
          way t (inr r) = lift (hunt.way t r)

          away : (t : ℕ) → (t ≡ x) ⊎ (w.R t ≡ true) → t ≢ z → w.cyan t ≡ false
          away t (inl q) ne = rw q off
          away t (inr r) ne = hunt.off t r ne

    -- move 5
    pub back_local : drop (w.taken s) (g.order p s) ≡ [] → Local g b d p (backs w z s u)
    back_local er =
        record {
          stacks = stacks_inner l.stacks u (upd w.taken s 0) (λ x m n. freed x m n (same? x s));
          phase = go u refl;
        }
      where
        freed : (x : ℕ) → (Mem x w.outer → ⊥) → (Mem x u → ⊥) → (x ≡ s) ⊎ (x ≢ s) → upd w.taken s 0 x ≡ 0
        freed x m n (inl q) = rw q (upd_same w.taken s 0)
        freed x m n (inr ne) = upd_other w.taken s 0 x ne ∙ l.stacks.free x m (λ h. n (mem_rest x ei ne h))

        full : (t : ℕ) → w.R t ≡ true → (Mem t u → ⊥) → (x : ℕ) → Edge g t x → (t ≡ s) ⊎ (t ≢ s) → Fine d w x
        full t r n x e (inl q) = hunt.took t r x (rw q (all_of g p w sound s er x (subst (λ y. Edge g y x) q e)))
        full t r n x e (inr ne) = hunt.full t r (λ h. n (mem_rest t ei ne h)) x e

        hunts : Hunt g b d p (backs w z s u) z
        hunts =
            record {
              under = hunt.under;
              top = hunt.top;
              accepts = hunt.accepts;
              is_blue = hunt.is_blue;
              looked = λ t m y h. hunt.looked t m y (set_back g p w s t y h);
              held = λ x m. hunt.held x (mem_under x ei m);
              own = hunt.own;
              took = λ t r x h. hunt.took t r x (set_back g p w s t x h);
              full = λ t r n x e. full t r n x e (same? t s);
              way = hunt.way;
              off = hunt.off;
            }

        go : (v : List ℕ) → u ≡ v → Phase g b d p (backs w z s u) (cond (is_empty v) (Waiting z) (Inner z))
        go [] q = (hunts, q)
        go (y ∷ v) q =
            let once = (subst Once ei deep.once).1 in
            (hunts, record { head = y; rest = v; stack = q; trail = (subst (Trail g z s) q trail).1; once = once })

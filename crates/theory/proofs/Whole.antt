-- The invariant of the whole machine: the start has it, and every move but the take that answers "cycle" keeps it. On the way: the seed of a
-- waiting worker lies on no loop.
use Rattle.std.proofs.Common.{ℕ, ◌<◌, ◌≤◌, ◌≡◌, refl, subst, sym, ap, ◌∙◌, true, false, cond, List, [], ◌∷◌, ◌⊎◌, inl, inr, ◌≢◌, ⊎_elim, arith, ne_eqb}
use mathlib.Core.Logic.{⊎_swap, ⊎_map}
use Rattle.graphs.specs.Lists.{upd, Mem}
use Rattle.graphs.specs.Graph.{Graph, Edge, Walk, stay, step, Far, Sound}
use Rattle.graphs.proofs.Tests.{clash, same?, below?, or_cases, or_inl, or_inr, or_left}
use Rattle.graphs.proofs.Change.{upd_same, upd_other, upd_cases, upd_up, upd_ind, upd_some}
use Rattle.graphs.proofs.Every.{every_at}
use Rattle.graphs.specs.Lasso.{MarkedLoop}
use Rattle.graphs.proofs.Member.{mem_top, mem_under, mem_nil}
use Rattle.moves.specs.declared.Place.TheVariants.{Fresh, Outer, Inner, Waiting, Done}
use Rattle.moves.specs.Place.{left, painted}
use Rattle.moves.specs.Machine.{Worker, Machine, start, empty}
use Rattle.moves.specs.Changes.{is_empty, pops, seeds, backs, put, put_blue, put_red, dyed}
use Rattle.moves.specs.Moves.{Made, remaining, others_red}
use Rattle.moves.specs.Run.{answer_to, quiet}
use Rattle.theory.specs.Rules.{Rule, Hits}
use Rattle.theory.specs.Rules.{by_start, by_skip, by_enter, by_leave, by_seed, by_hit, by_pass, by_join, by_back, by_paint, by_wait, by_rest}
use Rattle.theory.specs.Invariant.{Looked, Fine, Hunt, Climb, SomeCyan, SomeSeed, Local, Dead, SeedAt, Invariant}
use Rattle.theory.proofs.Depth.{R_inside}
use Rattle.theory.proofs.Phase.{at, local_more}
use Rattle.theory.proofs.Taken.{all_of}
use Rattle.theory.proofs.Keep.{start_local, skip_local, enter_local, seed_local, pop_local, pass_local, join_local, back_local}

-- the invariant holds after p's move, and only the places decide whether there is an answer
abbrev pub Keeps : Graph → ℕ → ℕ → Made → Type 0
Keeps g P p a = Invariant g P a.machine × (answer_to P p a.machine a.move ≡ quiet P a.machine)

module _ {g : Graph} (sound : Sound g) {P : ℕ} {m : Machine} (v : Invariant g P m) where
  -- worker p waits with the seed z
  module _ {p z : ℕ} (ep : (m.worker p).place ≡ Waiting z) where
    pub waiting_hunt : Hunt g m.blue (Dead m) p (m.worker p) z
    waiting_hunt = (at (v.local p) ep).0

    pub waiting_bare : (m.worker p).inner ≡ []
    waiting_bare = (at (v.local p) ep).1

    -- every successor of a state of R is fine
    pub waiting_next : (t x : ℕ) → (m.worker p).R t ≡ true → Edge g t x → Fine (Dead m) (m.worker p) x
    waiting_next t x r e = waiting_hunt.full t r (mem_nil t waiting_bare) x e

    -- Walk from the seed: each state is in R or dead. The last before the seed can't be in R, since the seed is cyan; so the seed is dead.
    comes_dead : {t u : ℕ} → ((m.worker p).R t ≡ true) ⊎ Dead m t → Edge g t u → Walk g u z → Dead m z
    comes_dead (inl r) e stay = absurd (clash ((v.local p).stacks.is z (mem_top waiting_hunt.top)) (waiting_next _ z r e).0)
    comes_dead (inr d) e stay = v.dead_next _ z d e
    comes_dead (inl r) e (step f k) = comes_dead (waiting_next _ _ r e).1 f k
    comes_dead (inr d) e (step f k) = comes_dead (inr (v.dead_next _ _ d e)) f k

    pub seed_on_no_loop : Far g z z → ⊥
    seed_on_no_loop f = v.dead_no_loop z waiting_hunt.accepts (comes_dead (inl waiting_hunt.own) f.edge f.walk) f

  -- worker p, below P, makes a move, and is w' then
  module _ {p : ℕ} (h : p < P) where
    spare_on : (w' : Worker) (q : ℕ) → P ≤ q → (upd m.worker p w' q).place ≡ Fresh
    spare_on w' q le = ap (λ a. a.place) (upd_other m.worker p w' q (λ e. absurd (omega arith))) ∙ v.spare q le

    cyan_on : (w' : Worker) (x : ℕ) → ((m.worker p).cyan x ≡ true → w'.cyan x ≡ true) → SomeCyan m x → SomeCyan (put m p w') x
    cyan_on w' x own c = upd_some (λ a. a.cyan x ≡ true) (λ a. a.cyan x ≡ true) m.worker p w' own (λ a e. e) c.0 c.1

    seed_on : (w' : Worker) (s : ℕ) → (SeedAt (m.worker p).place s → SeedAt w'.place s) → SomeSeed m s → SomeSeed (put m p w') s
    seed_on w' s own c = upd_some (λ a. SeedAt a.place s) (λ a. SeedAt a.place s) m.worker p w' own (λ a e. e) c.0 c.1

    -- nothing shared changes, no state loses cyan, and a seed stays one
    unshared : (w' : Worker) → Local g m.blue (Dead m) p w' → ((x : ℕ) → (m.worker p).cyan x ≡ true → w'.cyan x ≡ true)
        → ((s : ℕ) → SeedAt (m.worker p).place s → SeedAt w'.place s) → Invariant g P (put m p w')
    unshared w' l' cyans seeds =
        record {
          local = upd_ind (Local g m.blue (Dead m)) m.worker p w' l' (λ q ne. v.local q);
          spare = spare_on w';
          dead_next = v.dead_next;
          blue_next = λ s t b e. ⊎_map (λ k. k) (cyan_on w' t (cyans t)) (v.blue_next s t b e);
          blue_dead = λ s a b. ⊎_map (λ k. k) (seed_on w' s (seeds s)) (v.blue_dead s a b);
          dead_no_loop = v.dead_no_loop;
        }

    -- move 3: s, all of whose successors were looked at, becomes blue; only s may lose cyan, and if s accepts it is the seed then
    blued : (s : ℕ) (w' : Worker) → Local g (upd m.blue s true) (Dead m) p w' → ((x : ℕ) → SeedAt (m.worker p).place x → ⊥)
        → ((x : ℕ) → Edge g s x → (m.blue x ≡ true) ⊎ ((m.worker p).cyan x ≡ true))
        → ((x : ℕ) → x ≢ s → (m.worker p).cyan x ≡ true → w'.cyan x ≡ true)
        → (g.accepting s ≡ true → SeedAt w'.place s) → Invariant g P (put_blue m p w' s)
    blued s w' l' seedless seen cyans seed =
        record {
          local =
              upd_ind (Local g (upd m.blue s true) (Dead m)) m.worker p w' l'
              (λ q ne. local_more g q (m.worker q) (upd_up m.blue s) (λ x d. d) (v.local q));
          spare = spare_on w';
          dead_next = v.dead_next;
          blue_next = λ r t b e. looked t (next r t e (upd_cases m.blue s r b)) (same? t s);
          blue_dead = λ r a b. known r a (upd_cases m.blue s r b);
          dead_no_loop = v.dead_no_loop;
        }
      where
        next : (r t : ℕ) → Edge g r t → (r ≡ s) ⊎ (m.blue r ≡ true) → (m.blue t ≡ true) ⊎ SomeCyan m t
        next r t e (inl q) = ⊎_map (λ b. b) (λ c. (p, c)) (seen t (subst (λ y. Edge g y t) q e))
        next r t e (inr b) = v.blue_next r t b e

        looked : (t : ℕ) → (m.blue t ≡ true) ⊎ SomeCyan m t → (t ≡ s) ⊎ (t ≢ s)
            → (upd m.blue s true t ≡ true) ⊎ SomeCyan (put m p w') t
        looked t k (inl q) = inl (rw q (upd_same m.blue s true))
        looked t k (inr ne) = ⊎_map (upd_up m.blue s t) (cyan_on w' t (cyans t ne)) k

        known : (r : ℕ) → g.accepting r ≡ true → (r ≡ s) ⊎ (m.blue r ≡ true) → Dead m r ⊎ SomeSeed (put m p w') r
        known r a (inl q) = inr (p, rw (upd_same m.worker p w', q) (seed (subst (λ y. g.accepting y ≡ true) q a)))
        known r a (inr b) = ⊎_map (λ d. d) (seed_on w' r (λ y. absurd (seedless r y))) (v.blue_dead r a b)

    -- the outer search, whose top s has no successor left
    module _ {s : ℕ} {u : List ℕ} (ep : (m.worker p).place ≡ Outer) (eo : (m.worker p).outer ≡ s ∷ u) (er : remaining g p m s ≡ []) where
      climb : Climb g m.blue p (m.worker p)
      climb = at (v.local p) ep

      seedless : (x : ℕ) → SeedAt (m.worker p).place x → ⊥
      seedless x e = subst (λ q. SeedAt q x) ep e

      seen : (x : ℕ) → Edge g s x → (m.blue x ≡ true) ⊎ ((m.worker p).cyan x ≡ true)
      seen x e = climb.looked s (mem_top eo) x (all_of g p (m.worker p) sound s er x e)

      leave_keeps : g.accepting s ≡ false → Invariant g P (put_blue m p (pops (m.worker p) s u (left Outer (is_empty u)) (m.worker p).R) s)
      leave_keeps off =
          blued s (pops (m.worker p) s u (left Outer (is_empty u)) (m.worker p).R)
          (pop_local sound (v.local p) eo climb.calm.bare looked (upd_up m.blue s) (upd_same m.blue s true) climb.calm.clear)
          seedless seen (λ x ne c. upd_other (m.worker p).cyan s false x ne ∙ c) (λ a. absurd (clash a off))
        where
          looked : Looked g m.blue p (m.worker p) u
          looked t n = climb.looked t (mem_under t eo n)

      seed_keeps : g.accepting s ≡ true → Invariant g P (put_blue m p (seeds (m.worker p) s) s)
      seed_keeps on = blued s _ (seed_local sound (v.local p) ep eo on) seedless seen (λ x ne c. c) (λ a. refl)

    -- move 6: all of R becomes red at once
    module _ {z : ℕ} {u : List ℕ} (ep : (m.worker p).place ≡ Waiting z) (eo : (m.worker p).outer ≡ z ∷ u) where
      hunt : Hunt g m.blue (Dead m) p (m.worker p) z
      hunt = waiting_hunt ep

      abbrev Dead' : ℕ → Type 0
      Dead' x = dyed m p x ≡ true

      stays_dead : (x : ℕ) → Dead m x → Dead' x
      stays_dead x d = or_inl (m.red x) ((m.worker p).R x) d

      turns_dead : (x : ℕ) → (m.worker p).R x ≡ true → Dead' x
      turns_dead x r = or_inr (m.red x) ((m.worker p).R x) r

      paint_keeps : others_red g p m z ≡ true → Invariant g P (put_red m p (pops (m.worker p) z u (painted (Waiting z) (is_empty u)) empty))
      unfolding others_red
      paint_keeps reds =
          record {
            local =
                upd_ind (Local g m.blue Dead') m.worker p w'
                (pop_local sound (v.local p) eo (waiting_bare ep) looked (λ x b. b) hunt.is_blue (λ x. refl))
                (λ q ne. local_more g q (m.worker q) (λ x b. b) stays_dead (v.local q));
            spare = spare_on w';
            dead_next = λ s t d e. next s t e (or_cases (m.red s) ((m.worker p).R s) d);
            blue_next = λ s t b e. seen t (v.blue_next s t b e) (same? t z);
            blue_dead = λ s a b. known s (v.blue_dead s a b);
            dead_no_loop = λ s a d. no_loop s a (or_cases (m.red s) ((m.worker p).R s) d);
          }
        where
          w' : Worker
          w' = pops (m.worker p) z u (painted (Waiting z) (is_empty u)) empty

          looked : Looked g m.blue p (m.worker p) u
          looked t n = hunt.looked t (subst (Mem t) same n)
            where
              same : u ≡ hunt.under
              same = let e : z ∷ u ≡ z ∷ hunt.under = sym eo ∙ hunt.top in cc

          next : (s t : ℕ) → Edge g s t → Dead m s ⊎ ((m.worker p).R s ≡ true) → Dead' t
          next s t e (inl d) = stays_dead t (v.dead_next s t d e)
          next s t e (inr r) = ⊎_elim (turns_dead t) (stays_dead t) (waiting_next ep s t r e).1

          seen : (t : ℕ) → (m.blue t ≡ true) ⊎ SomeCyan m t → (t ≡ z) ⊎ (t ≢ z) → (m.blue t ≡ true) ⊎ SomeCyan (put m p w') t
          seen t k (inl q) = inl (rw q hunt.is_blue)
          seen t k (inr ne) = ⊎_map (λ b. b) (cyan_on w' t (λ e. upd_other (m.worker p).cyan z false t ne ∙ e)) k

          known : (s : ℕ) → Dead m s ⊎ SomeSeed m s → Dead' s ⊎ SomeSeed (put m p w') s
          known s (inl d) = inl (stays_dead s d)
          known s (inr (q, k)) = go (same? q p)
            where
              go : (q ≡ p) ⊎ (q ≢ p) → Dead' s ⊎ SomeSeed (put m p w') s
              go (inl same) =
                  let e : z ≡ s = subst (λ a. SeedAt a s) ep (subst (λ i. SeedAt (m.worker i).place s) same k) in
                  inl (rw (sym e) (turns_dead z hunt.own))
              go (inr ne) = inr (q, rw (upd_other m.worker p w' q ne) k)

          -- the only accepting state that turns red is the seed
          no_loop : (s : ℕ) → g.accepting s ≡ true → Dead m s ⊎ ((m.worker p).R s ≡ true) → Far g s s → ⊥
          no_loop s a (inl d) f = v.dead_no_loop s a d f
          no_loop s a (inr r) f = go (same? s z)
            where
              red : s ≢ z → m.red s ≡ true
              red ne = rw (r, a, ne_eqb s z ne) at (every_at g.size _ reds s (R_inside sound (v.local p) s r))

              go : (s ≡ z) ⊎ (s ≢ z) → ⊥
              go (inl q) = seed_on_no_loop ep (subst (λ k. Far g k k) q f)
              go (inr ne) = v.dead_no_loop s a (red ne) f

    back_keeps : {z s : ℕ} {u : List ℕ} → (m.worker p).place ≡ Inner z → (m.worker p).inner ≡ s ∷ u → remaining g p m s ≡ []
        → Invariant g P (put m p (backs (m.worker p) z s u))
    back_keeps {z} {s} {u} ep ei er =
        unshared _ (back_local sound (v.local p) ep ei er) (λ y e. e) (λ y e. seed_stays u y (subst (λ q. SeedAt q y) ep e))
      where
        seed_stays : (k : List ℕ) (y : ℕ) → z ≡ y → SeedAt (cond (is_empty k) (Waiting z) (Inner z)) y
        seed_stays [] y e = e
        seed_stays (x ∷ k) y e = e

    -- every move but the take that answers "cycle" keeps the invariant, and then only the places decide whether there is an answer
    pub keeps : (a : Made) → Rule g p m a → Keeps g P p a ⊎ Hits g p m a
    keeps _ (by_start ep) =
        inl (unshared _ (start_local sound (v.local p) ep) (upd_up (m.worker p).cyan 0) (λ s e. absurd (subst (λ q. SeedAt q s) ep e)), refl)
    keeps _ (by_skip {x = x} ep eo er c) =
        let seen = ⊎_swap (or_cases ((m.worker p).cyan x) (m.blue x) c) in
        inl (unshared _ (skip_local sound (v.local p) ep eo er seen) (λ y e. e) (λ y e. e), refl)
    keeps _ (by_enter {x = x} ep eo er c) =
        let off = or_left ((m.worker p).cyan x) (m.blue x) c in
        inl (unshared _ (enter_local sound (v.local p) ep eo er off) (upd_up (m.worker p).cyan x) (λ y e. e), refl)
    keeps _ (by_leave ep eo er c) = inl (leave_keeps ep eo er c, refl)
    keeps _ (by_seed ep eo er c) = inl (seed_keeps ep eo er c, refl)
    keeps _ (by_hit {z} {s} {x} {u} {l} ep ei er c) =
        inr
        record {
          seed = z;
          top = s;
          under = u;
          taken = x;
          later = l;
          place_is = ep;
          stack_is = ei;
          successors_are = er;
          is_cyan = c;
          made = refl;
        }
    keeps _ (by_pass {x = x} ep ei er c r) =
        let known = or_cases ((m.worker p).R x) (m.red x) r in
        inl (unshared _ (pass_local sound (v.local p) ep ei er (c, known)) (λ y e. e) (λ y e. e), refl)
    keeps _ (by_join {x = x} ep ei er c r) =
        let out = or_left ((m.worker p).R x) (m.red x) r in
        inl (unshared _ (join_local sound (v.local p) ep ei er c out) (λ y e. e) (λ y e. e), refl)
    keeps _ (by_back ep ei er) = inl (back_keeps ep ei er, refl)
    keeps _ (by_paint ep eo c) = inl (paint_keeps ep eo c, refl)
    keeps _ (by_wait ep c) = inl (v, refl)
    keeps _ (by_rest ep) = inl (v, refl)

-- The start has the invariant.
pub begins : (g : Graph) (P : ℕ) → Invariant g P start
begins g P =
    record {
      local = λ q. record {
        stacks = record { on = λ x e. absurd (clash e refl); is = λ x m. absurd m; once = tt; trail = tt; free = λ x m n. refl };
        phase = (refl, record { bare = refl; clear = λ x. refl });
      };
      spare = λ q h. refl;
      dead_next = λ s t d e. absurd (clash d refl);
      blue_next = λ s t b e. absurd (clash b refl);
      blue_dead = λ s a b. absurd (clash b refl);
      dead_no_loop = λ s a d f. clash d refl;
    }

-- "none": where every worker is done, no loop through a mark can be reached.
pub none_right : {g : Graph} {P : ℕ} {m : Machine} → Invariant g P m → 0 < P
    → ((q : ℕ) → q < P → (m.worker q).place ≡ Done) → MarkedLoop g → ⊥
none_right {g} {P} {m} v some done l = v.dead_no_loop l.mark l.accepts dead l.loops
  where
    -- no worker is anywhere
    gone : (q : ℕ) → ((m.worker q).place ≡ Done) ⊎ ((m.worker q).place ≡ Fresh)
    gone q = ⊎_map (done q) (v.spare q) (below? q P)

    colourless : (q x : ℕ) → (m.worker q).cyan x ≡ true → ⊥
    colourless q x c = mem_nil x bare ((v.local q).stacks.on x c)
      where
        bare : (m.worker q).outer ≡ []
        bare = ⊎_elim (λ (e : (m.worker q).place ≡ Done). (at (v.local q) e).0) (λ (e : (m.worker q).place ≡ Fresh). (at (v.local q) e).0) (gone q)

    seedless : (q x : ℕ) → SeedAt (m.worker q).place x → ⊥
    seedless q x k = ⊎_elim (λ e. subst (λ a. SeedAt a x) e k) (λ e. subst (λ a. SeedAt a x) e k) (gone q)

    first : m.blue 0 ≡ true
    first = (at (v.local 0) (done 0 some)).2

    blue_on : (s t : ℕ) → m.blue s ≡ true → Walk g s t → m.blue t ≡ true
    blue_on s _ b stay = b
    blue_on s t b (step {t = x} e w) = blue_on x t (⊎_elim (λ k. k) (λ c. absurd (colourless c.0 x c.1)) (v.blue_next s x b e)) w

    dead : Dead m l.mark
    dead =
        let blue = blue_on 0 l.mark first l.reached in
        ⊎_elim (λ d. d) (λ c. absurd (seedless c.0 l.mark c.1)) (v.blue_dead l.mark l.accepts blue)

-- The move that is chosen by the words is the move of the machine's turn, rule by rule; and what the choice asks is given.
use Prim.Native.Nat.{ℕ, suc, ◌+◌, ◌*◌, ◌<◌}
use mathlib.Core.Path.{◌≡◌, sym, ap, subst, ◌∙◌}
use mathlib.Core.Bool.{Bool, true, false, cond, ◌||◌}
use mathlib.Core.List.{List, [], ◌∷◌}
use lib.Dec.{eqb}
use lib.ListN.{length, get_or}
use native.Mathlib.Omega.{arith}
use Rattle.graphs.specs.Graph.{Graph, graph}
use Rattle.graphs.specs.Words.{marked, graph_of}
use Rattle.graphs.proofs.Every.{every_ext}
use Rattle.moves.specs.declared.Place.{Place}
use Rattle.moves.specs.declared.Move.{Move}
use Rattle.moves.specs.declared.Move.TheVariants.{Skip, Enter, Leave, Seed, Hit, Pass, Join, Back, Paint, Wait}
use Rattle.moves.specs.Machine.{Worker, Machine}
use Rattle.moves.specs.Moves.{Made, remaining, others_red}
use Rattle.moves.specs.Room.{stretch_at}
use Rattle.moves.proofs.Words.{bit_test, blue_word, red_word}
use Rattle.theory.specs.Rules.{Outermost, Innermost, Rule, by_start, by_skip, by_enter, by_leave, by_seed, by_hit, by_pass, by_join, by_back}
use Rattle.theory.specs.Rules.{by_paint, by_wait, by_rest}
use Rattle.moves.specs.Own.{own_of}
use Rattle.turn.specs.Holds.{first_of}
use Rattle.turn.specs.Look.{ToppedAt, TopOf, Ready, outer_taken, outer_ended, on_next, outer_move, inner_taken, inner_move, passes, others_red_in}
use Rattle.turn.specs.Look.{waiting_move, chosen_at, chosen}
use Rattle.turn.proofs.Rows.{row_of}
use Rattle.turn.proofs.Rotated.{successor_is}
use Rattle.turn.proofs.Given.{Given, seen, fits, after, inside, outer_state, inner_state, taken_state, cyan_word, R_word, taken_word}
use Rattle.turn.proofs.Given.{outer_word, inner_word}

module _ {offsets targets flags : List ℕ} {P p : ℕ} {m : Machine} {rest l : List ℕ} (x : Given offsets targets flags P p m rest l) where
  abbrev n : ℕ
  n = length flags

  abbrev g : Graph
  g = graph_of offsets targets flags

  abbrev a : ℕ
  a = stretch_at n p

  abbrev w : Worker
  w = m.worker p

  -- moves 2 and 3
  outer_next : (s : ℕ) (u : List ℕ) → Outermost p m s u
      → outer_move offsets targets flags a p (length w.outer) l ≡ on_next (first_of (remaining g p m s)) (outer_ended flags s) (λ y. outer_taken a s y l)
  unfolding outer_move graph_of graph
  outer_next s u e =
      let h = outer_state x s u e in
      rw (outer_word x s u e, taken_word x s h, successor_is offsets targets p s (w.taken s) (row_of offsets targets flags s x.is h))

  outer_takes : (s y : ℕ) (u k : List ℕ) → Outermost p m s u → remaining g p m s ≡ y ∷ k
      → outer_move offsets targets flags a p (length w.outer) l ≡ outer_taken a s y l
  outer_takes s y u k e r = outer_next s u e ∙ ap (λ z. on_next (first_of z) (outer_ended flags s) (λ v. outer_taken a s v l)) r

  outer_ends : (s : ℕ) (u : List ℕ) → Outermost p m s u → remaining g p m s ≡ []
      → outer_move offsets targets flags a p (length w.outer) l ≡ outer_ended flags s
  outer_ends s u e r = outer_next s u e ∙ ap (λ z. on_next (first_of z) (outer_ended flags s) (λ v. outer_taken a s v l)) r

  -- moves 4 and 5
  inner_next : (z s : ℕ) (u : List ℕ) → Innermost p m s u
      → inner_move offsets targets flags a p (length w.inner) z l ≡ on_next (first_of (remaining g p m s)) (Back z s) (λ y. inner_taken n a s y l)
  unfolding inner_move graph_of graph
  inner_next z s u e =
      let h = inner_state x s u e in
      rw (inner_word x s u e, taken_word x s h, successor_is offsets targets p s (w.taken s) (row_of offsets targets flags s x.is h))

  inner_takes : (z s y : ℕ) (u k : List ℕ) → Innermost p m s u → remaining g p m s ≡ y ∷ k
      → inner_move offsets targets flags a p (length w.inner) z l ≡ inner_taken n a s y l
  inner_takes z s y u k e r = inner_next z s u e ∙ ap (λ v. on_next (first_of v) (Back z s) (λ t. inner_taken n a s t l)) r

  -- the tests of a successor
  cyan_test : (y : ℕ) → y < n → eqb (get_or l (a + y) 0) 1 ≡ w.cyan y
  cyan_test y h = rw (cyan_word x y h) (bit_test (w.cyan y))

  R_test : (y : ℕ) → y < n → eqb (get_or l (a + n + y) 0) 1 ≡ w.R y
  R_test y h = rw (R_word x y h) (bit_test (w.R y))

  blue_test : (y : ℕ) → y < n → eqb (get_or l y 0) 1 ≡ m.blue y
  blue_test y h = rw (blue_word n P m rest l (seen x) y h) (bit_test (m.blue y))

  red_test : (y : ℕ) → y < n → eqb (get_or l (n + y) 0) 1 ≡ m.red y
  red_test y h = rw (red_word n P m rest l (seen x) y h) (bit_test (m.red y))

  outer_took : (s y : ℕ) (b : Bool) → y < n → (w.cyan y || m.blue y) ≡ b → outer_taken a s y l ≡ cond b (Skip s) (Enter s y)
  unfolding outer_taken
  outer_took s y b h e = rw (cyan_test y h, blue_test y h, e)

  inner_hit : (s y : ℕ) → y < n → w.cyan y ≡ true → inner_taken n a s y l ≡ Hit s y
  unfolding inner_taken
  inner_hit s y h e = rw (cyan_test y h, e)

  inner_took : (s y : ℕ) (b : Bool) → y < n → w.cyan y ≡ false → (w.R y || m.red y) ≡ b → inner_taken n a s y l ≡ cond b (Pass s) (Join s y)
  unfolding inner_taken
  inner_took s y b h c e = rw (cyan_test y h, c, R_test y h, red_test y h, e)

  outer_ended_lem : (s : ℕ) (b : Bool) → g.accepting s ≡ b → outer_ended flags s ≡ cond b (Seed s) (Leave s)
  unfolding outer_ended graph_of graph marked
  outer_ended_lem s b e = rw e

  -- move 6
  others_red_lem : (z : ℕ) → others_red_in flags a z l ≡ others_red g p m z
  unfolding others_red_in others_red passes graph_of graph marked
  others_red_lem z = every_ext n _ _ (λ i h. rw (R_test i h, red_test i h))

  waiting_is : (z : ℕ) (b : Bool) → others_red g p m z ≡ b → waiting_move flags a z l ≡ cond b (Paint z) Wait
  unfolding waiting_move
  waiting_is z b e = rw (others_red_lem z, e)

  abbrev by_place : Place → Move
  by_place = chosen_at offsets targets flags a p (own_of w) l

  pub chosen_is : (made : Made) → Rule g p m made → chosen offsets targets flags a p (own_of w) l ≡ made.move
  chosen_is made (by_start e) = ap by_place e
  chosen_is made (by_skip {s} {x = y} {u} {l = k} e o r c) =
      ap by_place e ∙ outer_takes s y u k o r ∙ outer_took s y true (taken_state x s y k (outer_state x s u o) r) c
  chosen_is made (by_enter {s} {x = y} {u} {l = k} e o r c) =
      ap by_place e ∙ outer_takes s y u k o r ∙ outer_took s y false (taken_state x s y k (outer_state x s u o) r) c
  chosen_is made (by_leave {s} {u} e o r c) = ap by_place e ∙ outer_ends s u o r ∙ outer_ended_lem s false c
  chosen_is made (by_seed {s} {u} e o r c) = ap by_place e ∙ outer_ends s u o r ∙ outer_ended_lem s true c
  chosen_is made (by_hit {z} {s} {x = y} {u} {l = k} e o r c) =
      ap by_place e ∙ inner_takes z s y u k o r ∙ inner_hit s y (taken_state x s y k (inner_state x s u o) r) c
  chosen_is made (by_pass {z} {s} {x = y} {u} {l = k} e o r c d) =
      ap by_place e ∙ inner_takes z s y u k o r ∙ inner_took s y true (taken_state x s y k (inner_state x s u o) r) c d
  chosen_is made (by_join {z} {s} {x = y} {u} {l = k} e o r c d) =
      ap by_place e ∙ inner_takes z s y u k o r ∙ inner_took s y false (taken_state x s y k (inner_state x s u o) r) c d
  chosen_is made (by_back {z} {s} {u} e o r) =
      ap by_place e ∙ inner_next z s u o ∙ ap (λ v. on_next (first_of v) (Back z s) (λ t. inner_taken n a s t l)) r
  chosen_is made (by_paint {z} {u} e o c) = ap by_place e ∙ waiting_is z true c
  chosen_is made (by_wait {z} e c) = ap by_place e ∙ waiting_is z false c
  chosen_is made (by_rest e) = ap by_place e

  -- the stack of the search that the worker is in has a top
  outer_topped : (s : ℕ) (u : List ℕ) → Outermost p m s u → ToppedAt n (a + 2 * n) (length w.outer) l
  outer_topped s u e =
      record {
        some = let deep : length w.outer ≡ suc (length u) = ap length e in omega (arith, deep);
        deep = (fits x).outer_fits;
        top = rw (outer_word x s u e) (outer_state x s u e);
      }

  inner_topped : (s : ℕ) (u : List ℕ) → Innermost p m s u → ToppedAt n (a + 3 * n) (length w.inner) l
  inner_topped s u e =
      record {
        some = let deep : length w.inner ≡ suc (length u) = ap length e in omega (arith, deep);
        deep = (fits x).inner_fits;
        top = rw (inner_word x s u e) (inner_state x s u e);
      }

  abbrev Tops : Place → Type 0
  Tops = TopOf n a (own_of w) l

  topped : (made : Made) → Rule g p m made → Tops w.place
  topped made (by_start e) = subst Tops (sym e) tt
  topped made (by_skip {s} {u} e o r c) = subst Tops (sym e) (outer_topped s u o)
  topped made (by_enter {s} {u} e o r c) = subst Tops (sym e) (outer_topped s u o)
  topped made (by_leave {s} {u} e o r c) = subst Tops (sym e) (outer_topped s u o)
  topped made (by_seed {s} {u} e o r c) = subst Tops (sym e) (outer_topped s u o)
  topped made (by_hit {s} {u} e o r c) = subst Tops (sym e) (inner_topped s u o)
  topped made (by_pass {s} {u} e o r c d) = subst Tops (sym e) (inner_topped s u o)
  topped made (by_join {s} {u} e o r c d) = subst Tops (sym e) (inner_topped s u o)
  topped made (by_back {s} {u} e o r) = subst Tops (sym e) (inner_topped s u o)
  topped made (by_paint e o c) = subst Tops (sym e) tt
  topped made (by_wait e c) = subst Tops (sym e) tt
  topped made (by_rest e) = subst Tops (sym e) tt

  pub ready : (made : Made) → Rule g p m made → Ready offsets targets flags a (own_of w) l
  ready made r = record { within = record { graph = x.is; after = after x; inside = inside x }; topped = topped made r }

-- What the stores of a move in the parts of a stretch make of its words in one piece: a law for each move, whatever the parts hold.
use Prim.Native.Nat.{ℕ, zero, suc, ◌+◌, ◌-◌, ◌*◌, ◌<◌, ◌≤◌}
use mathlib.Core.Path.{◌≡◌, refl, sym, ap, ◌∙◌}
use mathlib.Core.List.{List, [], ◌∷◌}
use Rattle.std.specs.Prelude.{◌==◌}
use lib.ListN.{length, get_or, set, replicate, length-set, length-append, length-replicate}
use borrow.Author.Tests.{ne_eqb}
use native.Mathlib.Omega.{arith}
use Rattle.moves.specs.declared.Place.{Place}
use Rattle.moves.specs.Place.{started, left, seeded, backed, painted}
use Rattle.moves.specs.declared.own.Own.{Own}
use Rattle.moves.specs.Room.{kind_word, seed_word}
use Rattle.moves.proofs.Joined.{split}
use Rattle.moves.proofs.Room.{place_one}
use Rattle.moves.proofs.Parts.{six, Even, six_set_1, six_set_2, six_set_3, six_set_4, six_set_5, six_set_6, six_word_5, six_put_2}
use Rattle.turn.specs.declared.stretch.Stretch.{Stretch}
use Rattle.turn.specs.Stores.{own_in_parts, words}
use Rattle.turn.specs.Stores.{put_words, start_words, take_words, enter_words, pop_words, leave_words, seed_words, join_words, back_words, clear_words, paint_words}

module _ {n : ℕ} {a b c d e : List ℕ} (even : Even n a b c d e) where
  -- the parts are as long with a word of one of them stored
  even_1 : (i v : ℕ) → Even n (set a i v) b c d e
  even_1 i v = record { long_1 = length-set a i v ∙ even.long_1; long_2 = even.long_2; long_3 = even.long_3; long_4 = even.long_4; long_5 = even.long_5 }

  even_2 : (i v : ℕ) → Even n a (set b i v) c d e
  even_2 i v = record { long_1 = even.long_1; long_2 = length-set b i v ∙ even.long_2; long_3 = even.long_3; long_4 = even.long_4; long_5 = even.long_5 }

  even_3 : (i v : ℕ) → Even n a b (set c i v) d e
  even_3 i v = record { long_1 = even.long_1; long_2 = even.long_2; long_3 = length-set c i v ∙ even.long_3; long_4 = even.long_4; long_5 = even.long_5 }

  even_4 : (i v : ℕ) → Even n a b c (set d i v) e
  even_4 i v = record { long_1 = even.long_1; long_2 = even.long_2; long_3 = even.long_3; long_4 = length-set d i v ∙ even.long_4; long_5 = even.long_5 }

  even_5 : (i v : ℕ) → Even n a b c d (set e i v)
  even_5 i v = record { long_1 = even.long_1; long_2 = even.long_2; long_3 = even.long_3; long_4 = even.long_4; long_5 = length-set e i v ∙ even.long_5 }

  -- the last four words
  pub put_six : (own : Own) (x y z t : ℕ)
      → put_words n own (six a b c d e (x ∷ y ∷ z ∷ t ∷ []))
      ≡ six a b c d e (kind_word own.place ∷ seed_word own.place ∷ own.outer ∷ own.inner ∷ [])
  unfolding put_words
  put_six own x y z t =
      let first : 5 * n + 0 ≡ 5 * n = omega arith in
      rw (rw first at (six_set_6 (x ∷ y ∷ z ∷ t ∷ []) even 0 (kind_word own.place)), six_set_6, six_set_6, six_set_6)

  -- the number of the words
  six_long : (q : List ℕ) → length (six a b c d e q) ≡ 5 * n + length q
  six_long q =
      rw (
        length-append,
        length-append,
        length-append,
        length-append,
        length-append,
        even.long_1,
        even.long_2,
        even.long_3,
        even.long_4,
        even.long_5,
      ) (omega arith)

module _ {n : ℕ} {a b c d e : List ℕ} (even : Even n a b c d e) (own : Own) (x y z t : ℕ) where
  -- the top of the outer stack leaves it, and the place is p then
  pop_six : (s : ℕ) (p : Place) → s < n → 0 < own.outer → own.outer ≤ n
      → pop_words n own s p (six a b c d e (x ∷ y ∷ z ∷ t ∷ []))
      ≡ six (set a s 0) b (set c (own.outer - 1) 0) d (set e s 0) (kind_word p ∷ seed_word p ∷ (own.outer - 1) ∷ own.inner ∷ [])
  unfolding pop_words
  pop_six s p h some deep =
      let under : own.outer - 1 < n = omega arith in
      let one = even_1 even s 0 in
      let two = even_3 one (own.outer - 1) 0 in
      let three = even_5 two s 0 in
      let last = x ∷ y ∷ z ∷ t ∷ [] in
      rw (six_set_1 last even s 0 h, six_set_3 last one (own.outer - 1) 0 under, six_set_5 last two s 0 h, put_six)

-- a depth tells whether the stack is empty without its top
one_left : (d : ℕ) → 0 < d → (d == 1) ≡ (d - 1 == 0)
one_left zero h = absurd (omega arith)
one_left (suc zero) h = refl
one_left (suc (suc d)) h = ne_eqb (suc (suc d)) 1 (λ e. omega arith) ∙ sym (ne_eqb (suc (suc d) - 1) 0 (λ e. omega arith))

module _ (k : Stretch) where
  abbrev n : ℕ
  n = length k.cyan.now

  abbrev own : Own
  own = own_in_parts k

  abbrev pub last_words : List ℕ
  last_words = kind_word k.place ∷ seed_word k.place ∷ k.outer_depth ∷ k.inner_depth ∷ []

  -- each part has n words
  pub parts_even : Even n k.cyan.now k.gathered.now k.outer.now k.inner.now k.taken.now
  parts_even = record { long_1 = refl; long_2 = k.even_gathered; long_3 = k.even_outer; long_4 = k.even_inner; long_5 = k.even_taken }

  -- move 1
  pub start_put : 0 < n
      → start_words n own (words k)
      ≡ six (set k.cyan.now 0 1) k.gathered.now (set k.outer.now 0 0) k.inner.now k.taken.now
      (kind_word (started k.place) ∷ seed_word (started k.place) ∷ 1 ∷ k.inner_depth ∷ [])
  unfolding start_words
  start_put some =
      let one = even_1 parts_even 0 1 in
      let two = even_3 one 0 0 in
      let base : 2 * n + 0 ≡ 2 * n = omega arith in
      rw (six_set_1 last_words parts_even 0 1 some, rw base at (six_set_3 last_words one 0 0 some), put_six)

  -- moves 2 and 4
  pub take_put : (s : ℕ) → s < n
      → take_words n s (words k)
      ≡ six k.cyan.now k.gathered.now k.outer.now k.inner.now (set k.taken.now s (get_or k.taken.now s 0 + 1)) last_words
  unfolding take_words
  take_put s h = rw (six_word_5 last_words parts_even s h, six_set_5 last_words parts_even s (get_or k.taken.now s 0 + 1) h)

  -- move 2
  pub enter_put : (s x : ℕ) → s < n → x < n → k.outer_depth < n
      → enter_words n own s x (words k)
      ≡ six (set k.cyan.now x 1) k.gathered.now (set k.outer.now k.outer_depth x) k.inner.now
      (set k.taken.now s (get_or k.taken.now s 0 + 1)) (set last_words 2 (k.outer_depth + 1))
  unfolding enter_words
  enter_put s x hs hx room =
      let one = even_5 parts_even s (get_or k.taken.now s 0 + 1) in
      let two = even_1 one x 1 in
      let three = even_3 two k.outer_depth x in
      rw (take_put s hs, six_set_1 last_words one x 1 hx, six_set_3, six_set_6)

  -- the top of the outer stack leaves it, and the place is p then
  module _ (s : ℕ) (h : s < n) (some : 0 < k.outer_depth) (deep : k.outer_depth ≤ n) where
    pub pop_put : (p : Place)
        → pop_words n own s p (words k)
        ≡ six (set k.cyan.now s 0) k.gathered.now (set k.outer.now (k.outer_depth - 1) 0) k.inner.now (set k.taken.now s 0)
        (kind_word p ∷ seed_word p ∷ (k.outer_depth - 1) ∷ k.inner_depth ∷ [])
    pop_put p = pop_six parts_even own _ _ _ _ s p h some deep

    -- move 3, not accepting
    pub leave_put : leave_words n own s (words k)
        ≡ six (set k.cyan.now s 0) k.gathered.now (set k.outer.now (k.outer_depth - 1) 0) k.inner.now (set k.taken.now s 0)
        (kind_word (left k.place (k.outer_depth - 1 == 0)) ∷ seed_word (left k.place (k.outer_depth - 1 == 0)) ∷ (k.outer_depth - 1) ∷ k.inner_depth ∷ [])
    unfolding leave_words
    leave_put = rw (one_left k.outer_depth some) (pop_put (left k.place (k.outer_depth - 1 == 0)))

    -- move 6
    pub paint_put : paint_words n own s (words k)
        ≡ six (set k.cyan.now s 0) (replicate n 0) (set k.outer.now (k.outer_depth - 1) 0) k.inner.now (set k.taken.now s 0)
        (kind_word (painted k.place (k.outer_depth - 1 == 0)) ∷ seed_word (painted k.place (k.outer_depth - 1 == 0)) ∷ (k.outer_depth - 1) ∷ k.inner_depth ∷ [])
    unfolding paint_words clear_words
    paint_put =
        let clear : Even n k.cyan.now (replicate n 0) k.outer.now k.inner.now k.taken.now =
        record { long_1 = parts_even.long_1; long_2 = length-replicate n 0; long_3 = parts_even.long_3; long_4 = parts_even.long_4; long_5 = parts_even.long_5 } in
        rw (one_left k.outer_depth some, six_put_2 last_words parts_even (replicate n 0)) (pop_six clear own _ _ _ _ s (painted k.place (k.outer_depth - 1 == 0)) h some deep)

  -- move 3, accepting
  pub seed_put : (s : ℕ) → s < n
      → seed_words n own s (words k)
      ≡ six k.cyan.now (set k.gathered.now s 1) k.outer.now (set k.inner.now 0 s) (set k.taken.now s 0)
      (kind_word (seeded k.place s) ∷ seed_word (seeded k.place s) ∷ k.outer_depth ∷ 1 ∷ [])
  unfolding seed_words
  seed_put s h =
      let some : 0 < n = omega arith in
      let one = even_2 parts_even s 1 in
      let two = even_4 one 0 s in
      let three = even_5 two s 0 in
      let base : 3 * n + 0 ≡ 3 * n = omega arith in
      rw (six_set_2 last_words parts_even s 1 h, rw base at (six_set_4 last_words one 0 s some), six_set_5, put_six)

  -- move 4
  pub join_put : (s x : ℕ) → s < n → x < n → k.inner_depth < n
      → join_words n own s x (words k)
      ≡ six k.cyan.now (set k.gathered.now x 1) k.outer.now (set k.inner.now k.inner_depth x)
      (set k.taken.now s (get_or k.taken.now s 0 + 1)) (set last_words 3 (k.inner_depth + 1))
  unfolding join_words
  join_put s x hs hx room =
      let one = even_5 parts_even s (get_or k.taken.now s 0 + 1) in
      let two = even_2 one x 1 in
      let three = even_4 two k.inner_depth x in
      rw (take_put s hs, six_set_2, six_set_4, six_set_6)

  -- move 5
  pub back_put : (s : ℕ) → s < n → 0 < k.inner_depth → k.inner_depth ≤ n
      → back_words n own s (words k)
      ≡ six k.cyan.now k.gathered.now k.outer.now (set k.inner.now (k.inner_depth - 1) 0) (set k.taken.now s 0)
      (kind_word (backed k.place (k.inner_depth - 1 == 0)) ∷ seed_word (backed k.place (k.inner_depth - 1 == 0)) ∷ k.outer_depth ∷ (k.inner_depth - 1) ∷ [])
  unfolding back_words
  back_put s h some deep =
      let under : k.inner_depth - 1 < n = omega arith in
      let one = even_4 parts_even (k.inner_depth - 1) 0 in
      let two = even_5 one s 0 in
      rw (six_set_4 last_words parts_even (k.inner_depth - 1) 0 under, six_set_5, put_six)

-- six joined lists are the same as six others only if they are so one by one
pub record Apart (a b c d e q a' b' c' d' e' q' : List ℕ) : Type 0 where
  pub same_1 : a ≡ a'
  pub same_2 : b ≡ b'
  pub same_3 : c ≡ c'
  pub same_4 : d ≡ d'
  pub same_5 : e ≡ e'
  pub same_6 : q ≡ q'

pub apart : {n n' : ℕ} {a b c d e a' b' c' d' e' : List ℕ} (q q' : List ℕ) → Even n a b c d e → Even n' a' b' c' d' e' → length q ≡ length q'
    → six a b c d e q ≡ six a' b' c' d' e' q' → Apart a b c d e q a' b' c' d' e' q'
apart {n} {n'} {a} {b} {c} {d} {e} q q' x y last form =
    let size : n ≡ n' = omega (arith, ap length form, six_long x q, six_long y q', last) in
    let one = split a _ _ _ (x.long_1 ∙ size ∙ sym y.long_1) form in
    let two = split b _ _ _ (x.long_2 ∙ size ∙ sym y.long_2) one.1 in
    let three = split c _ _ _ (x.long_3 ∙ size ∙ sym y.long_3) two.1 in
    let four = split d _ _ _ (x.long_4 ∙ size ∙ sym y.long_4) three.1 in
    let five = split e _ _ _ (x.long_5 ∙ size ∙ sym y.long_5) four.1 in
    record { same_1 = one.0; same_2 = two.0; same_3 = three.0; same_4 = four.0; same_5 = five.0; same_6 = five.1 }

-- the parts after the top of the outer stack has left it, from the words in one piece
pub record Popped (k k' : Stretch) (s : ℕ) : Type 0 where
  pub place : k'.place ≡ k.place
  pub cyan : k'.cyan.now ≡ set k.cyan.now s 0
  pub gathered : k'.gathered.now ≡ k.gathered.now
  pub outer : k'.outer.now ≡ set k.outer.now (k.outer_depth - 1) 0
  pub inner : k'.inner.now ≡ k.inner.now
  pub taken : k'.taken.now ≡ set k.taken.now s 0
  pub outer_depth : k'.outer_depth ≡ k.outer_depth - 1
  pub inner_depth : k'.inner_depth ≡ k.inner_depth

pub popped : (k k' : Stretch) (s : ℕ) → s < length k.cyan.now → 0 < k.outer_depth → k.outer_depth ≤ length k.cyan.now
    → words k' ≡ pop_words (length k.cyan.now) (own_in_parts k) s k.place (words k) → Popped k k' s
popped k k' s h some deep e =
    let after = even_5 (even_3 (even_1 (parts_even k) s 0) (k.outer_depth - 1) 0) s 0 in
    let p = apart (last_words k') (kind_word k.place ∷ seed_word k.place ∷ (k.outer_depth - 1) ∷ k.inner_depth ∷ [])
    (parts_even k') after refl (e ∙ pop_put k s h some deep k.place) in
    record {
      place = place_one k'.place k.place (ap (λ l. get_or l 0 0) p.same_6) (ap (λ l. get_or l 1 0) p.same_6);
      cyan = p.same_1;
      gathered = p.same_2;
      outer = p.same_3;
      inner = p.same_4;
      taken = p.same_5;
      outer_depth = ap (λ l. get_or l 2 0) p.same_6;
      inner_depth = ap (λ l. get_or l 3 0) p.same_6;
    }

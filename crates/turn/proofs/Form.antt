-- Laws of `form`, the words of a stretch over any sets, stacks, counts and last four words: each store of a move changes one of these.
use Prim.Native.Nat.{ℕ, ◌+◌, ◌*◌, ◌<◌, ◌≤◌}
use mathlib.Core.Path.{◌≡◌, refl, ◌∙◌}
use mathlib.Core.Bool.{Bool, true, false}
use mathlib.Core.List.{List, [], ◌∷◌}
use lib.ListN.{length, get_or, set, replicate}
use native.Mathlib.Omega.{arith}
use Rattle.graphs.specs.Lists.{tab, upd}
use Rattle.graphs.proofs.Tab.{tab_word, tab_upd}
use Rattle.moves.specs.Machine.{Worker, empty}
use Rattle.moves.specs.Changes.{only}
use Rattle.moves.specs.Room.{bit, bits, pile, kind_word, seed_word, span}
use Rattle.moves.proofs.Bits.{bits_upd, bits_empty, bits_only}
use Rattle.moves.proofs.Pile.{pile_push, pile_pop}
use Rattle.moves.proofs.Parts.{six, Even, six_set_1, six_set_2, six_set_3, six_set_4, six_set_5, six_set_6, six_word_5, six_put_2}
use Rattle.moves.proofs.Words.{five}
use Rattle.moves.specs.declared.own.Own.{Own}
use Rattle.turn.specs.Stores.{put_words, clear_words}
use Rattle.turn.proofs.Put.{put_six}

-- cyan k and R r, the outer stack o and the inner stack i, the counts t, and the words q after them
unfoldable pub form : ℕ → (ℕ → Bool) → (ℕ → Bool) → List ℕ → List ℕ → (ℕ → ℕ) → List ℕ → List ℕ
form n k r o i t q = six (bits n k) (bits n r) (pile n o) (pile n i) (tab 0 n t) q

module _ (n : ℕ) where
  pub span_form : (w : Worker)
      → span n w
      ≡ form n w.cyan w.R w.outer w.inner w.taken
      (kind_word w.place ∷ seed_word w.place ∷ length w.outer ∷ length w.inner ∷ [])
  unfolding span form
  span_form w = refl

  module _ (k r : ℕ → Bool) (o i : List ℕ) (t : ℕ → ℕ) (q : List ℕ) (outer_fits : length o ≤ n) (inner_fits : length i ≤ n) where
    even : Even n (bits n k) (bits n r) (pile n o) (pile n i) (tab 0 n t)
    even = five n k r o i t outer_fits inner_fits

    form_cyan : (b : Bool) (s : ℕ) → s < n → set (form n k r o i t q) s (bit b) ≡ form n (upd k s b) r o i t q
    unfolding form
    form_cyan b s h = rw (bits_upd n k s b h) (six_set_1 q even s (bit b) h)

    pub form_cyan_on : (s : ℕ) → s < n → set (form n k r o i t q) s 1 ≡ form n (upd k s true) r o i t q
    form_cyan_on = form_cyan true

    pub form_cyan_off : (s : ℕ) → s < n → set (form n k r o i t q) s 0 ≡ form n (upd k s false) r o i t q
    form_cyan_off = form_cyan false

    pub form_R_on : (s : ℕ) → s < n → set (form n k r o i t q) (n + s) 1 ≡ form n k (upd r s true) o i t q
    unfolding form
    form_R_on s h = rw (bits_upd n r s true h) (six_set_2 q even s 1 h)

    pub form_outer_push : (x : ℕ) → length o < n → set (form n k r o i t q) (2 * n + length o) x ≡ form n k r (x ∷ o) i t q
    unfolding form
    form_outer_push x h = rw (pile_push n o x h) (six_set_3 q even (length o) x h)

    pub form_outer_pop : (x : ℕ) → length o < n → set (form n k r (x ∷ o) i t q) (2 * n + length o) 0 ≡ form n k r o i t q
    unfolding form
    form_outer_pop x h = rw (pile_pop n o x h) (six_set_3 q (five n k r (x ∷ o) i t h inner_fits) (length o) 0 h)

    pub form_inner_push : (x : ℕ) → length i < n → set (form n k r o i t q) (3 * n + length i) x ≡ form n k r o (x ∷ i) t q
    unfolding form
    form_inner_push x h = rw (pile_push n i x h) (six_set_4 q even (length i) x h)

    pub form_inner_pop : (x : ℕ) → length i < n → set (form n k r o (x ∷ i) t q) (3 * n + length i) 0 ≡ form n k r o i t q
    unfolding form
    form_inner_pop x h = rw (pile_pop n i x h) (six_set_4 q (five n k r o (x ∷ i) t outer_fits h) (length i) 0 h)

    pub form_taken : (s v : ℕ) → s < n → set (form n k r o i t q) (4 * n + s) v ≡ form n k r o i (upd t s v) q
    unfolding form
    form_taken s v h = rw (tab_upd n t s v h) (six_set_5 q even s v h)

    pub form_count : (s : ℕ) → s < n → get_or (form n k r o i t q) (4 * n + s) 0 ≡ t s
    unfolding form
    form_count s h = six_word_5 q even s h ∙ tab_word n t s 0 h

    pub form_last : (j v : ℕ) → set (form n k r o i t q) (5 * n + j) v ≡ form n k r o i t (set q j v)
    unfolding form
    form_last j v = six_set_6 q even j v

    pub form_clear : clear_words n (form n k r o i t q) ≡ form n k empty o i t q
    unfolding form clear_words
    form_clear = rw (bits_empty n) (six_put_2 q even (replicate n 0))

    pub form_only : (s : ℕ) → ((x : ℕ) → r x ≡ false) → form n k (upd r s true) o i t q ≡ form n k (only s) o i t q
    unfolding form
    form_only s none = rw (bits_only n r s none)

  -- the first entry of an empty stack
  pub form_outer_first : (k r : ℕ → Bool) (i : List ℕ) (t : ℕ → ℕ) (q : List ℕ) (x : ℕ) → length i ≤ n → 0 < n
      → set (form n k r [] i t q) (2 * n) x ≡ form n k r (x ∷ []) i t q
  form_outer_first k r i t q x inner_fits h =
      let base : 2 * n + 0 ≡ 2 * n = omega arith in rw base at (form_outer_push k r [] i t q (omega arith) inner_fits x h)

  pub form_inner_first : (k r : ℕ → Bool) (o : List ℕ) (t : ℕ → ℕ) (q : List ℕ) (x : ℕ) → length o ≤ n → 0 < n
      → set (form n k r o [] t q) (3 * n) x ≡ form n k r o (x ∷ []) t q
  form_inner_first k r o t q x outer_fits h =
      let base : 3 * n + 0 ≡ 3 * n = omega arith in rw base at (form_inner_push k r o [] t q outer_fits (omega arith) x h)

  -- the last four words, whatever they were
  pub form_put : (k r : ℕ → Bool) (o i : List ℕ) (t : ℕ → ℕ) (a b c d : ℕ) (own : Own) → length o ≤ n → length i ≤ n
      → put_words n own (form n k r o i t (a ∷ b ∷ c ∷ d ∷ []))
      ≡ form n k r o i t (kind_word own.place ∷ seed_word own.place ∷ own.outer ∷ own.inner ∷ [])
  unfolding form
  form_put k r o i t a b c d own outer_fits inner_fits = put_six (five n k r o i t outer_fits inner_fits) own a b c d

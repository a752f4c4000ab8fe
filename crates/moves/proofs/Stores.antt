-- What a store makes of the words of a set, of a stack or of counts: the words of the set, the stack or the counts after one change. `stores` holds
-- the laws for a tactic that meets a function's stores, `reads` what stands at one word.
use Rattle.std.proofs.Common.{ℕ, suc, ◌+◌, ◌-◌, ◌<◌, ◌≤◌, ◌≡◌, refl, sym, ap, ◌∙◌, Bool, true, false, ◌||◌, List, [], ◌∷◌, reverse, bit_or, eqb, length}
use Rattle.std.proofs.Common.{get_or, set, replicate, length-set, length-append, arith, add-one, ne_eqb}
use lib.ListN.{length-reverse}
use Rattle.graphs.specs.Lists.{upd}
use Rattle.graphs.proofs.Tab.{tab_long, tab_word, tab_is, tab_upd}
use Rattle.moves.specs.Machine.{empty}
use Rattle.moves.specs.Changes.{is_empty, only}
use Rattle.moves.specs.Room.{bit, pile}
use Rattle.moves.specs.Words.{IsSet, IsStack, IsCounts}
use Rattle.moves.proofs.Bits.{bits_long, bits_upd, bits_empty, bits_only}
use Rattle.moves.proofs.Pile.{pile_push, pile_pop}
use Rattle.moves.proofs.Words.{bit_test, pile_top}

depth_none : (u : List ℕ) → eqb (length u) 0 ≡ is_empty u
depth_none [] = refl
depth_none (x ∷ u) = ne_eqb (length (x ∷ u)) 0 (λ e. omega arith)

module _ {n : ℕ} {f : ℕ → Bool} {l : List ℕ} (e : IsSet n f l) where
  pub set_long : length l ≡ n
  set_long = ap length e.words ∙ bits_long n f

  pub on : (s : ℕ) → s < length l → IsSet n (upd f s true) (set l s 1)
  on s h = record { words = rw e.words (sym (bits_upd n f s true (omega (arith, set_long)))) }

  pub off : (s : ℕ) → s < length l → IsSet n (upd f s false) (set l s 0)
  off s h = record { words = rw e.words (sym (bits_upd n f s false (omega (arith, set_long)))) }

  pub only_on : (s : ℕ) → ((x : ℕ) → f x ≡ false) → s < length l → IsSet n (only s) (set l s 1)
  only_on s none h = record { words = (on s h).words ∙ bits_only n f s none }

  pub cleared : IsSet n empty (replicate (length l) 0)
  cleared = record { words = rw set_long (sym (bits_empty n)) }

  pub set_word : (s : ℕ) → s < length l → get_or l s 0 ≡ bit (f s)
  set_word s h = rw e.words (tab_word n (λ x. bit (f x)) s 0 (omega (arith, set_long)))

  pub set_test : (s : ℕ) → s < length l → eqb (get_or l s 0) 1 ≡ f s
  set_test s h = rw (set_word s h) (bit_test (f s))

or_bits : (a b : Bool) → bit_or (bit a) (bit b) ≡ bit (a || b)
or_bits true true = refl
or_bits true false = refl
or_bits false true = refl
or_bits false false = refl

-- the words of two sets, joined one by one
pub dyed_words : {n : ℕ} {f r : ℕ → Bool} {held old new : List ℕ} → IsSet n f held → IsSet n r old → length new ≡ length old
    → ((s : ℕ) → s < length old → get_or new s 0 ≡ bit_or (get_or old s 0) (get_or held s 0)) → IsSet n (λ x. r x || f x) new
dyed_words {n} {f} {r} {new = new} h e long each =
    let size = set_long e in
    record {
      words =
          sym (tab_is n 0 (λ x. bit (r x || f x)) new (long ∙ size)
          (λ s k. sym (each s (omega arith) ∙ rw (set_word e s (omega arith), set_word h s (omega (arith, set_long h)), or_bits (r s) (f s)))));
    }

module _ {n : ℕ} {u l : List ℕ} {d : ℕ} (e : IsStack n u l d) where
  pub push : (x : ℕ) → d < length l → IsStack n (x ∷ u) (set l d x) (d + 1)
  push x h =
      let room : length u < n = omega (arith, e.long, e.depth) in
      record {
        long = length-set l d x ∙ e.long;
        words = rw (e.words, e.depth) (sym (pile_push n u x room));
        depth = rw e.depth (add-one (length u));
      }

  pub first_on : (x : ℕ) → u ≡ [] → 0 < length l → IsStack n (x ∷ []) (set l 0 x) 1
  first_on x none h =
      let room : 0 < n = omega (arith, e.long) in
      record { long = length-set l 0 x ∙ e.long; words = rw (e.words, none) (sym (pile_push n [] x room)); depth = refl }

  pub stack_fits : d ≤ length l
  unfolding pile
  stack_fits =
      let long = ap length e.words ∙ length-append (reverse u) (replicate (n - length u) 0) in
      omega (arith, e.long, e.depth, long, length-reverse u)

  -- the depth tells whether the stack is empty
  pub none_left : eqb d 0 ≡ is_empty u
  none_left = rw e.depth (depth_none u)

module _ {n s : ℕ} {u l : List ℕ} {d : ℕ} (e : IsStack n (s ∷ u) l d) where
  pub deep : d - 1 ≡ length u
  deep = omega (arith, e.depth)

  pub popped : d ≤ length l → IsStack n u (set l (d - 1) 0) (d - 1)
  popped h =
      let room : length u < n = omega (arith, e.long, e.depth) in
      record {
        long = length-set l (d - 1) 0 ∙ e.long;
        words = rw (deep, e.words) (sym (pile_pop n u s room));
        depth = deep;
      }

  pub top_word : get_or l (d - 1) 0 ≡ s
  top_word = rw (deep, e.words) (pile_top n s u)

  pub stack_some : 0 < d
  stack_some = omega (arith, e.depth)

module _ {n : ℕ} {t : ℕ → ℕ} {l : List ℕ} (e : IsCounts n t l) where
  pub counts_long : length l ≡ n
  counts_long = ap length e.words ∙ tab_long 0 n t

  pub count_word : (s : ℕ) → s < length l → get_or l s 0 ≡ t s
  count_word s h = rw e.words (tab_word n t s 0 (omega (arith, counts_long)))

  pub count : (s v : ℕ) → s < length l → IsCounts n (upd t s v) (set l s v)
  count s v h = record { words = rw e.words (sym (tab_upd n t s v (omega (arith, counts_long)))) }

  pub count_more : (s : ℕ) → s < length l → IsCounts n (upd t s (suc (t s))) (set l s (get_or l s 0 + 1))
  count_more s h = rw (count_word s h, add-one) (count s (suc (t s)) h)

pub ruleset stores = (on, off, only_on, cleared, push, first_on, popped, count, count_more)

pub ruleset reads = (set_test, top_word, stack_some, stack_fits)

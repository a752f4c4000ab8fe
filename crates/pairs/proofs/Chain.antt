-- Laws of chains: the empty ones, one pair more, and the way of a search along one. Where the search stands is 0 or one more than a number of the
-- bucket, and what it has passed holds no such pair.
use Prim.Native.Nat.{ℕ, suc, ◌+◌, ◌<◌, ◌≤◌}
use mathlib.Core.Path.{◌≡◌, refl, sym, ap, ◌∙◌}
use mathlib.Core.Bool.{true, false}
use mathlib.Core.List.{List}
use mathlib.Core.Logic.{◌⊎◌, inl, inr, ◌≢◌}
use lib.Dec.{eqb}
use lib.ListN.{length, get_or, set, replicate, length-set, length-replicate}
use lib.Seq.{get_or-set_same, get_or-set_other}
use native.Mathlib.Nat.{mod-lt}
use native.Mathlib.Numerals.{add-one}
use native.Mathlib.Omega.{arith}
use borrow.Author.Tests.{eqb-true, eq-eqb, ne_eqb}
use Rattle.graphs.proofs.Stamps.{zeroes_at}
use Rattle.graphs.proofs.Tests.{and_cases, same?}
use Rattle.std.proofs.Common.{Some, None}
use Rattle.pairs.specs.Pairs.{last_with, is_pair, found_at, found, buckets, bucket_of, in_bucket, Chain, Lists, lists, inserted}
use Rattle.pairs.proofs.Last.{last_hit, last_miss, last_le, last_at, last_ext, last_skip}

pub bucket_low : (a b : ℕ) → bucket_of a b < buckets
unfolding bucket_of
bucket_low a b = mod-lt _ (omega arith)

-- no pair yet
pub chain_none : (first second head next : List ℕ) → head ≡ replicate buckets 0 → Chain first second head next 0
unfolding last_with
chain_none first second head next zeroes =
    record {
      heads = ap length zeroes ∙ length-replicate {A = ℕ} buckets 0;
      in_first = omega arith;
      in_second = omega arith;
      in_next = omega arith;
      starts = λ h k. ap (λ l. get_or l h 0) zeroes ∙ zeroes_at buckets h;
      goes = λ i k. absurd (omega arith);
    }

-- the pair a, b as number n, which leaves the pairs below n as they are
module _ (first second : List ℕ) (n a b : ℕ) where
  bucket_same : (h i : ℕ) → i < n → in_bucket (set first n a) (set second n b) h i ≡ in_bucket first second h i
  unfolding in_bucket
  bucket_same h i k =
      let ne : i ≢ n = λ e. omega arith in
      rw (get_or-set_other first n i a 0 ne, get_or-set_other second n i b 0 ne)

  last_same : (h m : ℕ) → m ≤ n → last_with (in_bucket (set first n a) (set second n b) h) m ≡ last_with (in_bucket first second h) m
  last_same h m le = last_ext _ _ m (λ i k. bucket_same h i (omega arith))

  pub chain_more : (head next : List ℕ) → Chain first second head next n → n < length first → n < length second → n < length next
      → Chain (set first n a) (set second n b) (set head (bucket_of a b) (n + 1)) (set next n (get_or head (bucket_of a b) 0)) (n + 1)
  unfolding in_bucket
  chain_more head next c in_first in_second in_next =
      record {
        heads = simp length-set c.heads;
        in_first = simp length-set (omega arith);
        in_second = simp length-set (omega arith);
        in_next = simp length-set (omega arith);
        starts = λ h k. start h k (same? (bucket_of a b) h);
        goes = λ i k. go i k (same? i n);
      }
    where
      new : bucket_of (get_or (set first n a) n 0) (get_or (set second n b) n 0) ≡ bucket_of a b
      new = rw (get_or-set_same first n a 0 in_first, get_or-set_same second n b 0 in_second)

      start : (h : ℕ) → h < buckets → (bucket_of a b ≡ h) ⊎ (bucket_of a b ≢ h)
          → get_or (set head (bucket_of a b) (n + 1)) h 0 ≡ last_with (in_bucket (set first n a) (set second n b) h) (n + 1)
      start h k (inl e) =
          rw (add-one, last_hit (in_bucket (set first n a) (set second n b) h) n (eq-eqb _ h (new ∙ e)), e)
          (get_or-set_same head h (suc n) 0 (omega (arith, c.heads)))
      start h k (inr ne) =
          rw (add-one, last_miss (in_bucket (set first n a) (set second n b) h) n (ne_eqb _ h (λ e. ne (sym new ∙ e))))
          (get_or-set_other head _ h (suc n) 0 (λ e. ne (sym e)) ∙ c.starts h k ∙ sym (last_same h n (omega arith)))

      go : (i : ℕ) → i < n + 1 → (i ≡ n) ⊎ (i ≢ n)
          → get_or (set next n (get_or head (bucket_of a b) 0)) i 0
          ≡ last_with (in_bucket (set first n a) (set second n b) (bucket_of (get_or (set first n a) i 0) (get_or (set second n b) i 0))) i
      go i k (inl e) =
          rw (e, new, last_same (bucket_of a b) n (omega arith)) (get_or-set_same next n _ 0 in_next ∙ c.starts (bucket_of a b) (bucket_low a b))
      go i k (inr ne) =
          rw (get_or-set_other first n i a 0 ne, get_or-set_other second n i b 0 ne)
          (get_or-set_other next n i _ 0 ne ∙ c.goes i (omega arith) ∙ sym (last_same _ i (omega arith)))

-- where a pair was put the chains go through it too
pub chain_inserted : (l : Lists) (n a b : ℕ) {first second head next : List ℕ} → lists first second head next ≡ inserted l n a b
    → Chain l.firsts l.seconds l.heads l.nexts n → n < length l.firsts → n < length l.seconds → n < length l.nexts
    → Chain first second head next (n + 1)
chain_inserted l n a b put c in_first in_second in_next =
    rw (ap (λ l. l.firsts) put, ap (λ l. l.seconds) put, ap (λ l. l.heads) put, ap (λ l. l.nexts) put)
    (chain_more l.firsts l.seconds n a b l.heads l.nexts c in_first in_second in_next)

-- where a pair was put there was room for it
pub inserted_room : (l : Lists) (n a b : ℕ) {first second head next : List ℕ} {k : ℕ} → lists first second head next ≡ inserted l n a b → k ≡ n + 1
    → Chain first second head next k → (n < length l.firsts) × (n < length l.seconds)
inserted_room l n a b put more c = (
  omega (arith, more, c.in_first, ap (λ l. length l.firsts) put, length-set l.firsts n a),
  omega (arith, more, c.in_second, ap (λ l. length l.seconds) put, length-set l.seconds n b),
)

-- a search for the pair a, b among the first n has come to j
pub record Way (first second : List ℕ) (a b n j : ℕ) : Type 0 where
  pub same : last_with (is_pair first second a b) j ≡ last_with (is_pair first second a b) n
  pub low : j ≤ n
  pub on : last_with (in_bucket first second (bucket_of a b)) j ≡ j

module _ (first second : List ℕ) (a b : ℕ) where
  pair_bucket : (i : ℕ) → is_pair first second a b i ≡ true → in_bucket first second (bucket_of a b) i ≡ true
  unfolding is_pair in_bucket
  pair_bucket i e =
      let both = and_cases (eqb (get_or first i 0) a) (eqb (get_or second i 0) b) e in
      rw (eqb-true (get_or first i 0) a both.0, eqb-true (get_or second i 0) b both.1) (eq-eqb (bucket_of a b) (bucket_of a b) refl)

  -- from any m with the pairs past it passed, the next number of the bucket
  way_from : (n m : ℕ) → m ≤ n → last_with (is_pair first second a b) m ≡ last_with (is_pair first second a b) n
      → Way first second a b n (last_with (in_bucket first second (bucket_of a b)) m)
  way_from n m le e =
      record {
        same = last_skip (is_pair first second a b) (in_bucket first second (bucket_of a b)) pair_bucket m ∙ e;
        low = omega (arith, last_le (in_bucket first second (bucket_of a b)) m);
        on = last_skip _ _ (λ i t. t) m;
      }

  module _ (head next : List ℕ) (n : ℕ) (c : Chain first second head next n) where
    pub way_start : Way first second a b n (get_or head (bucket_of a b) 0)
    way_start = rw (c.starts (bucket_of a b) (bucket_low a b)) (way_from n n (omega arith) refl)

    -- the next of a number i of the bucket
    next_is : (j i : ℕ) → Way first second a b n j → j ≡ suc i → get_or next i 0 ≡ last_with (in_bucket first second (bucket_of a b)) i
    unfolding in_bucket
    next_is j i w e =
        let here = last_at (in_bucket first second (bucket_of a b)) j i (w.on ∙ e) in
        rw (← eqb-true (bucket_of (get_or first i 0) (get_or second i 0)) (bucket_of a b) here.1) (c.goes i (omega (arith, w.low)))

    pub way_next : (j i : ℕ) → Way first second a b n j → j ≡ suc i → is_pair first second a b i ≡ false → Way first second a b n (get_or next i 0)
    way_next j i w e miss =
        let passed = sym (last_miss (is_pair first second a b) i miss) ∙ ap (last_with (is_pair first second a b)) (sym e) ∙ w.same in
        rw (next_is j i w e) (way_from n i (omega (arith, w.low)) passed)

    pub way_less : (j i : ℕ) → Way first second a b n j → j ≡ suc i → get_or next i 0 < j
    way_less j i w e = omega (arith, next_is j i w e, last_le (in_bucket first second (bucket_of a b)) i)

  pub way_found : (n j i : ℕ) → Way first second a b n j → j ≡ suc i → is_pair first second a b i ≡ true → Some i ≡ found (is_pair first second a b) n
  unfolding found
  way_found n j i w e hit =
      ap found_at (sym (last_hit (is_pair first second a b) i hit) ∙ ap (last_with (is_pair first second a b)) (sym e) ∙ w.same)

  pub way_end : (n j : ℕ) → Way first second a b n j → j ≡ 0 → None ≡ found (is_pair first second a b) n
  unfolding found last_with
  way_end n j w e =
      ap found_at (ap (last_with (is_pair first second a b)) (sym e) ∙ w.same)

-- Numbered pairs of words, first and second, looked up through chains. A chain goes through the numbers whose pairs are of one bucket, from the
-- last to the first: the head of a bucket is one more than its last number, the next of a number one more than the last before it of its bucket,
-- and 0 ends a chain. That all numbers between are of another bucket is the whole invariant.
use Rattle.std.specs.Prelude.{ℕ, zero, suc, ◌+◌, ◌*◌, ◌%◌, ◌<◌, ◌≤◌, ◌≡◌, Bool, cond, ◌&&◌, Option, Some, None, List, ◌==◌, length, get_or, set}

-- one more than the last number below n that passes the test; 0 if none does
unfoldable pub last_with : (ℕ → Bool) → ℕ → ℕ
last_with f zero = 0
last_with f (suc n) = cond (f n) (suc n) (last_with f n)

-- the pair of number i is a, b
unfoldable pub is_pair : List ℕ → List ℕ → ℕ → ℕ → ℕ → Bool
is_pair first second a b i = get_or first i 0 == a && get_or second i 0 == b

-- the last number below n that passes the test
abbrev pub found_at : ℕ → Option ℕ
found_at zero = None
found_at (suc i) = Some i

unfoldable pub found : (ℕ → Bool) → ℕ → Option ℕ
found f n = found_at (last_with f n)

-- the bucket of a pair. Any rule would do: which pairs share a bucket says nothing of what is found.
abbrev pub buckets : ℕ
buckets = 16384

unfoldable pub bucket_of : ℕ → ℕ → ℕ
bucket_of a b = (a % 65521 * 4099 + b % 65521) % buckets

-- the pair of number i is of bucket h
unfoldable pub in_bucket : List ℕ → List ℕ → ℕ → ℕ → Bool
in_bucket first second h i = bucket_of (get_or first i 0) (get_or second i 0) == h

-- the four lists: the pairs, and the chains through them
pub record Lists : Type 0 where
  pub firsts : List ℕ
  pub seconds : List ℕ
  pub heads : List ℕ
  pub nexts : List ℕ

abbrev pub lists : (first second head next : List ℕ) → Lists
lists first second head next = record { firsts = first; seconds = second; heads = head; nexts = next }

-- the pair a, b becomes number n, at the front of its chain
abbrev pub inserted : Lists → ℕ → ℕ → ℕ → Lists
inserted l n a b =
    let h = bucket_of a b in
    record { firsts = set l.firsts n a; seconds = set l.seconds n b; heads = set l.heads h (n + 1); nexts = set l.nexts n (get_or l.heads h 0) }

pub record Chain (first second head next : List ℕ) (n : ℕ) : Type 0 where
  pub heads : length head ≡ buckets
  pub in_first : n ≤ length first
  pub in_second : n ≤ length second
  pub in_next : n ≤ length next
  pub starts : (h : ℕ) → h < buckets → get_or head h 0 ≡ last_with (in_bucket first second h) n
  pub goes : (i : ℕ) → i < n → get_or next i 0 ≡ last_with (in_bucket first second (bucket_of (get_or first i 0) (get_or second i 0))) i

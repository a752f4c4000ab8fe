-- A worker's order of looking shows every successor and nothing else, once for each transition, and which stands at each place of it; so a graph
-- with 01's order is sound, whatever gives its successors.
use Rattle.std.proofs.Common.{ℕ, ◌+◌, ◌<◌, ◌%◌, ◌≡◌, ap, ◌∙◌, Bool, List, ◌++◌, ◌⊎◌, inl, inr, length, take, drop, length-append, take-append-drop, arith}
use Rattle.std.specs.Prelude.{◌-◌, if◌then◌else◌, nat_lt, get_or}
use borrow.Author.Tests.{ltb-true, ltb-false}
use lib.ListN.{length-drop, get_or-append}
use lib.Seq.{get_or-take, get_or-drop, get_or-append-add}
use native.Mathlib.Nat.{mod-lt}
use Rattle.graphs.specs.Lists.{Mem}
use Rattle.graphs.specs.Graph.{graph, turned, Sound}
use Rattle.graphs.proofs.Tests.{cond_ind}
use Rattle.graphs.proofs.Member.{mem_left, mem_right, mem_cases, mem_take, mem_drop}

pub turned_seen : (p : ℕ) (l : List ℕ) (x : ℕ) → Mem x (turned p l) → Mem x l
unfolding turned
turned_seen p l x h = go (mem_cases x (drop (p % length l) l) (take (p % length l) l) h)
  where
    go : Mem x (drop (p % length l) l) ⊎ Mem x (take (p % length l) l) → Mem x l
    go (inl m) = mem_drop x (p % length l) l m
    go (inr m) = mem_take x (p % length l) l m

pub turned_shown : (p : ℕ) (l : List ℕ) (x : ℕ) → Mem x l → Mem x (turned p l)
unfolding turned
turned_shown p l x h = go (mem_cases x (take (p % length l) l) (drop (p % length l) l) (rw take-append-drop h))
  where
    go : Mem x (take (p % length l) l) ⊎ Mem x (drop (p % length l) l) → Mem x (drop (p % length l) l ++ take (p % length l) l)
    go (inl m) = mem_right x (drop (p % length l) l) (take (p % length l) l) m
    go (inr m) = mem_left x (drop (p % length l) l) (take (p % length l) l) m

pub turned_long : (p : ℕ) (l : List ℕ) → length (turned p l) ≡ length l
unfolding turned
turned_long p l =
    let k = p % length l in
    omega (arith, length-append (drop k l) (take k l), length-append (take k l) (drop k l), ap length (take-append-drop k l))

-- 01: "starting at number p mod d and going round once": what stands at number k of it
pub turned_at : (p k : ℕ) (l : List ℕ) → k < length l
    → get_or (turned p l) k 0
    ≡ get_or l (if nat_lt (p % length l + k) (length l) then p % length l + k else p % length l + k - length l) 0
unfolding turned
turned_at p k l h =
    let d = length l in
    let r = p % d in
    let less : r < d = mod-lt p {m = d} (omega arith) in
    cond_ind (λ i. get_or (drop r l ++ take r l) k 0 ≡ get_or l i 0) (nat_lt (r + k) d)
    (λ t. get_or-append (drop r l) (take r l) 0 k (simp length-drop (omega (arith, ltb-true (r + k) d t))) ∙ get_or-drop r l k 0)
    (λ t.
    let back = ltb-false (r + k) d t in
    let at : k ≡ length (drop r l) + (k - (d - r)) = simp length-drop (omega arith) in
    ap (λ j. get_or (drop r l ++ take r l) j 0) at
    ∙ get_or-append-add (drop r l) (take r l) (k - (d - r)) 0
    ∙ get_or-take r l (k - (d - r)) 0 (omega arith)
    ∙ ap (λ i. get_or l i 0) (omega arith))

pub graph_sound : (n : ℕ) (next : ℕ → List ℕ) (accepting : ℕ → Bool)
    → 0 < n → ((s t : ℕ) → s < n → Mem t (next s) → t < n) → Sound (graph n next accepting)
unfolding graph
graph_sound n next accepting some bound =
    record {
      first = some;
      bound = bound;
      seen = λ p s t. turned_seen p (next s) t;
      shown = λ p s t. turned_shown p (next s) t;
      long = λ p s. turned_long p (next s);
    }

-- The words of a graph: offsets, targets and flags, as lists of numbers. What graph they give, and which words are one (refusal 10).
use Rattle.std.specs.Prelude.{ℕ, ◌+◌, ◌-◌, Bool, not, ◌&&◌, List, nat_le, nat_lt, ◌==◌, length, get_or, take, drop}
use Rattle.graphs.specs.Lists.{every, repeats}
use Rattle.graphs.specs.Graph.{Graph, graph}

-- the successors of s: the targets from its offset to the next one
unfoldable pub successors : List ℕ → List ℕ → ℕ → List ℕ
successors offsets targets s = take (get_or offsets (s + 1) 0 - get_or offsets s 0) (drop (get_or offsets s 0) targets)

unfoldable pub marked : List ℕ → ℕ → Bool
marked flags s = get_or flags s 0 == 1

unfoldable pub graph_of : List ℕ → List ℕ → List ℕ → Graph
graph_of offsets targets flags = graph (length flags) (successors offsets targets) (marked flags)

abbrev pub most_states : ℕ
most_states = 4096

abbrev pub most_transitions : ℕ
most_transitions = 16384

-- 01: "N, the length of the flags, is 1 to 4,096; E, the length of the targets, is at most 16,384"
unfoldable pub sizes_fit : ℕ → ℕ → Bool
sizes_fit n e = nat_le 1 n && nat_le n most_states && nat_le e most_transitions

-- 01: "there are N+1 offsets, first 0, last E"
unfoldable pub offsets_span : List ℕ → ℕ → ℕ → Bool
offsets_span offsets n e = length offsets == n + 1 && get_or offsets 0 0 == 0 && get_or offsets n 0 == e

-- 01: "never falling"
unfoldable pub never_falling : List ℕ → ℕ → Bool
never_falling offsets n = every n (λ s. nat_le (get_or offsets s 0) (get_or offsets (s + 1) 0))

-- 01: "every target is below N", "every flag is 0 or 1"
unfoldable pub all_below : List ℕ → ℕ → Bool
all_below words bound = every (length words) (λ k. nat_lt (get_or words k 0) bound)

-- 01: "no state has the same target twice"
unfoldable pub none_twice : List ℕ → List ℕ → ℕ → Bool
none_twice offsets targets n = every n (λ s. not (repeats (successors offsets targets s)))

-- 01: "Words are a graph if .."; refusal 10 is given exactly when this is false
unfoldable pub is_graph : List ℕ → List ℕ → List ℕ → Bool
is_graph offsets targets flags =
    let n = length flags in
    let e = length targets in
    sizes_fit n e
    && offsets_span offsets n e
    && never_falling offsets n
    && all_below targets n
    && none_twice offsets targets n
    && all_below flags 2

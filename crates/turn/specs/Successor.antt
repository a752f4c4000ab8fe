-- The successor that a worker takes next, read from the words of a graph.
use Rattle.std.specs.Prelude.{ℕ, ◌+◌, ◌-◌, ◌<◌, ◌≤◌, ◌%◌, if◌then◌else◌, Option, Some, None, List, nat_lt, length, get_or}

-- the offsets of s and s + 1 bound a part of the targets
pub record Row (offsets targets : List ℕ) (s : ℕ) : Type 0 where
  pub inside : s + 1 < length offsets
  pub rises : get_or offsets s 0 ≤ get_or offsets (s + 1) 0
  pub ends : get_or offsets (s + 1) 0 ≤ length targets

-- 01: "starting at number p mod d and going round once": the place, in the order of T lines, of number k
unfoldable pub rotation : ℕ → ℕ → ℕ → ℕ
rotation p d k = if nat_lt (p % d + k) d then p % d + k else p % d + k - d

unfoldable pub successor_in : List ℕ → List ℕ → ℕ → ℕ → ℕ → Option ℕ
successor_in offsets targets p s k =
    let from = get_or offsets s 0 in
    let d = get_or offsets (s + 1) 0 - from in
    if nat_lt k d then Some (get_or targets (from + rotation p d k) 0) else None

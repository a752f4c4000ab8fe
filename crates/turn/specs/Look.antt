-- The move that the words of the room and of the graph give worker p, whose stretch starts at a: the moves of 01, read word by word.
use Rattle.std.specs.Prelude.{ℕ, ◌+◌, ◌-◌, ◌*◌, ◌<◌, ◌≤◌, ◌≡◌, Bool, true, if◌then◌else◌, not, ◌&&◌, ◌||◌, Option, Some, None, List, ◌==◌, length, get_or}
use Rattle.graphs.specs.Lists.{every}
use Rattle.graphs.specs.Words.{is_graph}
use Rattle.moves.specs.declared.Place.{Place}
use Rattle.moves.specs.declared.Place.TheVariants.{Fresh, Outer, Inner, Waiting, Done}
use Rattle.moves.specs.declared.Move.{Move}
use Rattle.moves.specs.declared.Move.TheVariants.{Start, Skip, Enter, Leave, Seed, Hit, Pass, Join, Back, Paint, Wait, Rest}
use Rattle.moves.specs.declared.own.Own.{Own}
use Rattle.moves.specs.Room.{stretch}
use Rattle.turn.specs.Successor.{successor_in}

-- the words are a graph, and the room holds the shared colours and, from a on, a stretch
pub record Inside (offsets targets flags : List ℕ) (a : ℕ) (l : List ℕ) : Type 0 where
  pub graph : is_graph offsets targets flags ≡ true
  pub after : 2 * length flags ≤ a
  pub inside : a + stretch (length flags) ≤ length l

-- the stack whose words start at b is some words deep, and its top is a state
pub record ToppedAt (n b depth : ℕ) (l : List ℕ) : Type 0 where
  pub some : 0 < depth
  pub deep : depth ≤ n
  pub top : get_or l (b + (depth - 1)) 0 < n

-- the stack of the search that the worker is in
abbrev pub TopOf : ℕ → ℕ → Own → List ℕ → Place → Type 0
TopOf n a own l Fresh = Unit {0}
TopOf n a own l Outer = ToppedAt n (a + 2 * n) own.outer l
TopOf n a own l (Inner z) = ToppedAt n (a + 3 * n) own.inner l
TopOf n a own l (Waiting z) = Unit {0}
TopOf n a own l Done = Unit {0}

pub record Ready (offsets targets flags : List ℕ) (a : ℕ) (own : Own) (l : List ℕ) : Type 0 where
  pub within : Inside offsets targets flags a l
  pub topped : TopOf (length flags) a own l own.place

-- moves 2 and 3
unfoldable pub outer_taken : ℕ → ℕ → ℕ → List ℕ → Move
outer_taken a s x l = if get_or l (a + x) 0 == 1 || get_or l x 0 == 1 then Skip s else Enter s x

unfoldable pub outer_ended : List ℕ → ℕ → Move
outer_ended flags s = if get_or flags s 0 == 1 then Seed s else Leave s

abbrev pub on_next : Option ℕ → Move → (ℕ → Move) → Move
on_next (Some x) none some = some x
on_next None none some = none

unfoldable pub outer_move : (offsets targets flags : List ℕ) (a p depth : ℕ) → List ℕ → Move
outer_move offsets targets flags a p depth l =
    let n = length flags in
    let s = get_or l (a + 2 * n + (depth - 1)) 0 in
    on_next (successor_in offsets targets p s (get_or l (a + 4 * n + s) 0)) (outer_ended flags s) (λ x. outer_taken a s x l)

-- moves 4 and 5
unfoldable pub inner_taken : ℕ → ℕ → ℕ → ℕ → List ℕ → Move
inner_taken n a s x l =
    if get_or l (a + x) 0 == 1 then Hit s x
    else if get_or l (a + n + x) 0 == 1 || get_or l (n + x) 0 == 1 then Pass s
    else Join s x

unfoldable pub inner_move : (offsets targets flags : List ℕ) (a p depth z : ℕ) → List ℕ → Move
inner_move offsets targets flags a p depth z l =
    let n = length flags in
    let s = get_or l (a + 3 * n + (depth - 1)) 0 in
    on_next (successor_in offsets targets p s (get_or l (a + 4 * n + s) 0)) (Back z s) (λ x. inner_taken n a s x l)

-- move 6
unfoldable pub passes : ℕ → ℕ → Bool → ℕ → Bool
passes held flag seed red = not (held == 1 && flag == 1 && not seed) || red == 1

unfoldable pub others_red_in : List ℕ → ℕ → ℕ → List ℕ → Bool
others_red_in flags a z l =
    let n = length flags in
    every n (λ i. passes (get_or l (a + n + i) 0) (get_or flags i 0) (i == z) (get_or l (n + i) 0))

unfoldable pub waiting_move : List ℕ → ℕ → ℕ → List ℕ → Move
waiting_move flags a z l = if others_red_in flags a z l then Paint z else Wait

-- 01: "A turn makes one move"
abbrev pub chosen_at : (offsets targets flags : List ℕ) (a p : ℕ) → Own → List ℕ → Place → Move
chosen_at offsets targets flags a p own l Fresh = Start
chosen_at offsets targets flags a p own l Outer = outer_move offsets targets flags a p own.outer l
chosen_at offsets targets flags a p own l (Inner z) = inner_move offsets targets flags a p own.inner z l
chosen_at offsets targets flags a p own l (Waiting z) = waiting_move flags a z l
chosen_at offsets targets flags a p own l Done = Rest

abbrev pub chosen : (offsets targets flags : List ℕ) (a p : ℕ) → Own → List ℕ → Move
chosen offsets targets flags a p own l = chosen_at offsets targets flags a p own l own.place

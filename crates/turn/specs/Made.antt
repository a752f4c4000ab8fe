-- What making a move writes in the room l of n states: the stretch that starts at a, and the shared colours.
use Rattle.std.specs.Prelude.{ℕ, zero, suc, ◌+◌, ◌*◌, ◌<◌, ◌≤◌, List, ◌++◌, length, get_or, set, take, drop}
use Rattle.std.specs.Int.Bits.{bit_or}
use Rattle.moves.specs.declared.Move.{Move}
use Rattle.moves.specs.declared.Move.TheVariants.{Start, Skip, Enter, Leave, Seed, Hit, Pass, Join, Back, Paint, Wait, Rest}
use Rattle.moves.specs.Room.{stretch}
use Rattle.moves.specs.declared.own.Own.{Own}
use Rattle.turn.specs.Stores.{start_words, take_words, enter_words, leave_words, seed_words, join_words, back_words, paint_words}

-- the stretch of l that starts at a; and l with f made of it
abbrev pub stretch_in : ℕ → ℕ → List ℕ → List ℕ
stretch_in n a l = take (stretch n) (drop a l)

abbrev pub on_stretch : ℕ → ℕ → (List ℕ → List ℕ) → List ℕ → List ℕ
on_stretch n a f l = take a l ++ (f (stretch_in n a l) ++ drop (stretch n) (drop a l))

-- the first i states that R holds become red
unfoldable pub dyed_to : ℕ → ℕ → ℕ → List ℕ → List ℕ
dyed_to n a zero l = l
dyed_to n a (suc i) l = let k = dyed_to n a i l in set k (n + i) (bit_or (get_or k (n + i) 0) (get_or k (a + n + i) 0))

unfoldable pub made_words : ℕ → ℕ → Own → Move → List ℕ → List ℕ
made_words n a own Start l = on_stretch n a (start_words n own) l
made_words n a own (Skip s) l = on_stretch n a (take_words n s) l
made_words n a own (Enter s x) l = on_stretch n a (enter_words n own s x) l
made_words n a own (Leave s) l = set (on_stretch n a (leave_words n own s) l) s 1
made_words n a own (Seed s) l = set (on_stretch n a (seed_words n own s) l) s 1
made_words n a own (Hit s x) l = on_stretch n a (take_words n s) l
made_words n a own (Pass s) l = on_stretch n a (take_words n s) l
made_words n a own (Join s x) l = on_stretch n a (join_words n own s x) l
made_words n a own (Back z s) l = on_stretch n a (back_words n own s) l
made_words n a own (Paint z) l = on_stretch n a (paint_words n own z) (dyed_to n a n l)
made_words n a own Wait l = l
made_words n a own Rest l = l

-- the room has a stretch at a, after the shared colours
pub record Lends (n a : ℕ) (l : List ℕ) : Type 0 where
  pub few : n ≤ 4096
  pub after : 2 * n ≤ a
  pub inside : a + stretch n ≤ length l

-- the count of s can be raised
abbrev pub Counts : ℕ → ℕ → List ℕ → Type 0
Counts n s t = get_or t (4 * n + s) 0 < 65535

-- what each move asks
abbrev pub Pops : ℕ → ℕ → ℕ → Type 0
Pops n s depth = (s < n) × (0 < depth) × (depth ≤ n)

abbrev pub Takes : ℕ → ℕ → ℕ → List ℕ → Type 0
Takes n a s l = (s < n) × Counts n s (stretch_in n a l)

abbrev pub Asks : ℕ → ℕ → Own → Move → List ℕ → Type 0
Asks n a own Start l = 0 < n
Asks n a own (Skip s) l = Takes n a s l
Asks n a own (Enter s x) l = Takes n a s l × (x < n) × (own.outer < n)
Asks n a own (Leave s) l = Pops n s own.outer
Asks n a own (Seed s) l = s < n
Asks n a own (Hit s x) l = Takes n a s l
Asks n a own (Pass s) l = Takes n a s l
Asks n a own (Join s x) l = Takes n a s l × (x < n) × (own.inner < n)
Asks n a own (Back z s) l = Pops n s own.inner
Asks n a own (Paint z) l = Pops n z own.outer
Asks n a own Wait l = Unit {0}
Asks n a own Rest l = Unit {0}

pub record Fit (n a : ℕ) (own : Own) (made : Move) (l : List ℕ) : Type 0 where
  pub lends : Lends n a l
  pub asks : Asks n a own made l

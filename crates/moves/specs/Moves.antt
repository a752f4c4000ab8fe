-- The moves of 01, one definition each, in 01's order and words; and a turn, which makes the one move that the rules give worker p.
use Rattle.std.specs.Prelude.{ℕ, Bool, if◌then◌else◌, not, ◌&&◌, ◌||◌, List, [], ◌∷◌, ◌==◌, drop}
use Rattle.graphs.specs.Lists.{every}
use Rattle.graphs.specs.Graph.{Graph}
use Rattle.moves.specs.declared.Place.{Place}
use Rattle.moves.specs.declared.Place.TheVariants.{Fresh, Outer, Inner, Waiting, Done}
use Rattle.moves.specs.declared.Move.{Move}
use Rattle.moves.specs.declared.Move.TheVariants.{Start, Skip, Enter, Leave, Seed, Hit, Pass, Join, Back, Paint, Wait, Rest}
use Rattle.moves.specs.Place.{left, painted}
use Rattle.moves.specs.Machine.{Worker, Machine, empty}
use Rattle.moves.specs.Changes.{is_empty, starts, takes, enters, pops, seeds, joins, backs, put, put_blue, put_red}

-- what a turn makes: its move, and the machine after it
pub record Made : Type 0 where
  pub move : Move
  pub machine : Machine

-- the first of a list and the rest of it; or that there is none
abbrev pub on_first : List ℕ → Made → (ℕ → List ℕ → Made) → Made
on_first [] none some = none
on_first (x ∷ l) none some = some x l

module _ (g : Graph) (p : ℕ) (m : Machine) where
  abbrev pub me : Worker
  me = m.worker p

  -- the successors of s that are left, in p's order of looking
  abbrev pub remaining : ℕ → List ℕ
  remaining s = drop (me.taken s) (g.order p s)

  -- every accepting state of R other than the seed z is red
  unfoldable pub others_red : ℕ → Bool
  others_red z = every g.size (λ a. not (me.R a && g.accepting a && not (a == z)) || m.red a)

  -- 01: "1. Not started: the initial state becomes cyan and the outer stack's only entry, blue or not."
  unfoldable pub move_1 : Made
  move_1 = record { move = Start; machine = put m p (starts me) }

  -- 01: "2. Outer, a successor left: take it. If it is neither cyan for p nor blue, it becomes cyan and goes on the stack."
  unfoldable pub move_2 : ℕ → ℕ → Made
  move_2 s x =
      if me.cyan x || m.blue x then record { move = Skip s; machine = put m p (takes me s) }
      else record { move = Enter s x; machine = put m p (enters me s x) }

  -- 01: "3. Outer, none left: the top becomes blue. If not accepting, it loses cyan and leaves the stack; an empty stack means done. If
  -- accepting, it becomes the seed, R holds only it, and it starts the inner stack, red or not."
  unfoldable pub move_3 : ℕ → List ℕ → Made
  move_3 s u =
      if g.accepting s then record { move = Seed s; machine = put_blue m p (seeds me s) s }
      else record { move = Leave s; machine = put_blue m p (pops me s u (left Outer (is_empty u)) me.R) s }

  -- 01: "4. Inner, a successor left: take it. If cyan for p, the answer is "cycle". Else, if neither in R nor red, it joins R and the inner
  -- stack."
  unfoldable pub move_4 : ℕ → ℕ → Made
  move_4 s x =
      if me.cyan x then record { move = Hit s x; machine = put m p (takes me s) }
      else if me.R x || m.red x then record { move = Pass s; machine = put m p (takes me s) }
      else record { move = Join s x; machine = put m p (joins me s x) }

  -- 01: "5. Inner, none left: the top leaves; an empty inner stack means waiting."
  unfoldable pub move_5 : ℕ → ℕ → List ℕ → Made
  move_5 z s u = record { move = Back z s; machine = put m p (backs me z s u) }

  -- 01: "6. Waiting: if every accepting state of R other than the seed is red, all of R becomes red at once, R is emptied, the seed loses cyan
  -- and leaves the outer stack; an empty stack means done. Otherwise nothing changes (a wait)."
  unfoldable pub move_6 : ℕ → List ℕ → Made
  move_6 z u =
      if others_red z then record { move = Paint z; machine = put_red m p (pops me z u (painted (Waiting z) (is_empty u)) empty) }
      else record { move = Wait; machine = m }

  -- 01: "7. Done: nothing changes."
  unfoldable pub move_7 : Made
  move_7 = record { move = Rest; machine = m }

  -- 01: "A turn makes one move". A worker in a search has a stack (proved in theory), so that nothing happens without one is never used.
  unfoldable pub turn_at : Place → Made
  turn_at Fresh = move_1
  turn_at Outer = on_first me.outer move_7 (λ s u. on_first (remaining s) (move_3 s u) (λ x l. move_2 s x))
  turn_at (Inner z) = on_first me.inner move_7 (λ s u. on_first (remaining s) (move_5 z s u) (λ x l. move_4 s x))
  turn_at (Waiting z) = on_first me.outer move_7 (λ s u. move_6 z u)
  turn_at Done = move_7

  unfoldable pub turn : Made
  turn = turn_at me.place

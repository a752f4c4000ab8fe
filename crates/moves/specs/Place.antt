-- A worker's place, and what each move that changes it makes of it. A place that the move is not for stays as it is.
use Rattle.std.specs.Prelude.{ℕ, Bool, true, false, if◌then◌else◌}
use Rattle.moves.specs.declared.Place.{Place}
use Rattle.moves.specs.declared.Place.TheVariants.{Fresh, Outer, Inner, Waiting, Done}

-- move 1
abbrev pub started : Place → Place
started Fresh = Outer
started Outer = Outer
started (Inner z) = Inner z
started (Waiting z) = Waiting z
started Done = Done

-- move 3, not accepting: "it loses cyan and leaves the stack; an empty stack means done"
abbrev pub left : Place → Bool → Place
left Fresh last = Fresh
left Outer last = if last then Done else Outer
left (Inner z) last = Inner z
left (Waiting z) last = Waiting z
left Done last = Done

-- move 3, accepting: "it becomes the seed"
abbrev pub seeded : Place → ℕ → Place
seeded Fresh top = Fresh
seeded Outer top = Inner top
seeded (Inner z) top = Inner z
seeded (Waiting z) top = Waiting z
seeded Done top = Done

-- move 5: "the top leaves; an empty inner stack means waiting"
abbrev pub backed : Place → Bool → Place
backed Fresh last = Fresh
backed Outer last = Outer
backed (Inner z) last = if last then Waiting z else Inner z
backed (Waiting z) last = Waiting z
backed Done last = Done

-- move 6: "the seed .. leaves the outer stack; an empty stack means done"
abbrev pub painted : Place → Bool → Place
painted Fresh last = Fresh
painted Outer last = Outer
painted (Inner z) last = Inner z
painted (Waiting z) last = if last then Done else Outer
painted Done last = Done

abbrev pub is_done : Place → Bool
is_done Fresh = false
is_done Outer = false
is_done (Inner z) = false
is_done (Waiting z) = false
is_done Done = true

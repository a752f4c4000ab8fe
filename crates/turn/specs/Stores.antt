-- What each move stores in its worker's stretch t of n states. The words of t are, n of each, cyan, R, the outer stack, the inner stack and the
-- counts of taken successors; then the place's kind and seed, and the depths of the two stacks. `words` has those of a stretch that is cut into its
-- parts, in one piece again.
use Rattle.std.specs.Prelude.{ℕ, ◌+◌, ◌-◌, ◌*◌, ◌==◌, List, [], ◌∷◌, ◌++◌, get_or, set, take, drop, replicate}
use Rattle.moves.specs.declared.Place.{Place}
use Rattle.moves.specs.Place.{started, left, seeded, backed, painted}
use Rattle.moves.specs.Room.{kind_word, seed_word}
use Rattle.moves.specs.declared.own.Own.{Own}
use Rattle.turn.specs.declared.stretch.Stretch.{Stretch}

-- the place and the depths that go with the parts
abbrev pub own_in_parts : Stretch → Own
own_in_parts k = record { place = k.place; outer = k.outer_depth; inner = k.inner_depth }

-- the words of the parts
abbrev pub words : Stretch → List ℕ
words k =
    k.cyan.now
    ++ (k.gathered.now
    ++ (k.outer.now ++ (k.inner.now ++ (k.taken.now ++ (kind_word k.place ∷ seed_word k.place ∷ k.outer_depth ∷ k.inner_depth ∷ [])))))

unfoldable pub put_words : ℕ → Own → List ℕ → List ℕ
put_words n own t =
    set (set (set (set t (5 * n) (kind_word own.place)) (5 * n + 1) (seed_word own.place)) (5 * n + 2) own.outer) (5 * n + 3) own.inner

-- move 1
unfoldable pub start_words : ℕ → Own → List ℕ → List ℕ
start_words n own t = put_words n (record { place = started own.place; outer = 1; inner = own.inner }) (set (set t 0 1) (2 * n) 0)

-- a successor of s is taken
unfoldable pub take_words : ℕ → ℕ → List ℕ → List ℕ
take_words n s t = set t (4 * n + s) (get_or t (4 * n + s) 0 + 1)

-- move 2
unfoldable pub enter_words : ℕ → Own → ℕ → ℕ → List ℕ → List ℕ
enter_words n own s x t = set (set (set (take_words n s t) x 1) (2 * n + own.outer) x) (5 * n + 2) (own.outer + 1)

-- s loses cyan and leaves the outer stack; the place is q then
unfoldable pub pop_words : ℕ → Own → ℕ → Place → List ℕ → List ℕ
pop_words n own s q t =
    put_words n (record { place = q; outer = own.outer - 1; inner = own.inner })
    (set (set (set t s 0) (2 * n + (own.outer - 1)) 0) (4 * n + s) 0)

-- move 3
unfoldable pub leave_words : ℕ → Own → ℕ → List ℕ → List ℕ
leave_words n own s t = pop_words n own s (left own.place (own.outer == 1)) t

unfoldable pub seed_words : ℕ → Own → ℕ → List ℕ → List ℕ
seed_words n own s t =
    put_words n (record { place = seeded own.place s; outer = own.outer; inner = 1 }) (set (set (set t (n + s) 1) (3 * n) s) (4 * n + s) 0)

-- move 4
unfoldable pub join_words : ℕ → Own → ℕ → ℕ → List ℕ → List ℕ
join_words n own s x t = set (set (set (take_words n s t) (n + x) 1) (3 * n + own.inner) x) (5 * n + 3) (own.inner + 1)

-- move 5
unfoldable pub back_words : ℕ → Own → ℕ → List ℕ → List ℕ
back_words n own s t =
    put_words n (record { place = backed own.place (own.inner - 1 == 0); outer = own.outer; inner = own.inner - 1 })
    (set (set t (3 * n + (own.inner - 1)) 0) (4 * n + s) 0)

-- move 6: R is emptied
unfoldable pub clear_words : ℕ → List ℕ → List ℕ
clear_words n t = take n t ++ (replicate n 0 ++ drop n (drop n t))

unfoldable pub paint_words : ℕ → Own → ℕ → List ℕ → List ℕ
paint_words n own z t = pop_words n own z (painted own.place (own.outer == 1)) (clear_words n t)

-- Stem and loop, read from the stacks of the stretch that starts at a in the room l of n states.
use Rattle.std.specs.Prelude.{ℕ, zero, suc, ◌+◌, ◌-◌, ◌*◌, ◌<◌, ◌≤◌, cond, List, ◌++◌, eqb, length, get_or, take, drop}
use Rattle.moves.specs.Room.{stretch}
use Rattle.ends.specs.declared.Outcome.{Outcome}
use Rattle.ends.specs.declared.Outcome.TheVariants.{Cycle}

-- the depths of the two stacks, and their words, bottom first
abbrev pub outer_depth : ℕ → ℕ → List ℕ → ℕ
outer_depth n a l = get_or l (a + 5 * n + 2) 0

abbrev pub inner_depth : ℕ → ℕ → List ℕ → ℕ
inner_depth n a l = get_or l (a + 5 * n + 3) 0

abbrev pub outer_words : ℕ → ℕ → List ℕ → List ℕ
outer_words n a l = take (outer_depth n a l) (drop (a + 2 * n) l)

-- without the seed, which is the inner stack's bottom
abbrev pub inner_words : ℕ → ℕ → List ℕ → List ℕ
inner_words n a l = take (inner_depth n a l - 1) (drop (a + 3 * n + 1) l)

-- the place of x among the first i words, looking from the last of them down; 0 if it is not there
unfoldable pub place_down : ℕ → ℕ → List ℕ → ℕ
place_down zero x l = 0
place_down (suc i) x l = cond (eqb (get_or l i 0) x) i (place_down i x l)

-- the room has a stretch at a, and stacks that fit it and the lasso room
pub record Stacked (n a : ℕ) (l lasso : List ℕ) : Type 0 where
  pub few : n ≤ 4096
  pub inside : a + stretch n ≤ length l
  pub outer_fits : outer_depth n a l ≤ n
  pub inner_fits : inner_depth n a l ≤ n
  pub seeded : 0 < inner_depth n a l
  pub lasso_fits : 2 * n ≤ length lasso

unfoldable pub lasso_in : ℕ → ℕ → List ℕ → List ℕ → List ℕ
lasso_in n a l lasso = outer_words n a l ++ (inner_words n a l ++ drop (outer_depth n a l + (inner_depth n a l - 1)) lasso)

-- what is told: stem and loop are all these words, parted where x stands on the outer stack
unfoldable pub found_in : ℕ → ℕ → ℕ → ℕ → List ℕ → Outcome
found_in n a x used l =
    let stem = place_down (length (outer_words n a l)) x (outer_words n a l) in
    Cycle stem (outer_depth n a l + (inner_depth n a l - 1) - stem) used

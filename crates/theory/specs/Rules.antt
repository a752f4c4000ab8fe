-- The moves of 01 as a relation: what a turn of worker p makes of the machine m, one line for each way a rule can go, with the conditions under
-- which it goes so. A proof about all moves goes by these lines.
use Rattle.std.specs.Prelude.{ℕ, ◌≡◌, true, false, ◌||◌, List, [], ◌∷◌}
use Rattle.graphs.specs.Graph.{Graph}
use Rattle.moves.specs.declared.Place.{Place}
use Rattle.moves.specs.declared.Place.TheVariants.{Fresh, Outer, Inner, Waiting, Done}
use Rattle.moves.specs.declared.Move.TheVariants.{Start, Skip, Enter, Leave, Seed, Hit, Pass, Join, Back, Paint, Wait, Rest}
use Rattle.moves.specs.Place.{left, painted}
use Rattle.moves.specs.Machine.{Machine, empty}
use Rattle.moves.specs.Changes.{is_empty, starts, takes, enters, pops, seeds, joins, backs, put, put_blue, put_red}
use Rattle.moves.specs.Moves.{Made, remaining, others_red}

-- worker p's place is q; its outer stack, or its inner one, is s on u
abbrev pub At : ℕ → Machine → Place → Type 0
At p m q = (m.worker p).place ≡ q

abbrev pub Outermost : ℕ → Machine → ℕ → List ℕ → Type 0
Outermost p m s u = (m.worker p).outer ≡ s ∷ u

abbrev pub Innermost : ℕ → Machine → ℕ → List ℕ → Type 0
Innermost p m s u = (m.worker p).inner ≡ s ∷ u

pub data Rule (g : Graph) (p : ℕ) (m : Machine) : Made → Type 0 where
  by_start : At p m Fresh → Rule g p m (record { move = Start; machine = put m p (starts (m.worker p)) })
  by_skip : {s x : ℕ} {u l : List ℕ} → At p m Outer → Outermost p m s u → remaining g p m s ≡ x ∷ l
      → ((m.worker p).cyan x || m.blue x) ≡ true
      → Rule g p m (record { move = Skip s; machine = put m p (takes (m.worker p) s) })
  by_enter : {s x : ℕ} {u l : List ℕ} → At p m Outer → Outermost p m s u → remaining g p m s ≡ x ∷ l
      → ((m.worker p).cyan x || m.blue x) ≡ false
      → Rule g p m (record { move = Enter s x; machine = put m p (enters (m.worker p) s x) })
  by_leave : {s : ℕ} {u : List ℕ} → At p m Outer → Outermost p m s u → remaining g p m s ≡ []
      → g.accepting s ≡ false
      → Rule g p m (record { move = Leave s; machine = put_blue m p (pops (m.worker p) s u (left Outer (is_empty u)) (m.worker p).R) s })
  by_seed : {s : ℕ} {u : List ℕ} → At p m Outer → Outermost p m s u → remaining g p m s ≡ []
      → g.accepting s ≡ true
      → Rule g p m (record { move = Seed s; machine = put_blue m p (seeds (m.worker p) s) s })
  by_hit : {z s x : ℕ} {u l : List ℕ} → At p m (Inner z) → Innermost p m s u → remaining g p m s ≡ x ∷ l
      → (m.worker p).cyan x ≡ true
      → Rule g p m (record { move = Hit s x; machine = put m p (takes (m.worker p) s) })
  by_pass : {z s x : ℕ} {u l : List ℕ} → At p m (Inner z) → Innermost p m s u → remaining g p m s ≡ x ∷ l
      → (m.worker p).cyan x ≡ false → ((m.worker p).R x || m.red x) ≡ true
      → Rule g p m (record { move = Pass s; machine = put m p (takes (m.worker p) s) })
  by_join : {z s x : ℕ} {u l : List ℕ} → At p m (Inner z) → Innermost p m s u → remaining g p m s ≡ x ∷ l
      → (m.worker p).cyan x ≡ false → ((m.worker p).R x || m.red x) ≡ false
      → Rule g p m (record { move = Join s x; machine = put m p (joins (m.worker p) s x) })
  by_back : {z s : ℕ} {u : List ℕ} → At p m (Inner z) → Innermost p m s u → remaining g p m s ≡ []
      → Rule g p m (record { move = Back z s; machine = put m p (backs (m.worker p) z s u) })
  by_paint : {z : ℕ} {u : List ℕ} → At p m (Waiting z) → Outermost p m z u → others_red g p m z ≡ true
      → Rule g p m (record { move = Paint z; machine = put_red m p (pops (m.worker p) z u (painted (Waiting z) (is_empty u)) empty) })
  by_wait : {z : ℕ} → At p m (Waiting z) → others_red g p m z ≡ false → Rule g p m (record { move = Wait; machine = m })
  by_rest : At p m Done → Rule g p m (record { move = Rest; machine = m })

-- the take that answers "cycle"
pub record Hits (g : Graph) (p : ℕ) (m : Machine) (a : Made) : Type 0 where
  pub seed : ℕ
  pub top : ℕ
  pub under : List ℕ
  pub taken : ℕ
  pub later : List ℕ
  pub place_is : At p m (Inner seed)
  pub stack_is : Innermost p m top under
  pub successors_are : remaining g p m top ≡ taken ∷ later
  pub is_cyan : (m.worker p).cyan taken ≡ true
  pub made : a ≡ record { move = Hit top taken; machine = put m p (takes (m.worker p) top) }

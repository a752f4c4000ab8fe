-- The invariant of the search: it holds at the start, and after every move but the take that answers "cycle". First what holds of each worker,
-- then what holds of the colours that they share.
use Rattle.std.specs.Prelude.{ℕ, ◌≤◌, ◌≡◌, Bool, true, false, List, [], ◌∷◌, ◌⊎◌, ◌≢◌, take}
use Rattle.graphs.specs.Lists.{Mem, Once}
use Rattle.graphs.specs.Graph.{Graph, Edge, Far}
use Rattle.moves.specs.declared.Place.{Place}
use Rattle.moves.specs.declared.Place.TheVariants.{Fresh, Outer, Inner, Waiting, Done}
use Rattle.moves.specs.Machine.{Worker, Machine}
use Rattle.theory.specs.Stacks.{Trail, Stacks}

-- x is a successor of s that w has taken
abbrev pub Taken : Graph → ℕ → Worker → ℕ → ℕ → Type 0
Taken g p w s x = Mem x (take (w.taken s) (g.order p s))

-- every taken successor of the states of the list is blue or cyan
abbrev pub Looked : Graph → (ℕ → Bool) → ℕ → Worker → List ℕ → Type 0
Looked g blue p w l = (s : ℕ) → Mem s l → (x : ℕ) → Taken g p w s x → (blue x ≡ true) ⊎ (w.cyan x ≡ true)

-- x is not cyan, and is in R or dead
abbrev pub Fine : (ℕ → Type 0) → Worker → ℕ → Type 0
Fine dead w x = (w.cyan x ≡ false) × ((w.R x ≡ true) ⊎ dead x)

-- a walk from s inside a set, but for s itself
pub data Within (g : Graph) (set : ℕ → Bool) : ℕ → ℕ → Type 0 where
  here : {s : ℕ} → Within g set s s
  onward : {s t u : ℕ} → Within g set s t → Edge g t u → set u ≡ true → Within g set s u

-- outside the inner search and the waiting
pub record Calm (w : Worker) : Type 0 where
  pub bare : w.inner ≡ []
  pub clear : (x : ℕ) → w.R x ≡ false

-- in the outer search
pub record Climb (g : Graph) (blue : ℕ → Bool) (p : ℕ) (w : Worker) : Type 0 where
  pub calm : Calm w
  pub head : ℕ
  pub under : List ℕ
  pub top : w.outer ≡ head ∷ under
  pub looked : Looked g blue p w w.outer

-- in the inner search or waiting, with the seed z. At the seed `taken` counts the inner search, so `looked` leaves it out.
pub record Hunt (g : Graph) (blue : ℕ → Bool) (dead : ℕ → Type 0) (p : ℕ) (w : Worker) (z : ℕ) : Type 0 where
  pub under : List ℕ
  pub top : w.outer ≡ z ∷ under
  pub accepts : g.accepting z ≡ true
  pub is_blue : blue z ≡ true
  pub looked : Looked g blue p w under
  pub held : (x : ℕ) → Mem x w.inner → w.R x ≡ true
  pub own : w.R z ≡ true
  pub took : (t : ℕ) → w.R t ≡ true → (x : ℕ) → Taken g p w t x → Fine dead w x
  pub full : (t : ℕ) → w.R t ≡ true → (Mem t w.inner → ⊥) → (x : ℕ) → Edge g t x → Fine dead w x
  pub way : (t : ℕ) → w.R t ≡ true → Within g w.R z t
  pub off : (t : ℕ) → w.R t ≡ true → t ≢ z → w.cyan t ≡ false

-- in the inner search: the inner stack is a path from the seed
pub record Deep (g : Graph) (w : Worker) (z : ℕ) : Type 0 where
  pub head : ℕ
  pub rest : List ℕ
  pub stack : w.inner ≡ head ∷ rest
  pub trail : Trail g z head rest
  pub once : Once w.inner

abbrev pub Phase : Graph → (ℕ → Bool) → (ℕ → Type 0) → ℕ → Worker → Place → Type 0
Phase g blue dead p w Fresh = (w.outer ≡ []) × Calm w
Phase g blue dead p w Outer = Climb g blue p w
Phase g blue dead p w (Inner z) = Hunt g blue dead p w z × Deep g w z
Phase g blue dead p w (Waiting z) = Hunt g blue dead p w z × (w.inner ≡ [])
Phase g blue dead p w Done = (w.outer ≡ []) × Calm w × (blue 0 ≡ true)

pub record Local (g : Graph) (blue : ℕ → Bool) (dead : ℕ → Type 0) (p : ℕ) (w : Worker) : Type 0 where
  pub stacks : Stacks g w.cyan w.outer w.inner w.taken
  pub phase : Phase g blue dead p w w.place

-- the states that count as red
abbrev pub Dead : Machine → ℕ → Type 0
Dead m x = m.red x ≡ true

-- s is the seed
abbrev pub SeedAt : Place → ℕ → Type 0
SeedAt Fresh s = ⊥
SeedAt Outer s = ⊥
SeedAt (Inner z) s = z ≡ s
SeedAt (Waiting z) s = z ≡ s
SeedAt Done s = ⊥

-- x is cyan for some worker; s is some worker's seed
abbrev pub SomeCyan : Machine → ℕ → Type 0
SomeCyan m x = (q : ℕ) × ((m.worker q).cyan x ≡ true)

abbrev pub SomeSeed : Machine → ℕ → Type 0
SomeSeed m s = (q : ℕ) × SeedAt (m.worker q).place s

-- The workers from P on never move, so that "some worker" needs no bound.
pub record Invariant (g : Graph) (P : ℕ) (m : Machine) : Type 0 where
  pub local : (q : ℕ) → Local g m.blue (Dead m) q (m.worker q)
  pub spare : (q : ℕ) → P ≤ q → (m.worker q).place ≡ Fresh
  pub dead_next : (s t : ℕ) → Dead m s → Edge g s t → Dead m t
  pub blue_next : (s t : ℕ) → m.blue s ≡ true → Edge g s t → (m.blue t ≡ true) ⊎ SomeCyan m t
  pub blue_dead : (s : ℕ) → g.accepting s ≡ true → m.blue s ≡ true → Dead m s ⊎ SomeSeed m s
  pub dead_no_loop : (s : ℕ) → g.accepting s ≡ true → Dead m s → Far g s s → ⊥

-- The form of the working room: the words of a machine of n states and P workers (docs/ROOM.md). One state has one form, and different states
-- have different forms.
use Rattle.std.specs.Prelude.{ℕ, zero, suc, ◌+◌, ◌-◌, ◌*◌, ◌<◌, ◌≤◌, ◌≡◌, Bool, true, false, if◌then◌else◌, List}
use Rattle.std.specs.Prelude.{[], ◌∷◌, ◌++◌, reverse, ◌==◌, length, replicate}
use Rattle.graphs.specs.Lists.{tab}
use Rattle.moves.specs.declared.Place.{Place}
use Rattle.moves.specs.declared.Place.TheVariants.{Fresh, Outer, Inner, Waiting, Done}
use Rattle.moves.specs.Machine.{Worker, Machine}

abbrev pub bit : Bool → ℕ
bit true = 1
bit false = 0

-- a set: a word for each state, 1 for those in it
abbrev pub bits : ℕ → (ℕ → Bool) → List ℕ
bits n f = tab 0 n (λ s. bit (f s))

-- a stack, bottom first; the words above its top are 0
unfoldable pub pile : ℕ → List ℕ → List ℕ
pile n l = reverse l ++ replicate (n - length l) 0

abbrev pub kind_word : Place → ℕ
kind_word Fresh = 0
kind_word Outer = 1
kind_word (Inner z) = 2
kind_word (Waiting z) = 3
kind_word Done = 4

abbrev pub seed_word : Place → ℕ
seed_word Fresh = 0
seed_word Outer = 0
seed_word (Inner z) = z
seed_word (Waiting z) = z
seed_word Done = 0

-- the two words of a place, and the place with two words
abbrev pub words_of : Place → List ℕ
words_of q = kind_word q ∷ seed_word q ∷ []

abbrev pub place_of : ℕ → ℕ → Place
place_of k z = if k == 0 then Fresh else if k == 1 then Outer else if k == 2 then Inner z else if k == 3 then Waiting z else Done

-- the words of one worker's stretch, and their number
unfoldable pub span : ℕ → Worker → List ℕ
span n w =
    bits n w.cyan
    ++ (bits n w.R
    ++ (pile n w.outer
    ++ (pile n w.inner
    ++ (tab 0 n w.taken ++ (kind_word w.place ∷ seed_word w.place ∷ length w.outer ∷ length w.inner ∷ [])))))

abbrev pub stretch : ℕ → ℕ
stretch n = 5 * n + 4

-- the stretches of k workers from q on
unfoldable pub spans : ℕ → ℕ → ℕ → (ℕ → Worker) → List ℕ
spans n q zero f = []
spans n q (suc k) f = span n (f q) ++ spans n (suc q) k f

unfoldable pub room : ℕ → ℕ → Machine → List ℕ
room n P m = bits n m.blue ++ (bits n m.red ++ spans n 0 P m.worker)

-- the words needed; and where worker p's stretch starts, after the words of the workers before it
abbrev pub room_size : ℕ → ℕ → ℕ
room_size n P = 2 * n + P * stretch n

abbrev pub stretch_at : ℕ → ℕ → ℕ
stretch_at = room_size

-- the worker's stacks fit their words; and so it is of every worker below P
pub record Fits (n : ℕ) (w : Worker) : Type 0 where
  pub outer_fits : length w.outer ≤ n
  pub inner_fits : length w.inner ≤ n

abbrev pub AllFit : ℕ → ℕ → Machine → Type 0
AllFit n P m = (q : ℕ) → q < P → Fits n (m.worker q)

-- Two workers, and two machines, are the same as far as n states and P workers go: what the room tells of them.

pub record SameWorker (n : ℕ) (w w' : Worker) : Type 0 where
  pub place : w.place ≡ w'.place
  pub cyan : (s : ℕ) → s < n → w.cyan s ≡ w'.cyan s
  pub R : (s : ℕ) → s < n → w.R s ≡ w'.R s
  pub outer : w.outer ≡ w'.outer
  pub inner : w.inner ≡ w'.inner
  pub taken : (s : ℕ) → s < n → w.taken s ≡ w'.taken s

pub record SameBelow (n P : ℕ) (m m' : Machine) : Type 0 where
  pub blue : (s : ℕ) → s < n → m.blue s ≡ m'.blue s
  pub red : (s : ℕ) → s < n → m.red s ≡ m'.red s
  pub worker : (q : ℕ) → q < P → SameWorker n (m.worker q) (m'.worker q)

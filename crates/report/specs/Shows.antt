-- A state's label, and what the functions that print labels ask: that the places name parts of the text, and that the lengths told are within the lasso
-- room.
use Rattle.std.specs.Prelude.{ℕ, ◌+◌, ◌*◌, ◌≤◌, ◌<◌, List, length, get_or, take, drop}
use Rattle.graphs.specs.Lists.{Mem}
use Rattle.moves.specs.declared.Place.{Place}
use Rattle.moves.specs.declared.Place.TheVariants.{Fresh, Outer, Inner, Waiting, Done}
use Rattle.moves.specs.Room.{room_size}
use Rattle.ends.specs.Told.{Told, told_cycle, told_none, told_undecided, told_refusal}
use Rattle.text.specs.Labels.{label_at}
use Rattle.report.specs.declared.labels.Labels.{Labels}
use Rattle.moves.specs.Own.{own_at}

-- the label of s
abbrev pub label_of : Labels → ℕ → List ℕ
label_of labels s = label_at labels.text.now labels.places.now s

-- the places name a label of s within the text
pub record Labelled (labels : Labels) (s : ℕ) : Type 0 where
  pub placed : 2 * s + 1 < length labels.places.now
  pub within : get_or labels.places.now (2 * s) 0 + get_or labels.places.now (2 * s + 1) 0 ≤ length labels.text.now

-- each of the states has a label
pub record ShowsAll (labels : Labels) (states : List ℕ) : Type 0 where
  pub each : (s : ℕ) → Mem s states → Labelled labels s

abbrev pub Shows : Labels → (lasso : List ℕ) → Told → Type 0
Shows labels lasso (told_cycle stem loop used) =
    (stem + loop ≤ length lasso) × ShowsAll labels (take stem lasso) × ShowsAll labels (take loop (drop stem lasso))
Shows labels lasso (told_none used) = Unit {0}
Shows labels lasso (told_undecided used) = Unit {0}
Shows labels lasso (told_refusal number line) = Unit {0}

-- a seed has a label
abbrev pub Seeded : Labels → Place → Type 0
Seeded labels Fresh = Unit {0}
Seeded labels Outer = Unit {0}
Seeded labels (Inner z) = Labelled labels z
Seeded labels (Waiting z) = Labelled labels z
Seeded labels Done = Unit {0}

-- the room has a stretch for each of P workers, and every seed there has a label
pub record ShowsWorkers (labels : Labels) (room : List ℕ) (n P : ℕ) : Type 0 where
  pub room_long : room_size n P ≤ length room
  pub seeds : (q : ℕ) → q < P → Seeded labels (own_at room n q).place

abbrev pub ShowsEnd : Labels → (room : List ℕ) (n P : ℕ) → Told → Type 0
ShowsEnd labels room n P (told_cycle stem loop used) = ShowsWorkers labels room n P
ShowsEnd labels room n P (told_none used) = ShowsWorkers labels room n P
ShowsEnd labels room n P (told_undecided used) = ShowsWorkers labels room n P
ShowsEnd labels room n P (told_refusal number line) = Unit {0}

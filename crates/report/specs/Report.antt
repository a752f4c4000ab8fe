-- The lines that the programs print, as bytes: 01 "The program", and those that `replay` adds. A state's label is what `label` gives.
use Rattle.std.specs.Prelude.{ℕ, List, [], ◌∷◌, ◌++◌, take, drop, codes, flat_map}
use Rattle.moves.specs.declared.Place.{Place}
use Rattle.moves.specs.declared.Place.TheVariants.{Fresh, Outer, Inner, Waiting, Done}
use Rattle.moves.specs.declared.Tally.{Tally}
use Rattle.moves.specs.Run.{up_from}
use Rattle.moves.specs.declared.own.Own.{Own}
use Rattle.moves.specs.Own.{own_at}
use Rattle.ends.specs.Told.{Told, told_cycle, told_none, told_undecided, told_refusal}
use Rattle.text.specs.Lists as reader
use Rattle.page.specs.Numbers.{fields, numbers_line}

-- 01: "A refusal prints one line, `refused→number→line`."
unfoldable pub refused_line : ℕ → ℕ → List ℕ
refused_line number line = numbers_line (codes "refused") (number ∷ line ∷ [])

-- the refusal that a reading came to; nothing for a graph
abbrev pub reading_line : reader.Told → List ℕ
reading_line (reader.graph states transitions) = []
reading_line (reader.refusal number line) = refused_line number line

-- 01: "then one line a state of stem and of loop, in order"
unfoldable pub state_line : List ℕ → List ℕ → List ℕ
state_line word label = word ++ (label ++ codes "\n")

abbrev pub state_lines : List ℕ → (ℕ → List ℕ) → List ℕ → List ℕ
state_lines word label states = flat_map (λ s. state_line word (label s)) states

-- 01: "then the tally in the order above": "outer entries, inner entries, waits, and moves that change something"
unfoldable pub tally_line : Tally → List ℕ
tally_line t = numbers_line (codes "tally") (t.outer ∷ t.inner ∷ t.waits ∷ t.moves ∷ [])

unfoldable pub cycle_lines : (ℕ → List ℕ) → (stem loop : List ℕ) → Tally → List ℕ
cycle_lines label stem loop t =
    codes "answer\tcycle\n" ++ (state_lines (codes "stem\t") label stem ++ (state_lines (codes "loop\t") label loop ++ tally_line t))

-- 01: "Line 1 is the answer"; what was told of a run, with the lasso room and the tally that it left
abbrev pub run_lines : (ℕ → List ℕ) → List ℕ → Told → Tally → List ℕ
run_lines label lasso (told_cycle stem loop used) t = cycle_lines label (take stem lasso) (take loop (drop stem lasso)) t
run_lines label lasso (told_none used) t = codes "answer\tnone\n" ++ tally_line t
run_lines label lasso (told_undecided used) t = codes "answer\tundecided\n" ++ tally_line t
run_lines label lasso (told_refusal number line) t = refused_line number line

-- A worker's line: "place one of fresh, outer, inner, waiting, done, and for inner and waiting the seed's label as a fifth field"
abbrev pub place_field : Place → List ℕ
place_field Fresh = codes "\tfresh"
place_field Outer = codes "\touter"
place_field (Inner z) = codes "\tinner"
place_field (Waiting z) = codes "\twaiting"
place_field Done = codes "\tdone"

unfoldable pub label_field : (ℕ → List ℕ) → ℕ → List ℕ
label_field label s = codes "\t" ++ label s

abbrev pub seed_field : (ℕ → List ℕ) → Place → List ℕ
seed_field label Fresh = []
seed_field label Outer = []
seed_field label (Inner z) = label_field label z
seed_field label (Waiting z) = label_field label z
seed_field label Done = []

unfoldable pub worker_line : (ℕ → List ℕ) → ℕ → Own → List ℕ
worker_line label q own =
    codes "worker"
    ++ (fields (q ∷ []) ++ (place_field own.place ++ (fields (own.outer ∷ own.inner ∷ []) ++ (seed_field label own.place ++ codes "\n"))))

-- the lines of the workers 0 to P − 1
unfoldable pub worker_lines : (ℕ → List ℕ) → (ℕ → Own) → ℕ → List ℕ
worker_lines label own P = flat_map (λ q. worker_line label q (own q)) (up_from 0 P)

-- what `replay` adds to an answer: the turns used, and P workers; nothing to a refusal
unfoldable pub used_lines : (ℕ → List ℕ) → List ℕ → ℕ → ℕ → ℕ → List ℕ
used_lines label room n P used = numbers_line (codes "used") (used ∷ []) ++ worker_lines label (own_at room n) P

abbrev pub end_lines : (ℕ → List ℕ) → List ℕ → ℕ → ℕ → Told → List ℕ
end_lines label room n P (told_cycle stem loop used) = used_lines label room n P used
end_lines label room n P (told_none used) = used_lines label room n P used
end_lines label room n P (told_undecided used) = used_lines label room n P used
end_lines label room n P (told_refusal number line) = []

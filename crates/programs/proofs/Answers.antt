-- The lines of an answer: what the lasso room shows of it is all of it, and only the labels of states count.
use Prim.Native.Nat.{ℕ, ◌<◌}
use mathlib.Core.Path.{◌≡◌, refl, ap}
use mathlib.Core.Bool.{true}
use mathlib.Core.List.{List, [], ◌∷◌, ◌++◌, append_assoc}
use mathlib.Core.Logic.{inl, inr}
use lib.ListN.{length, drop}
use lib.Seq.{take_at, drop_at}
use Rattle.graphs.specs.Lists.{Mem}
use Rattle.graphs.specs.Graph.{graph}
use Rattle.graphs.specs.Words.{graph_of, is_graph}
use Rattle.graphs.proofs.Lasso.{lasso_inside}
use Rattle.graphs.proofs.Member.{mem_left, mem_right}
use Rattle.moves.specs.declared.Tally.{Tally}
use Rattle.moves.specs.Run.{Answer, cycle, none, undecided, run}
use Rattle.theory.specs.Turns.{Named}
use Rattle.theory.proofs.Demands.{graph_of_words, cycle_is_lasso}
use Rattle.ends.specs.Told.{tells_of, shown}
use Rattle.std.specs.Prelude.{codes, flat_map}
use Rattle.report.specs.Report.{state_line, state_lines, tally_line, cycle_lines, run_lines}

-- the lines of an answer
abbrev pub answer_lines : (ℕ → List ℕ) → Answer → Tally → List ℕ
answer_lines label (cycle stem loop) t = cycle_lines label stem loop t
answer_lines label none t = codes "answer\tnone\n" ++ tally_line t
answer_lines label undecided t = codes "answer\tundecided\n" ++ tally_line t

-- stem and loop are what the lasso room shows of them
pub told_lines : (label : ℕ → List ℕ) (a : Answer) (used : ℕ) (lasso : List ℕ) (t : Tally)
    → run_lines label (shown a lasso) (tells_of a used) t ≡ answer_lines label a t
told_lines label (cycle stem loop) used lasso t =
    let rest = drop (length (stem ++ loop)) lasso in
    rw (
      append_assoc stem loop rest,
      take_at stem (loop ++ rest) (length stem) refl,
      drop_at stem (loop ++ rest) (length stem) refl,
      take_at loop rest (length loop) refl,
    )
told_lines label none used lasso t = refl
told_lines label undecided used lasso t = refl

-- pieces that are the same for each of the list
pub flat_map_same : (f g : ℕ → List ℕ) (l : List ℕ) → ((x : ℕ) → Mem x l → f x ≡ g x) → flat_map f l ≡ flat_map g l
flat_map_same f g [] h = refl
flat_map_same f g (x ∷ l) h = rw (h x (inl refl), flat_map_same f g l (λ y m. h y (inr m)))

states_same : (label label' : ℕ → List ℕ) (word states : List ℕ) → ((s : ℕ) → Mem s states → label s ≡ label' s)
    → state_lines word label states ≡ state_lines word label' states
states_same label label' word states h =
    flat_map_same (λ s. state_line word (label s)) (λ s. state_line word (label' s)) states (λ s m. ap (state_line word) (h s m))

-- the labels of other states than the answer's don't count
same_lines : (label label' : ℕ → List ℕ) (a : Answer) (t : Tally)
    → ((stem loop : List ℕ) → a ≡ cycle stem loop → (s : ℕ) → Mem s (stem ++ loop) → label s ≡ label' s)
    → answer_lines label a t ≡ answer_lines label' a t
unfolding cycle_lines
same_lines label label' (cycle stem loop) t h =
    rw (
      states_same label label' (codes "stem\t") stem (λ s m. h stem loop refl s (mem_left s stem loop m)),
      states_same label label' (codes "loop\t") loop (λ s m. h stem loop refl s (mem_right s stem loop m)),
    )
same_lines label label' none t h = refl
same_lines label label' undecided t h = refl

-- so that labels which agree on the states give the same lines of a run
pub run_same : (label label' : ℕ → List ℕ) (offsets targets flags : List ℕ) → is_graph offsets targets flags ≡ true
    → (P : ℕ) → 0 < P → (turns : List ℕ) → Named P turns → ((s : ℕ) → s < length flags → label s ≡ label' s) → (t : Tally)
    → answer_lines label (run (graph_of offsets targets flags) P turns).answer t ≡ answer_lines label' (run (graph_of offsets targets flags) P turns).answer t
unfolding graph_of graph
run_same label label' offsets targets flags is P some turns named same t =
    let g = graph_of offsets targets flags in
    let sound = graph_of_words offsets targets flags is in
    same_lines label label' (run g P turns).answer t
    (λ stem loop e s m. same s (lasso_inside g sound stem loop (cycle_is_lasso g P sound some turns named stem loop e) s m))

-- How long the lines of a run are at most, where no label is longer than 16 bytes.
use Prim.Native.Nat.{ℕ, ◌+◌, ◌*◌, ◌≤◌, ◌<◌}
use mathlib.Core.List.{List, [], ◌∷◌, ◌++◌}
use mathlib.Core.Path.{◌≡◌, refl}
use lib.ListN.{length, take, drop, length-append, length-take, length-drop}
use native.Mathlib.Omega.{arith}
use Rattle.graphs.specs.Lists.{Mem}
use Rattle.graphs.proofs.Member.{mem_left, mem_right}
use Rattle.moves.specs.declared.Place.{Place}
use Rattle.moves.specs.declared.Place.TheVariants.{Fresh, Outer, Inner, Waiting, Done}
use Rattle.moves.specs.declared.Tally.{Tally}
use Rattle.moves.specs.Run.{up_from}
use Rattle.moves.proofs.UpFrom.{up_from_long, up_from_below}
use Rattle.moves.specs.declared.own.Own.{Own}
use Rattle.ends.specs.Told.{Told, told_cycle, told_none, told_undecided, told_refusal}
use Rattle.theory.specs.Invariant.{SeedAt}
use Rattle.std.specs.Prelude.{codes}
use Rattle.page.specs.Numbers.{fields, numbers_line}
use Rattle.page.proofs.Long.{flat_map_long, fields_long, numbers_long}
use Rattle.report.specs.Report.{refused_line, state_line, state_lines, tally_line, cycle_lines, run_lines, place_field, label_field, seed_field}
use Rattle.moves.specs.Own.{own_at}
use Rattle.report.specs.Report.{worker_line, worker_lines, used_lines}

pub refused_long : (number line : ℕ) → length (refused_line number line) ≤ 50
unfolding refused_line
refused_long number line = numbers_long (codes "refused") (number ∷ line ∷ [])

tally_long : (t : Tally) → length (tally_line t) ≤ 90
unfolding tally_line
tally_long t = numbers_long (codes "tally") (t.outer ∷ t.inner ∷ t.waits ∷ t.moves ∷ [])

module _ (label : ℕ → List ℕ) where
  -- no label of these states is longer than 16 bytes
  abbrev Short : List ℕ → Type 0
  Short states = (s : ℕ) → Mem s states → length (label s) ≤ 16

  line_long : (word : List ℕ) (s : ℕ) → length word ≡ 5 → length (label s) ≤ 16 → length (state_line word (label s)) ≤ 22
  unfolding state_line
  line_long word s w h =
      let tail = length-append (label s) (codes "\n") in
      let all = length-append word (label s ++ codes "\n") in
      omega (arith, w, h, tail, all)

  states_long : (word : List ℕ) → length word ≡ 5 → (states : List ℕ) → Short states → length (state_lines word label states) ≤ length states * 22
  states_long word w states short = flat_map_long (λ s. state_line word (label s)) 22 states (λ s m. line_long word s w (short s m))

  -- all states that a lasso room shows
  abbrev pub ShortShown : List ℕ → Told → Type 0
  ShortShown lasso (told_cycle stem loop used) = Short (take stem lasso ++ take loop (drop stem lasso))
  ShortShown lasso (told_none used) = Unit {0}
  ShortShown lasso (told_undecided used) = Unit {0}
  ShortShown lasso (told_refusal number line) = Unit {0}

  answer_long : (answer : List ℕ) (k : ℕ) (tally : Tally) → length answer ≤ 20 → length (answer ++ tally_line tally) ≤ k + 110
  answer_long answer k tally h = let long = tally_long tally in let all = length-append answer (tally_line tally) in omega (arith, h, long, all)

  cycle_long : (stem loop : List ℕ) (tally : Tally) → Short (stem ++ loop)
      → length (cycle_lines label stem loop tally) ≤ length stem * 22 + length loop * 22 + 110
  unfolding cycle_lines
  cycle_long stem loop tally short =
      let stems = state_lines (codes "stem\t") label stem in
      let loops = state_lines (codes "loop\t") label loop in
      let a = states_long (codes "stem\t") refl stem (λ s m. short s (mem_left s stem loop m)) in
      let b = states_long (codes "loop\t") refl loop (λ s m. short s (mem_right s stem loop m)) in
      let c = tally_long tally in
      let ends = length-append loops (tally_line tally) in
      let rest = length-append stems (loops ++ tally_line tally) in
      let all = length-append (codes "answer\tcycle\n") (stems ++ (loops ++ tally_line tally)) in
      omega (arith, a, b, c, ends, rest, all)

  pub run_long : (lasso : List ℕ) (t : Told) (tally : Tally) → ShortShown lasso t → length (run_lines label lasso t tally) ≤ length lasso * 22 + 110
  run_long lasso (told_cycle stem loop used) tally short =
      let long = cycle_long (take stem lasso) (take loop (drop stem lasso)) tally short in
      let a = length-take stem lasso in
      let b = length-take loop (drop stem lasso) in
      let c = length-drop stem lasso in
      omega (arith, long, a, b, c)
  run_long lasso (told_none used) tally short = answer_long (codes "answer\tnone\n") (length lasso * 22) tally (omega arith)
  run_long lasso (told_undecided used) tally short = answer_long (codes "answer\tundecided\n") (length lasso * 22) tally (omega arith)
  run_long lasso (told_refusal number line) tally short = let long = refused_long number line in omega (arith, long)

  place_long : (p : Place) → length (place_field p) ≤ 8
  place_long Fresh = omega arith
  place_long Outer = omega arith
  place_long (Inner z) = omega arith
  place_long (Waiting z) = omega arith
  place_long Done = omega arith

  seed_long : (p : Place) → ((z : ℕ) → SeedAt p z → length (label z) ≤ 16) → length (seed_field label p) ≤ 17
  unfolding label_field
  seed_long Fresh h = omega arith
  seed_long Outer h = omega arith
  seed_long (Inner z) h = let long = h z refl in omega (arith, long)
  seed_long (Waiting z) h = let long = h z refl in omega (arith, long)
  seed_long Done h = omega arith

  worker_long : (q : ℕ) (own : Own) → ((z : ℕ) → SeedAt own.place z → length (label z) ≤ 16) → length (worker_line label q own) ≤ 100
  unfolding worker_line
  worker_long q own h =
      let number = fields (q ∷ []) in
      let place = place_field own.place in
      let depths = fields (own.outer ∷ own.inner ∷ []) in
      let seed = seed_field label own.place in
      let a = fields_long (q ∷ []) in
      let b = place_long own.place in
      let c = fields_long (own.outer ∷ own.inner ∷ []) in
      let d = seed_long own.place h in
      let e1 = length-append seed (codes "\n") in
      let e2 = length-append depths (seed ++ codes "\n") in
      let e3 = length-append place (depths ++ (seed ++ codes "\n")) in
      let e4 = length-append number (place ++ (depths ++ (seed ++ codes "\n"))) in
      let e5 = length-append (codes "worker") (number ++ (place ++ (depths ++ (seed ++ codes "\n")))) in
      omega (arith, a, b, c, d, e1, e2, e3, e4, e5)

  module _ (room : List ℕ) (n P : ℕ) (few : P ≤ 8) (short : (q : ℕ) → q < P → (z : ℕ) → SeedAt (own_at room n q).place z → length (label z) ≤ 16) where
    pub used_long : (used : ℕ) → length (used_lines label room n P used) ≤ 900
    unfolding used_lines worker_lines
    used_long used =
        let line = numbers_long (codes "used") (used ∷ []) in
        let workers = flat_map_long (λ q. worker_line label q (own_at room n q)) 100 (up_from 0 P) (λ q m. worker_long q (own_at room n q) (short q (up_from_below 0 P P (omega arith) q m))) in
        let many = up_from_long 0 P in
        let all = length-append (numbers_line (codes "used") (used ∷ [])) (worker_lines label (own_at room n) P) in
        omega (arith, line, workers, many, all, few)

-- Laws of the workers' lines: those of one worker more, and that each worker's lies within all.
use Rattle.std.proofs.Common.{◌≡◌, refl, ℕ, zero, suc, ◌+◌, ◌<◌, ◌≤◌, List, [], ◌∷◌, ◌++◌, length, ◌-◌, add-zero, zero-add, add_assoc, ap, ◌∙◌, arith, add-one, length-append, append-nil}
use Rattle.std.proofs.lemmas.Grind.{flat_map-append}
use Rattle.moves.specs.declared.own.Own.{Own}
use Rattle.moves.specs.Run.{up_from}
use Rattle.page.proofs.Written as Written
use Rattle.report.specs.Report.{worker_line, worker_lines}

up_from_more : (n k : ℕ) → up_from n (suc k) ≡ up_from n k ++ ((n + k) ∷ [])
unfolding up_from
up_from_more n zero = ap (λ m. m ∷ []) (omega arith)
up_from_more n (suc k) = ap (λ l. n ∷ l) (up_from_more (suc n) k ∙ ap (λ m. up_from (suc n) k ++ (m ∷ [])) (omega arith))

module _ (label : ℕ → List ℕ) (own : ℕ → Own) where
  pub workers_none : worker_lines label own 0 ≡ []
  unfolding worker_lines up_from
  workers_none = refl

  pub workers_more : (q : ℕ) → worker_lines label own (q + 1) ≡ worker_lines label own q ++ worker_line label q (own q)
  unfolding worker_lines
  workers_more q =
      rw (add-one, up_from_more 0 q, zero-add, flat_map-append (λ q. worker_line label q (own q)) (up_from 0 q) (q ∷ []), append-nil (worker_line label q (own q)))

  all_long : (q d : ℕ) → length (worker_lines label own q) ≤ length (worker_lines label own (q + d))
  all_long q zero = rw add-zero (omega arith)
  all_long q (suc d) =
      let more : worker_lines label own (q + suc d) ≡ worker_lines label own (q + d) ++ worker_line label (q + d) (own (q + d)) =
      rw (← add-one, ← add_assoc) (workers_more (q + d)) in
      rw more (omega (arith, length-append (worker_lines label own (q + d)) (worker_line label (q + d) (own (q + d))), all_long q d))

  pub workers_long : (q P : ℕ) → q < P → length (worker_lines label own q) + length (worker_line label q (own q)) ≤ length (worker_lines label own P)
  workers_long q P h =
      let whole : q + 1 + (P - (q + 1)) ≡ P = omega arith in
      let long : length (worker_lines label own (q + 1)) ≤ length (worker_lines label own P) = rw whole at (all_long (q + 1) (P - (q + 1))) in
      omega (arith, long, ap length (workers_more q), length-append (worker_lines label own q) (worker_line label q (own q)))

-- what a check uses where the workers' lines are written by a loop
pub ruleset laws = (Written.laws, workers_none, workers_more, workers_long)

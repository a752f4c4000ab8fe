-- Lines by computing: a refusal, the tally, what the program prints of 01's 0417 list, and a worker's line for each place.
use Prim.Native.Nat.{ℕ, zero, suc}
use mathlib.Core.Path.{◌≡◌, refl}
use mathlib.Core.List.{List, [], ◌∷◌, map}
use Rattle.moves.specs.declared.Place.TheVariants.{Fresh, Outer, Inner, Waiting, Done}
use Rattle.moves.specs.declared.Tally.{Tally}
use Rattle.ends.specs.Told.{told_cycle}
use Rattle.std.specs.Prelude.{codes}
use Rattle.page.specs.Numbers.{digits, decimal, field, numbers_line}
use Rattle.report.specs.Report.{refused_line, state_line, tally_line, cycle_lines, run_lines, label_field, worker_line}

abbrev label : ℕ → List ℕ
label zero = codes "0417"
label (suc s) = codes "417"

abbrev tally : Tally
tally = record { outer = 4; inner = 2; waits = 0; moves = 9 }

pub refusal_3 : refused_line 3 2 ≡ codes "refused\t3\t2\n"
unfolding digits decimal field numbers_line refused_line
refusal_3 = refl

pub tally_e : tally_line tally ≡ codes "tally\t4\t2\t0\t9\n"
unfolding digits decimal field numbers_line tally_line
tally_e = refl

-- the lasso room is longer than stem and loop
pub run_e : run_lines label (0 ∷ 1 ∷ 9 ∷ 9 ∷ []) (told_cycle 1 1 9) tally ≡ codes "answer\tcycle\nstem\t0417\nloop\t417\ntally\t4\t2\t0\t9\n"
unfolding digits decimal field numbers_line tally_line state_line cycle_lines
run_e = refl

pub workers_5 : map (λ place. worker_line label 3 (record { place = place; outer = 12; inner = 0 })) (Fresh ∷ Outer ∷ Inner 0 ∷ Waiting 1 ∷ Done ∷ [])
    ≡ codes "worker\t3\tfresh\t12\t0\n"
    ∷ codes "worker\t3\touter\t12\t0\n"
    ∷ codes "worker\t3\tinner\t12\t0\t0417\n"
    ∷ codes "worker\t3\twaiting\t12\t0\t417\n"
    ∷ codes "worker\t3\tdone\t12\t0\n"
    ∷ []
unfolding digits decimal field label_field worker_line
workers_5 = refl

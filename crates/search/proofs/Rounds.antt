-- Laws of `rounds`, the turns 0, 1, .., P − 1 again and again: their number, the turn at a place, and which turn follows which.
use Prim.Native.Nat.{ℕ, zero, suc, ◌+◌, ◌-◌, ◌*◌, ◌<◌, ◌≤◌, ◌%◌}
use mathlib.Core.Path.{◌≡◌, sym, ap, ◌∙◌}
use mathlib.Core.List.{◌++◌}
use mathlib.Core.Logic.{◌⊎◌, inl, inr}
use lib.ListN.{length, get_or, length-append, get_or-append}
use lib.Seq.{get_or-append-add}
use native.Mathlib.Nat.{mul-suc, mul-zero, mul-pos, mod-eq_of_lt, mod-eq-sub-mod, suc-mod, zero-mod, zero-add}
use native.Mathlib.Omega.{arith}
use Rattle.graphs.proofs.Tests.{below?}
use Rattle.moves.specs.Run.{up_from, rounds}
use Rattle.moves.proofs.UpFrom.{up_from_long, up_from_at}

pub rounds_long : (P k : ℕ) → length (rounds P k) ≡ P * k
unfolding rounds
rounds_long P zero = sym (mul-zero P)
rounds_long P (suc k) = simp length-append (omega (arith, up_from_long 0 P, rounds_long P k, mul-suc P k))

pub rounds_at : (P k i : ℕ) → i < P * k → get_or (rounds P k) i 0 ≡ i % P
unfolding rounds
rounds_at P zero i h = absurd (omega (arith, mul-zero P))
rounds_at P (suc k) i h = go (λ j. rounds_at P k (i - P) j) (below? i P)
  where
    go : (i - P < P * k → get_or (rounds P k) (i - P) 0 ≡ (i - P) % P) → (i < P) ⊎ (P ≤ i) → get_or (up_from 0 P ++ rounds P k) i 0 ≡ i % P
    go rest (inl low) =
        get_or-append (up_from 0 P) (rounds P k) 0 i (omega (arith, up_from_long 0 P)) ∙ up_from_at 0 P i low ∙ zero-add i ∙ sym (mod-eq_of_lt low)
    go rest (inr high) =
        let at : i ≡ length (up_from 0 P) + (i - P) = omega (arith, up_from_long 0 P) in
        ap (λ j. get_or (up_from 0 P ++ rounds P k) j 0) at
        ∙ get_or-append-add (up_from 0 P) (rounds P k) (i - P) 0
        ∙ rest (omega (arith, mul-suc P k))
        ∙ sym (mod-eq-sub-mod high)

pub rounds_first : (P k : ℕ) → 0 < P → 0 < k → get_or (rounds P k) 0 0 ≡ 0
rounds_first P k some more = rounds_at P k 0 (mul-pos some more) ∙ zero-mod P

-- after worker P − 1 comes worker 0
pub rounds_next : (P k i : ℕ) → suc i < P * k → get_or (rounds P k) (suc i) 0 ≡ suc (get_or (rounds P k) i 0) % P
rounds_next P k i h = rw (rounds_at P k (suc i) h, rounds_at P k i (omega arith)) (suc-mod i P)

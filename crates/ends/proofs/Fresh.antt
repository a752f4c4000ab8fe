-- The starting state's words: all 0.
use Prim.Native.Nat.{ℕ, zero, suc, ◌+◌, ◌*◌}
use mathlib.Core.Path.{◌≡◌, refl, ap, ◌∙◌}
use mathlib.Core.List.{List, ◌++◌}
use lib.ListN.{replicate, replicate-append-replicate}
use native.Mathlib.Nat.{suc-mul, zero-mul, sub-zero}
use native.Mathlib.Omega.{arith}
use Rattle.moves.specs.Machine.{fresh, start}
use Rattle.moves.proofs.Bits.{bits_empty}
use Rattle.moves.specs.Room.{pile, span, stretch, spans, room, room_size}

zeros_on : (n k : ℕ) (l : List ℕ) → l ≡ replicate k 0 → replicate n 0 ++ l ≡ replicate (n + k) 0
zeros_on n k l e = rw e (replicate-append-replicate n k 0)

module _ (n : ℕ) where
  span_fresh : span n fresh ≡ replicate (stretch n) 0
  unfolding span pile
  span_fresh =
      let long : n + (n + (n + (n + (n + 4)))) ≡ stretch n = omega arith in
      let words = zeros_on n _ _ (zeros_on n _ _ (zeros_on n _ _ (zeros_on n _ _ (zeros_on n 4 _ refl)))) in
      rw (bits_empty n, sub-zero n) (words ∙ ap (λ i. replicate i 0) long)

  spans_fresh : (q k : ℕ) → spans n q k (λ p. fresh) ≡ replicate (k * stretch n) 0
  unfolding spans
  spans_fresh q zero = rw (zero-mul (stretch n))
  spans_fresh q (suc k) =
      let long : stretch n + k * stretch n ≡ suc k * stretch n = omega (arith, suc-mul k (stretch n)) in
      rw span_fresh (zeros_on (stretch n) _ _ (spans_fresh (suc q) k) ∙ ap (λ i. replicate i 0) long)

  pub fresh_room : (P : ℕ) → room n P start ≡ replicate (room_size n P) 0
  unfolding room
  fresh_room P =
      let long : n + (n + P * stretch n) ≡ room_size n P = omega arith in
      rw (bits_empty n) (zeros_on n _ _ (zeros_on n _ _ (spans_fresh 0 P)) ∙ ap (λ i. replicate i 0) long)

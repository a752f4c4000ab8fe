-- A worker's place and depths, as four words of the room tell them.
use Rattle.std.proofs.Common.{ℕ, ◌+◌, ◌*◌, ◌<◌, ◌≡◌, ◌∙◌, List, [], ◌∷◌, length, get_or, add-zero, arith}
use Rattle.moves.specs.Machine.{Worker, Machine}
use Rattle.moves.specs.Room.{kind_word, seed_word, stretch_at}
use Rattle.moves.proofs.Room.{place_words}
use Rattle.moves.proofs.Words.{Seen, own_word, last_at}
use Rattle.moves.specs.Own.{own_of, own_in}

module _ (n P p : ℕ) (h : p < P) (m : Machine) (rest l : List ℕ) (seen : Seen n P m rest l) where
  abbrev w : Worker
  w = m.worker p

  last_word : (i : ℕ) → i < 4
      → get_or l (stretch_at n p + 5 * n + i) 0 ≡ get_or (kind_word w.place ∷ seed_word w.place ∷ length w.outer ∷ length w.inner ∷ []) i 0
  last_word i k =
      let at : stretch_at n p + 5 * n + i ≡ stretch_at n p + (5 * n + i) = omega arith in
      rw at (own_word n P p h m rest l seen (5 * n + i) (omega arith) ∙ last_at n w (seen.fits p h) i)

  pub own_seen : own_in l (stretch_at n p + 5 * n) ≡ own_of w
  own_seen =
      let kind = rw add-zero at (last_word 0 (omega arith)) in
      rw (kind, last_word 1 (omega arith), last_word 2 (omega arith), last_word 3 (omega arith), place_words w.place)

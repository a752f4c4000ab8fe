-- What some words ask for, by computing. A row has the two words, as bytes, and what comes of the call.
use Rattle.std.proofs.Common.{ℕ, ◌≡◌, refl, List, [], ◌∷◌, map, Some, None}
use Rattle.graphs.specs.Lists.{all, same}
use Rattle.asked.specs.Digits.{is_digit, is_number, value_from, count_of}
use Rattle.asked.specs.Asked.{Call, called, run, is_end, is_dash, asks}

pub record Row : Type 0 where
  pub workers : List ℕ
  pub turns : List ℕ
  pub comes : Call

abbrev pub row : List ℕ → List ℕ → Call → Row
row workers turns comes = record { workers = workers; turns = turns; comes = comes }

-- `2` `010`, `8` `end`, `0` `end`, `2` `-`, `99` `0`, `007` `0`; and, asking for no run, `` `0`, `x` `0`, `2` `0x`, `2` ``
abbrev pub rows : List Row
rows =
    row (50 ∷ []) (48 ∷ 49 ∷ 48 ∷ []) (called (run 2 (Some 3)) (0 ∷ 1 ∷ 0 ∷ []))
    ∷ row (56 ∷ []) (101 ∷ 110 ∷ 100 ∷ []) (called (run 8 None) (101 ∷ 110 ∷ 100 ∷ []))
    ∷ row (48 ∷ []) (101 ∷ 110 ∷ 100 ∷ []) (called (run 0 None) (101 ∷ 110 ∷ 100 ∷ []))
    ∷ row (50 ∷ []) (45 ∷ []) (called (run 2 (Some 0)) (45 ∷ []))
    ∷ row (57 ∷ 57 ∷ []) (48 ∷ []) (called (run 9 (Some 1)) (0 ∷ []))
    ∷ row (48 ∷ 48 ∷ 55 ∷ []) (48 ∷ []) (called (run 7 (Some 1)) (0 ∷ []))
    ∷ row [] (48 ∷ []) (called None (48 ∷ []))
    ∷ row (120 ∷ []) (48 ∷ []) (called None (48 ∷ []))
    ∷ row (50 ∷ []) (48 ∷ 120 ∷ []) (called None (48 ∷ 120 ∷ []))
    ∷ row (50 ∷ []) [] (called None [])
    ∷ []

pub rows_right : map (λ r. asks r.workers r.turns) rows ≡ map (λ r. r.comes) rows
unfolding asks is_number is_digit is_end is_dash count_of value_from all same
rows_right = refl

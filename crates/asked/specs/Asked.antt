-- What the two words of `replay` ask for: WORKERS is a number; "TURNS is a run of digits, one a turn (`-` for the empty list), or the word `end`
-- for the run to the end". Words that are none of these are told how to be.
use Rattle.std.specs.Prelude.{ℕ, Bool, cond, not, List, [], ◌∷◌, map, length, Option, Some, None}
use Rattle.graphs.specs.Lists.{same}
use Rattle.asked.specs.declared.Asked.{Asked}
use Rattle.asked.specs.Digits.{digit_of, is_number, count_of}

-- the bytes of `end` and of `-`
unfoldable pub is_end : List ℕ → Bool
is_end word = same word (101 ∷ 110 ∷ 100 ∷ [])

unfoldable pub is_dash : List ℕ → Bool
is_dash word = same word (45 ∷ [])

-- what comes of a call: what is asked, and the bytes of the second word, the first of which are the turns
pub record Call : Type 0 where
  pub asked : Option Asked
  pub turns : List ℕ

abbrev pub called : Option Asked → List ℕ → Call
called r turns = record { asked = r; turns = turns }

abbrev pub run : ℕ → Option ℕ → Option Asked
run workers turns = Some (record { workers = workers; turns = turns })

unfoldable pub asks : (workers turns : List ℕ) → Call
asks workers turns =
    cond (not (is_number workers)) (called None turns)
    (cond (is_end turns) (called (run (count_of workers) None) turns)
    (cond (is_dash turns) (called (run (count_of workers) (Some 0)) turns)
    (cond (not (is_number turns)) (called None turns)
    (called (run (count_of workers) (Some (length turns))) (map digit_of turns)))))

-- Refusals 9 to 13 at work, by computing: each number at its limit, and which of two faults comes first. The words are the 0417 list's: two states,
-- so that two workers need 32 words to work in, and the lasso 4.
use Prim.Native.Nat.{ℕ}
use mathlib.Core.Path.{◌≡◌, refl}
use mathlib.Core.Bool.{Bool, true, ◌&&◌}
use mathlib.Core.List.{List, [], ◌∷◌}
use lib.Dec.{eqb}
use Rattle.graphs.specs.Lists.{every, elem, repeats, all}
use Rattle.graphs.specs.Words.{successors, is_graph, sizes_fit, offsets_span, never_falling, all_below, none_twice}
use Rattle.limits.specs.Refusals.{refusal_of, usual}

pub record Row : Type 0 where
  pub workers : ℕ
  pub flags : List ℕ
  pub room : ℕ
  pub lasso : ℕ
  pub turns : List ℕ
  pub number : ℕ

abbrev pub row : ℕ → List ℕ → ℕ → ℕ → List ℕ → ℕ → Row
row workers flags room lasso turns number =
    record { workers = workers; flags = flags; room = room; lasso = lasso; turns = turns; number = number }

-- the marks of the list, and words that are none
abbrev marks : List ℕ
marks = 0 ∷ 1 ∷ []

abbrev no_marks : List ℕ
no_marks = 0 ∷ 2 ∷ []

abbrev pub rows : List Row
rows =
    row 2 marks 32 4 (0 ∷ 1 ∷ []) 0
    ∷ row 1 marks 18 4 [] 0
    ∷ row 8 marks 116 4 (7 ∷ []) 0
    -- each by itself
    ∷ row 0 marks 32 4 [] 9
    ∷ row 9 marks 130 4 [] 9
    ∷ row 2 no_marks 32 4 [] 10
    ∷ row 2 marks 31 4 [] 11
    ∷ row 2 marks 32 3 [] 12
    ∷ row 2 marks 32 4 (0 ∷ 2 ∷ []) 13
    -- two at once
    ∷ row 9 no_marks 130 4 [] 9
    ∷ row 9 marks 129 4 [] 9
    ∷ row 9 marks 130 3 [] 9
    ∷ row 9 marks 130 4 (9 ∷ []) 9
    ∷ row 2 no_marks 31 4 [] 10
    ∷ row 2 no_marks 32 3 [] 10
    ∷ row 2 no_marks 32 4 (2 ∷ []) 10
    ∷ row 2 marks 31 3 [] 11
    ∷ row 2 marks 31 4 (2 ∷ []) 11
    ∷ row 2 marks 32 3 (2 ∷ []) 12
    ∷ []

unfoldable pub right : List Row → Bool
right [] = true
right (r ∷ l) =
    eqb (refusal_of r.room r.lasso r.turns (0 ∷ 1 ∷ 2 ∷ []) (1 ∷ 1 ∷ []) r.flags r.workers) r.number && right l

pub rows_right : right rows ≡ true
unfolding right refusal_of is_graph sizes_fit offsets_span never_falling all_below none_twice successors every repeats elem all
rows_right = refl

pub usual_right : (usual 0 ≡ 2) × (usual 1 ≡ 1) × (usual 9 ≡ 9)
unfolding usual
usual_right = (refl, refl, refl)

-- The definitions at work, by computing: words that are a graph and words that are not, a worker's order of looking, and 01's lasso.
use Rattle.std.proofs.Common.{ℕ, ◌≡◌, refl, Bool, true, false, ◌&&◌, List, [], ◌∷◌, inl}
use mathlib.Core.Bool.{beq}
use Rattle.graphs.specs.Lists.{every, elem, repeats, sum}
use Rattle.graphs.specs.Graph.{Graph, graph, turned, edges}
use Rattle.graphs.specs.Lasso.{Lasso, final}
use Rattle.graphs.specs.Words.{graph_of, successors, marked, is_graph, sizes_fit, offsets_span, never_falling, all_below, none_twice}

pub record Row : Type 0 where
  pub offsets : List ℕ
  pub targets : List ℕ
  pub flags : List ℕ
  pub answer : Bool

abbrev pub row : List ℕ → List ℕ → List ℕ → Bool → Row
row offsets targets flags answer = record { offsets = offsets; targets = targets; flags = flags; answer = answer }

abbrev pub rows : List Row
rows =
    row (0 ∷ 0 ∷ []) [] (0 ∷ []) true
    ∷ row (0 ∷ 1 ∷ []) (0 ∷ []) (1 ∷ []) true
    ∷ row (0 ∷ 1 ∷ 2 ∷ []) (1 ∷ 1 ∷ []) (0 ∷ 1 ∷ []) true
    ∷ row (0 ∷ 2 ∷ 4 ∷ []) (1 ∷ 0 ∷ 1 ∷ 0 ∷ []) (1 ∷ 1 ∷ []) true
    ∷ row (0 ∷ []) [] [] false
    ∷ row (0 ∷ 1 ∷ []) (0 ∷ []) (0 ∷ 0 ∷ []) false
    ∷ row (1 ∷ 1 ∷ []) (0 ∷ []) (0 ∷ []) false
    ∷ row (0 ∷ 2 ∷ []) (0 ∷ []) (0 ∷ []) false
    ∷ row (0 ∷ 2 ∷ 1 ∷ 2 ∷ []) (0 ∷ 1 ∷ []) (0 ∷ 0 ∷ 0 ∷ []) false
    ∷ row (0 ∷ 1 ∷ 1 ∷ []) (2 ∷ []) (0 ∷ 0 ∷ []) false
    ∷ row (0 ∷ 3 ∷ 3 ∷ []) (0 ∷ 1 ∷ 0 ∷ []) (0 ∷ 0 ∷ []) false
    ∷ row (0 ∷ 0 ∷ []) [] (2 ∷ []) false
    ∷ []

unfoldable pub right : List Row → Bool
right [] = true
right (r ∷ l) = beq (is_graph r.offsets r.targets r.flags) r.answer && right l

pub rows_right : right rows ≡ true
unfolding right is_graph sizes_fit offsets_span never_falling all_below none_twice successors every repeats elem
rows_right = refl

-- worker p starts at number p mod d
pub order_1 : turned 1 (7 ∷ 8 ∷ 9 ∷ []) ≡ 8 ∷ 9 ∷ 7 ∷ []
unfolding turned
order_1 = refl

pub order_5 : turned 5 (7 ∷ 8 ∷ 9 ∷ []) ≡ 9 ∷ 7 ∷ 8 ∷ []
unfolding turned
order_5 = refl

pub order_none : turned 5 [] ≡ []
unfolding turned
order_none = refl

-- 0417 is state 0, and 417 is state 1, marked
abbrev pub signs : Graph
signs = graph_of (0 ∷ 1 ∷ 2 ∷ []) (1 ∷ 1 ∷ []) (0 ∷ 1 ∷ [])

pub signs_edges : edges signs ≡ 2
unfolding edges sum graph_of graph successors
signs_edges = refl

pub signs_lasso : Lasso signs (0 ∷ []) (1 ∷ [])
unfolding graph_of graph successors marked final
signs_lasso = record { starts = refl; steps = (inl refl, tt); closes = inl refl; mark = 1; in_loop = inl refl; accepts = refl }

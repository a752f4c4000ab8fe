-- 01 "Numbers refused", 9 to 13: which one a run's arguments get, if any. The lent rooms count by their lengths.
use Rattle.std.specs.Prelude.{ℕ, ◌*◌, ◌<◌, ◌^◌, ◌≡◌, Bool, cond, not, ◌&&◌, List, leb, ltb, eqb, length}
use Rattle.graphs.specs.Lists.{all}
use Rattle.graphs.specs.Words.{is_graph}
use Rattle.graphs.specs.declared.graph.Graph.{Graph}
use Rattle.moves.specs.Room.{room_size}
use Rattle.limits.specs.declared.RunError.{RunError}
use Rattle.limits.specs.declared.RunError.TheVariants.{NoWorkers, NoGraph, RoomShort, LassoShort, NoSuchWorker}

abbrev pub most_workers : ℕ
most_workers = 8

-- 9: "worker count not 1 to 8"
abbrev pub workers_fit : ℕ → Bool
workers_fit P = leb 1 P && leb P most_workers

-- 11: "Room 11 is 2N + P × (5N + 4) 16-bit words"
abbrev pub room_fits : ℕ → ℕ → ℕ → Bool
room_fits room n P = leb (room_size n P) room

-- 12: "lasso room under 2N words"
abbrev pub lasso_fits : ℕ → ℕ → Bool
lasso_fits lasso n = leb (2 * n) lasso

-- 13: "a turn names worker P or above"
abbrev pub turns_fit : List ℕ → ℕ → Bool
turns_fit turns P = all (λ p. ltb p P) turns

-- 01: "A run checks 9, 10, 11, 12, 13 in that order, before its first move"; 0 if none is given
unfoldable pub refusal_of : (room lasso : ℕ) (turns offsets targets flags : List ℕ) (P : ℕ) → ℕ
refusal_of room lasso turns offsets targets flags P =
    let n = length flags in
    cond (not (workers_fit P)) 9
    (cond (not (is_graph offsets targets flags)) 10
    (cond (not (room_fits room n P)) 11 (cond (not (lasso_fits lasso n)) 12 (cond (not (turns_fit turns P)) 13 0))))

abbrev pub number_of : RunError → ℕ
number_of NoWorkers = 9
number_of NoGraph = 10
number_of RoomShort = 11
number_of LassoShort = 12
number_of NoSuchWorker = 13

-- no refusal is given, and g is the graph of the words
pub record Passed (g : Graph) (room lasso : ℕ) (turns offsets targets flags : List ℕ) (P : ℕ) : Type 0 where
  pub offsets_same : g.offsets.now ≡ offsets
  pub targets_same : g.targets.now ≡ targets
  pub flags_same : g.flags.now ≡ flags
  pub few_turns : length turns < 2 ^ 64
  pub not_refused : refusal_of room lasso turns offsets targets flags P ≡ 0

-- 01: "The run to the end takes worker count 0 too: it means the house's usual, two"
unfoldable pub usual : ℕ → ℕ
usual workers = cond (eqb workers 0) 2 workers

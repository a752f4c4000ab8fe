-- The label that the places name: a part of the text.
use Rattle.std.specs.Prelude.{ℕ, ◌+◌, ◌*◌, List, get_or, take, drop}

-- the label of state i: its start stands at place word 2 i, and its length after that
unfoldable pub label_at : (text places : List ℕ) → ℕ → List ℕ
label_at text places i = take (get_or places (2 * i + 1) 0) (drop (get_or places (2 * i) 0) text)

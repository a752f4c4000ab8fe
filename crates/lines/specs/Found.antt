-- What the functions of src/ find in a text from a place on. A label is handed on as its length and two words, which are its first eight bytes
-- and the rest of them, read as numbers in base 256. Labels have no byte 0, so different labels have different words (`words_differ`).
use Rattle.std.specs.Prelude.{ℕ, ◌+◌, ◌*◌, Bool, if◌then◌else◌, ◌&&◌, List, [], ◌∷◌, Option, Some, None, nat_lt, length, get_or, take, drop}
use Rattle.lines.specs.Line.{pieces, field, is_state, is_transition, flag_of}
use Rattle.lines.specs.declared.Label.{Label}
use Rattle.lines.specs.declared.StateLine.{StateLine}
use Rattle.lines.specs.declared.TransitionLine.{TransitionLine}

-- the bytes as a number in base 256, after the bytes that gave v
unfoldable pub value_from : ℕ → List ℕ → ℕ
value_from v [] = v
value_from v (b ∷ l) = value_from (v * 256 + b) l

abbrev pub first_word : List ℕ → ℕ
first_word label = value_from 0 (take 8 label)

abbrev pub second_word : List ℕ → ℕ
second_word label = value_from 0 (drop 8 label)

unfoldable pub label_of : List ℕ → Label
label_of label = record { len = length label; first = first_word label; second = second_word label }

-- the first line of what is left of a text; and that a line feed ends it
unfoldable pub first_line : List ℕ → List ℕ
first_line left = get_or (pieces left) 0 []

unfoldable pub ended : List ℕ → Bool
ended left = nat_lt 1 (length (pieces left))

-- where the line after it starts
abbrev pub past_line : ℕ → List ℕ → ℕ
past_line at line = at + length line + 1

-- what the line at a place is: a state, or a transition
unfoldable pub state_found : ℕ → List ℕ → Option StateLine
state_found at left =
    let line = first_line left in
    if ended left && is_state line then Some (record { label = label_of (field 1 line); flag = flag_of line; next = past_line at line })
    else None

unfoldable pub transition_found : ℕ → List ℕ → Option TransitionLine
transition_found at left =
    let line = first_line left in
    if ended left && is_transition line
    then Some (record { from = label_of (field 1 line); to = label_of (field 2 line); next = past_line at line })
    else None

-- The meaning of a text: line by line, the states and the transitions that it lists, or the first refusal with its line. 01 "The text" and
-- "Numbers refused", 1 to 8. A text, a line and a label are lists of bytes.
use Rattle.std.specs.Prelude.{ℕ, suc, ◌+◌, Bool, true, false, if◌then◌else◌, not, ◌&&◌, List, [], ◌∷◌, ◌++◌, ◌==◌, nat_le, nat_lt, length}
use Rattle.graphs.specs.Lists.{any, same}
use Rattle.lines.specs.Line.{pieces, field, is_state, is_transition, flag_of}

-- a state: its label, where the label starts in the text (in bytes from 0), and its flag, 1 for accepting
pub record State : Type 0 where
  pub label : List ℕ
  pub start : ℕ
  pub flag : ℕ

-- a transition: the numbers of its two states
pub record Transition : Type 0 where
  pub from : ℕ
  pub to : ℕ

-- how many states and how many transitions the rooms hold
pub record Rooms : Type 0 where
  pub for_states : ℕ
  pub for_transitions : ℕ

-- what was read before a line: the line's number, where it starts in the text, and the records so far, in the order of their lines
pub record Seen : Type 0 where
  pub line : ℕ
  pub at : ℕ
  pub states : List State
  pub transitions : List Transition

-- what a text means: everything was read, or a line is refused (0: no line is named)
pub data Meaning : Type 0 where
  reads : Seen → Meaning
  refused : (number line : ℕ) → Meaning

unfoldable pub is_nil {ℓ} : {A : Type ℓ} → List A → Bool
is_nil [] = true
is_nil (x ∷ l) = false

-- 01: labels are "compared byte by byte"
unfoldable pub declared : List ℕ → List State → Bool
declared label states = any (λ s. same label s.label) states

-- 01: "States are numbered from 0 in S order"
unfoldable pub number_of : List ℕ → List State → ℕ
number_of label [] = 0
number_of label (s ∷ states) = if same label s.label then 0 else suc (number_of label states)

unfoldable pub transition_of : List ℕ → List State → Transition
transition_of line states = record { from = number_of (field 1 line) states; to = number_of (field 2 line) states }

-- the same pair stood before
unfoldable pub stood : Transition → List Transition → Bool
stood t transitions = any (λ u. u.from == t.from && u.to == t.to) transitions

-- what was read once this line was: two bytes, `S` and a tab, stand before a state's label
unfoldable pub with_state : List ℕ → Seen → Seen
with_state line seen =
    record {
      line = suc seen.line;
      at = seen.at + length line + 1;
      states = seen.states ++ (record { label = field 1 line; start = seen.at + 2; flag = flag_of line } ∷ []);
      transitions = seen.transitions;
    }

unfoldable pub with_transition : List ℕ → Seen → Seen
with_transition line seen =
    record {
      line = suc seen.line;
      at = seen.at + length line + 1;
      states = seen.states;
      transitions = seen.transitions ++ (transition_of line seen.states ∷ []);
    }

-- 01: "within an S line 2, 3, 6"; an S line that follows a T line is refused as 2
unfoldable pub state_line : Rooms → List ℕ → Seen → Meaning
state_line rooms line seen =
    if not (is_nil seen.transitions) then refused 2 seen.line
    else if declared (field 1 line) seen.states then refused 3 seen.line
    else if nat_le rooms.for_states (length seen.states) then refused 6 seen.line
    else reads (with_state line seen)

-- 01: "within a T line 2, 4, 5, 7"
unfoldable pub transition_line : Rooms → List ℕ → Seen → Meaning
transition_line rooms line seen =
    if not (declared (field 1 line) seen.states && declared (field 2 line) seen.states) then refused 4 seen.line
    else if stood (transition_of line seen.states) seen.transitions then refused 5 seen.line
    else if nat_le rooms.for_transitions (length seen.transitions) then refused 7 seen.line
    else reads (with_transition line seen)

unfoldable pub one_line : Rooms → List ℕ → Seen → Meaning
one_line rooms line seen =
    if is_state line then state_line rooms line seen
    else if is_transition line then transition_line rooms line seen
    else refused 2 seen.line

-- 01: "The first refused line ends the reading."
abbrev pub then_on : Meaning → (Seen → Meaning) → Meaning
then_on (reads seen) more = more seen
then_on (refused number line) more = refused number line

-- the end of the text: a last line without its line feed is refused as 2, and no S line as 8
unfoldable pub at_end : List ℕ → Seen → Meaning
at_end rest seen =
    if not (is_nil rest) then refused 2 seen.line
    else if is_nil seen.states then refused 8 0
    else reads seen

-- the lines of a text and, last, what stands after its last line feed
unfoldable pub read_lines : Rooms → List (List ℕ) → Seen → Meaning
read_lines rooms [] seen = at_end [] seen
read_lines rooms (rest ∷ []) seen = at_end rest seen
read_lines rooms (line ∷ next ∷ more) seen = then_on (one_line rooms line seen) (λ s. read_lines rooms (next ∷ more) s)

-- 01: "Lines count from 1"
abbrev pub nothing : Seen
nothing = record { line = 1; at = 0; states = []; transitions = [] }

abbrev pub most_text : ℕ
most_text = 1048576

-- 01: "Order: 1 first; then line by line ..; then 8"
unfoldable pub meaning : Rooms → List ℕ → Meaning
meaning rooms text = if nat_lt most_text (length text) then refused 1 0 else read_lines rooms (pieces text) nothing

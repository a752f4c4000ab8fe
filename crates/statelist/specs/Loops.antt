-- What the private loops of src/ ask and promise. No public contract cites this page. What was read so far stands in the lent lists and in the
-- text, and what is left of the reading is said by the page `Text` of `text`.
use Rattle.std.specs.Prelude.{ℕ, suc, ◌+◌, ◌*◌, ◌<◌, ◌≤◌, ◌≡◌, true, List, [], ◌≢◌, length, get_or, drop, Some, None, Result, Ok, Err}
use Rattle.graphs.specs.Lists.{tab}
use Rattle.lines.specs.Line.{pieces, is_label}
use Rattle.lines.specs.Found.{first_word, second_word, state_found, transition_found}
use Rattle.lines.specs.declared.Label.{Label}
use Rattle.lines.specs.declared.StateLine.{StateLine}
use Rattle.pairs.specs.Pairs.{is_pair, found}
use Rattle.pairs.specs.declared.Index.{Index}
use Rattle.text.specs.Text.{State, Transition, Rooms, Meaning, reads, refused, read_lines}
use Rattle.text.specs.Lists.{refusal, targets_from, filled}
use Rattle.statelist.specs.Told.{error_number, error_line, told, comes}
use Rattle.text.specs.Labels.{label_at}
use Rattle.statelist.specs.declared.Size.{Size}
use Rattle.statelist.specs.declared.ReadError.{ReadError}
use Rattle.statelist.specs.declared.transitions.Step.{Step}

-- the states that stand in the lists of flags and places, and the transitions in two lists of numbers
unfoldable pub state_at : (text flags places : List ℕ) → ℕ → State
state_at text flags places i = record { label = label_at text places i; start = get_or places (2 * i) 0; flag = get_or flags i 0 }

unfoldable pub states_in : (text flags places : List ℕ) → ℕ → List State
states_in text flags places n = tab 0 n (state_at text flags places)

unfoldable pub transitions_in : (from to : List ℕ) → ℕ → List Transition
transitions_in from to e = tab 0 e (λ i. record { from = get_or from i 0; to = get_or to i 0 })

-- the pairs of an index as transitions
abbrev pub transitions_of : Index 16384 → List Transition
transitions_of pairs = transitions_in pairs.first pairs.second pairs.len

-- what the text means from a place on, once these states and transitions were read, a line each
unfoldable pub from_here : Rooms → List ℕ → ℕ → List State → List Transition → Meaning
from_here rooms text at states transitions =
    read_lines rooms (pieces (drop at text))
    (record { line = suc (length states + length transitions); at = at; states = states; transitions = transitions })

-- the labels of the first n states are labels, all different, and their two words stand in two lists
pub record Labelled (text places first second : List ℕ) (n : ℕ) : Type 0 where
  pub labels : (i : ℕ) → i < n → is_label (label_at text places i) ≡ true
  pub lengths : (i : ℕ) → i < n → length (label_at text places i) ≡ get_or places (2 * i + 1) 0
  pub firsts : (i : ℕ) → i < n → get_or first i 0 ≡ first_word (label_at text places i)
  pub seconds : (i : ℕ) → i < n → get_or second i 0 ≡ second_word (label_at text places i)
  pub differ : (i j : ℕ) → i < n → j < n → label_at text places i ≡ label_at text places j → i ≡ j

-- the words from n on are 0
abbrev pub Blank : List ℕ → ℕ → Type 0
Blank l n = (i : ℕ) → n ≤ i → get_or l i 0 ≡ 0

-- the refusal is what the text means
abbrev pub Refused : ReadError → Meaning → Type 0
Refused error means = means ≡ refused (error_number error) (error_line error)

-- rooms that hold so many states, and t transitions
abbrev pub room_for : ℕ → ℕ → Rooms
room_for held t = record { for_states = held; for_transitions = t }

-- n states were read up to a place of the text, whatever the room for transitions
pub record Declared (text : List ℕ) (held : ℕ) (flags places first second : List ℕ) (at n : ℕ) : Type 0 where
  pub same : (t : ℕ) → from_here (room_for held t) text at (states_in text flags places n) [] ≡ from_here (room_for held t) text 0 [] []
  pub labelled : Labelled text places first second n
  pub few : n ≤ held
  pub in_text : at ≤ length text
  pub flags_blank : Blank flags n
  pub places_blank : Blank places (2 * n)

-- what the S line at a place gives, whatever was read before it: a new state that there is room for, or a refusal
pub record StateNew (text : List ℕ) (held : ℕ) (first second : List ℕ) (at n : ℕ) (line : StateLine) : Type 0 where
  pub stands : state_found at (drop at text) ≡ Some line
  pub new : found (is_pair first second line.label.first line.label.second) n ≡ None
  pub room : n < held

abbrev pub StateNext : (text : List ℕ) (held : ℕ) (labels : Index 4096) (at : ℕ) → Result StateLine ReadError → Type 0
StateNext text held labels at (Ok line) = StateNew text held labels.first labels.second at labels.len line
StateNext text held labels at (Err error) =
    (flags places : List ℕ) (t : ℕ) → Declared text held flags places labels.first labels.second at labels.len
    → Refused error (from_here (room_for held t) text 0 [] [])

-- what reading the S lines gives: the line that it went to is none of them
abbrev pub StatesRead : (text : List ℕ) (held : ℕ) (flags places : List ℕ) (labels : Index 4096) → Result ℕ ReadError → Type 0
StatesRead text held flags places labels (Ok at) =
    Declared text held flags places labels.first labels.second at labels.len × (get_or text at 0 ≢ 83)
StatesRead text held flags places labels (Err error) = (t : ℕ) → Refused error (from_here (room_for held t) text 0 [] [])

-- e transitions were read from `start` up to a place of the text, and counted by their sources in `offsets`; whatever the flags of the states, and
-- the room for states
pub record Listed (text : List ℕ) (held n start : ℕ) (first second offsets from to : List ℕ) (at e : ℕ) : Type 0 where
  pub same : (flags places : List ℕ) (h : ℕ) → Labelled text places first second n
      → from_here (room_for h held) text at (states_in text flags places n) (transitions_in from to e)
      ≡ from_here (room_for h held) text start (states_in text flags places n) []
  pub counts : (v : ℕ) → get_or offsets v 0 ≡ length (targets_from v (transitions_in from to e))
  pub below : (i : ℕ) → i < e → (get_or from i 0 < n) × (get_or to i 0 < n)
  pub few : e ≤ held
  pub in_text : at ≤ length text
  pub letter : e ≡ 0 → get_or text at 0 ≢ 83

-- what the T line at a place gives: a new pair of states that there is room for, or a refusal
pub record TransitionNew (text : List ℕ) (held n : ℕ) (first second from to : List ℕ) (at e : ℕ) (step : Step) : Type 0 where
  pub source : Label
  pub target : Label
  pub stands : transition_found at (drop at text) ≡ Some (record { from = source; to = target; next = step.next })
  pub source_is : found (is_pair first second source.first source.second) n ≡ Some step.from
  pub target_is : found (is_pair first second target.first target.second) n ≡ Some step.to
  pub new : found (is_pair from to step.from step.to) e ≡ None
  pub room : e < held

abbrev pub TransitionNext : (text : List ℕ) (held : ℕ) (labels : Index 4096) (pairs : Index 16384) (at : ℕ) → Result Step ReadError → Type 0
TransitionNext text held labels pairs at (Ok step) =
    TransitionNew text held labels.len labels.first labels.second pairs.first pairs.second at pairs.len step
TransitionNext text held labels pairs at (Err error) =
    (start : ℕ) (offsets flags places : List ℕ) (h : ℕ)
    → Listed text held labels.len start labels.first labels.second offsets pairs.first pairs.second at pairs.len
    → Labelled text places labels.first labels.second labels.len
    → Refused error (from_here (room_for h held) text start (states_in text flags places labels.len) [])

-- what reading the T lines gives, up to the end of the text
abbrev pub TransitionsRead : (text : List ℕ) (held start : ℕ) (labels : Index 4096) (offsets : List ℕ) (pairs : Index 16384)
    → Result Unit ReadError → Type 0
TransitionsRead text held start labels offsets pairs (Ok done) =
    (at : ℕ) × (Listed text held labels.len start labels.first labels.second offsets pairs.first pairs.second at pairs.len × (length text ≤ at))
TransitionsRead text held start labels offsets pairs (Err error) =
    (flags places : List ℕ) (h : ℕ) → Labelled text places labels.first labels.second labels.len
    → Refused error (from_here (room_for h held) text start (states_in text flags places labels.len) [])

-- what comes of the lists once the text is read: if it is refused, they may be left in any state
abbrev pub Fills : (offsets targets flags places : List ℕ) → Result Size ReadError → Meaning → Type 0
Fills offsets targets flags places r (reads seen) =
    comes r offsets targets flags places ≡ filled (length offsets) (length targets) (length flags) (length places) (reads seen)
Fills offsets targets flags places r (refused number line) = told r ≡ refusal number line

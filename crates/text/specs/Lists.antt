-- The four lists and the answer that a reading gives: 01 "The reader fills four lent lists". A lent list is known by its length; what stood in it
-- before does not count.
use Rattle.std.specs.Prelude.{ℕ, zero, suc, ◌-◌, ◌/◌, min, if◌then◌else◌, List, [], ◌∷◌, ◌++◌, map, ◌==◌, length, replicate}
use Rattle.graphs.specs.Lists.{tab}
use Rattle.graphs.specs.Words.{most_states, most_transitions}
use Rattle.text.specs.Text.{State, Transition, Rooms, Meaning, reads, refused, meaning}

abbrev pub zeros : ℕ → List ℕ
zeros k = replicate k 0

-- 01: "Unused words become 0"
unfoldable pub padded : ℕ → List ℕ → List ℕ
padded k l = l ++ zeros (k - length l)

-- 01: "label places (for each state the start, in bytes from 0, and the length of its S label"
unfoldable pub places_of : List State → List ℕ
places_of [] = []
places_of (s ∷ states) = s.start ∷ length s.label ∷ places_of states

unfoldable pub flags_of : List State → List ℕ
flags_of states = map (λ s. s.flag) states

-- 01: "The successors of a state come in the order of its T lines"
unfoldable pub targets_from : ℕ → List Transition → List ℕ
targets_from s [] = []
targets_from s (t ∷ transitions) = if t.from == s then t.to ∷ targets_from s transitions else targets_from s transitions

-- the targets of the first n states, joined
unfoldable pub targets_of : ℕ → List Transition → List ℕ
targets_of zero transitions = []
targets_of (suc n) transitions = targets_of n transitions ++ targets_from n transitions

-- where the targets of each of n states start, and where the last ones end
unfoldable pub offsets_of : ℕ → List Transition → List ℕ
offsets_of n transitions = tab 0 (suc n) (λ s. length (targets_of s transitions))

-- 01: "The rooms hold as many states as the least of 4,096, offset words less one (0 if there are none), flag words and half the place words
-- rounded down; and as many transitions as the lesser of 16,384 and target words."
abbrev pub states_held : (offsets flags places : ℕ) → ℕ
states_held offsets flags places = min most_states (min (offsets - 1) (min flags (places / 2)))

abbrev pub transitions_held : (targets : ℕ) → ℕ
transitions_held targets = min most_transitions targets

unfoldable pub rooms_of : (offsets targets flags places : ℕ) → Rooms
rooms_of offsets targets flags places =
    record { for_states = states_held offsets flags places; for_transitions = transitions_held targets }

-- what a reader is told: the numbers of states and transitions, or 01's number of the refusal and its line
pub data Told : Type 0 where
  graph : (states transitions : ℕ) → Told
  refusal : (number line : ℕ) → Told

-- what comes of a call: what is told, and the four lists
pub record Outcome : Type 0 where
  pub tells : Told
  pub offsets : List ℕ
  pub targets : List ℕ
  pub flags : List ℕ
  pub places : List ℕ

-- 01: "A refused reading sets all lent words to 0."
abbrev pub filled : (offsets targets flags places : ℕ) → Meaning → Outcome
filled o t f p (reads seen) =
    let n = length seen.states in
    record {
      tells = graph n (length seen.transitions);
      offsets = padded o (offsets_of n seen.transitions);
      targets = padded t (targets_of n seen.transitions);
      flags = padded f (flags_of seen.states);
      places = padded p (places_of seen.states);
    }
filled o t f p (refused number line) =
    record { tells = refusal number line; offsets = zeros o; targets = zeros t; flags = zeros f; places = zeros p }

-- reading a text into four lists of these lengths
unfoldable pub outcome : (offsets targets flags places : ℕ) → List ℕ → Outcome
outcome o t f p text = filled o t f p (meaning (rooms_of o t f p) text)

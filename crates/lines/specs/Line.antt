-- Labels, and the two forms of a line. A text, a line and a label are lists of bytes. 01: "One record a line, fields parted by one tab, each line
-- ended by a line feed, the last too."
use Rattle.std.specs.Prelude.{ℕ, Bool, if◌then◌else◌, ◌&&◌, ◌||◌, List, [], ◌∷◌, ◌==◌, length, get_or}
use Rattle.graphs.specs.Lists.{all, same}
use Rattle.lines.specs.Bytes.{between, in_label}

-- l cut at every byte c: what stands before the first, between each and the next, and after the last
unfoldable pub onto : ℕ → List (List ℕ) → List (List ℕ)
onto b [] = (b ∷ []) ∷ []
onto b (piece ∷ pieces) = (b ∷ piece) ∷ pieces

unfoldable pub cut : ℕ → List ℕ → List (List ℕ)
unfolding onto
cut c [] = [] ∷ []
cut c (b ∷ l) = if b == c then [] ∷ cut c l else onto b (cut c l)

-- the pieces of a text between its line feeds: its lines, and what stands after the last line feed; the fields of a line
abbrev pub pieces : List ℕ → List (List ℕ)
pieces = cut 10

abbrev pub fields : List ℕ → List (List ℕ)
fields = cut 9

abbrev pub field : ℕ → List ℕ → List ℕ
field k line = get_or (fields line) k []

-- 01: "A label is 1 to 16 bytes of A–Z, a–z, 0–9, `-`, `_`, `.`"
unfoldable pub is_label : List ℕ → Bool
is_label l = between 1 16 (length l) && all in_label l

-- `S`, `T`, and the flags `a` and `-`
abbrev pub S : List ℕ
S = 83 ∷ []

abbrev pub T : List ℕ
T = 84 ∷ []

abbrev pub accepting : List ℕ
accepting = 97 ∷ []

abbrev pub plain : List ℕ
plain = 45 ∷ []

-- 01: "`S→label→flag`: a state; flag `a` (accepting) or `-`"
unfoldable pub is_state : List ℕ → Bool
is_state line =
    length (fields line) == 3
    && same (field 0 line) S
    && is_label (field 1 line)
    && (same (field 2 line) accepting || same (field 2 line) plain)

-- 01: "`T→label→label`: a transition, from and to"
unfoldable pub is_transition : List ℕ → Bool
is_transition line =
    length (fields line) == 3
    && same (field 0 line) T
    && is_label (field 1 line)
    && is_label (field 2 line)

-- the flag's word: 1 for `a`, 0 for `-`
unfoldable pub flag_of : List ℕ → ℕ
flag_of line = if same (field 2 line) accepting then 1 else 0

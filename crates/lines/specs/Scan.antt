-- What the private functions of src/scan.rt find first in what is left of a text. No public contract cites this page.
use Rattle.std.specs.Prelude.{ℕ, ◌<◌, ◌≡◌, List, ◌++◌, length, take}
use Rattle.std.specs.List.{prefix_len, take_while}
use Rattle.lines.specs.Bytes.{in_label}
use Rattle.lines.specs.Found.{value_from, label_of}
use Rattle.lines.specs.declared.Label.{Label}
use Rattle.lines.specs.declared.scan.Part.{Part}

-- the label bytes that stand first among eight bytes or fewer, and their word
unfoldable pub part_of : List ℕ → Part
part_of few = record { len = prefix_len in_label few; word = value_from 0 (take_while in_label few) }

-- the label bytes, up to 16, that stand first
abbrev pub label_here : List ℕ → List ℕ
label_here left = take_while in_label (take 16 left)

-- what is left begins with this label, and the rest stands after it
pub record Begins (left : List ℕ) (label : Label) (rest : List ℕ) : Type 0 where
  pub some : 0 < length (label_here left)
  pub words : label ≡ label_of (label_here left)
  pub is : left ≡ label_here left ++ rest

-- The kinds of bytes. 01: "The reader sorts bytes by a table of 256 byte kinds (upper, lower, digit, mark, tab, line feed, other)".
use Rattle.std.specs.Prelude.{ℕ, Bool, true, false, if◌then◌else◌, ◌&&◌, ◌||◌, List, ◌==◌, nat_le}
use Rattle.graphs.specs.Lists.{tab}
use Rattle.lines.specs.declared.kinds.Kind.{Kind}
use Rattle.lines.specs.declared.kinds.Kind.TheVariants.{Upper, Lower, Digit, Mark, Tab, LineFeed, Other}

unfoldable pub between : ℕ → ℕ → ℕ → Bool
between low high x = nat_le low x && nat_le x high

-- 01: "A–Z, a–z, 0–9, `-`, `_`, `.`"
unfoldable pub kind_of : ℕ → Kind
kind_of b =
    if between 65 90 b then Upper
    else if between 97 122 b then Lower
    else if between 48 57 b then Digit
    else if b == 45 || b == 95 || b == 46 then Mark
    else if b == 9 then Tab
    else if b == 10 then LineFeed
    else Other

-- the kinds of a label's bytes
abbrev pub of_label : Kind → Bool
of_label Upper = true
of_label Lower = true
of_label Digit = true
of_label Mark = true
of_label Tab = false
of_label LineFeed = false
of_label Other = false

-- a byte that a label may hold
unfoldable pub in_label : ℕ → Bool
in_label b = of_label (kind_of b)

-- the kinds of all bytes
unfoldable pub kind_table : List Kind
kind_table = tab 0 256 kind_of

-- The table of kinds has 256 entries, and the kind of every byte: its rule is proved once for all of them, by computing.
use Prim.Native.Nat.{ℕ, ◌<◌}
use mathlib.Core.Path.{◌≡◌, refl, ap, ◌∙◌}
use mathlib.Core.List.{List}
use lib.ListN.{length, get_or}
use Rattle.graphs.specs.Lists.{tab}
use Rattle.graphs.proofs.Tab.{tab_long, tab_word}
use Rattle.lines.specs.Bytes.{between, kind_of, kind_table}
use Rattle.lines.specs.declared.kinds.Kind.{Kind}
use Rattle.lines.specs.declared.kinds.TheConstants.{KINDS}

pub table_long : length kind_table ≡ 256
unfolding kind_table
table_long = tab_long 0 256 kind_of

pub table_is_rule : KINDS ≡ kind_table
unfolding kind_table tab kind_of between
table_is_rule = refl

-- what a list that is the table has at a byte
pub table_at : (l : List Kind) (byte : ℕ) (d : Kind) → l ≡ kind_table → byte < 256 → get_or l byte d ≡ kind_of byte
unfolding kind_table
table_at l byte d is h = ap (λ (l : List Kind). get_or l byte d) is ∙ tab_word 256 kind_of byte d h

-- `first_part` meets its contract. The bytes so far are a label's, and `word` is their word.
use mathlib.Core.Path.{◌≡◌}
use lib.ListN.{take}
use Rattle.lines.proofs.Part.{Taken}
use Rattle.lines.proofs.scan.first_part.Given as goal

abbrev pub invariant-loop-byte : goal.invariant-loop-byte
invariant-loop-byte l = record {
  taken : Taken (take 8 l.left) l.byte-index l.word;
  all : l.len ≡ l.byte-index;
}

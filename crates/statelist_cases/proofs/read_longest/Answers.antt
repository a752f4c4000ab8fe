-- `read_longest` lends all but one of the bytes.
use Rattle.std.proofs.Common.{arith, sym}
use Rattle.std.proofs.lemmas.List.{length-take-le}
use Rattle.statelist_cases.proofs.read_longest.Goals as goal

pub slice_bounds-read-end : goal.slice_bounds-read-end
slice_bounds-read-end g c = let text = c.line-text in sym (length-take-le 1048576 text.result (omega (arith, text.ensures)))

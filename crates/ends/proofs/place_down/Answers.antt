-- `place_down` meets its contract: by `is_place_down`, from what the iterator finds.
use Rattle.std.proofs.Common.{rules, ◌∙◌}
use Rattle.ends.proofs.Down.{is_place_down}
use Rattle.ends.proofs.place_down.Goals as goal

pub returns : goal.returns
returns c = c.unwrap_or.ensures ∙ is_place_down c.rposition.result _ _ (search rules) (search rules) (search rules)

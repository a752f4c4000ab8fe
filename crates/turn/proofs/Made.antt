-- By the contract of `turn`, the move that it chooses is the machine's, and what it writes is the form of the machine after the move, rule by rule.
use Prim.Native.Nat.{ℕ}
use mathlib.Core.Path.{◌≡◌, ap, ◌∙◌}
use mathlib.Core.List.{List, ◌++◌}
use lib.ListN.{length}
use Rattle.graphs.specs.Words.{graph_of}
use Rattle.moves.specs.declared.Move.{Move}
use Rattle.moves.specs.Machine.{Machine}
use Rattle.moves.specs.Moves.{Made}
use Rattle.moves.specs.Room.{room}
use Rattle.theory.specs.Rules.{Rule}
use Rattle.turn.specs.Turn.{Turned}
use Rattle.turn.proofs.Given.{Given}
use Rattle.turn.proofs.Rules.{rule_is}

module _ {offsets targets flags : List ℕ} {P p : ℕ} {m : Machine} {rest l l' : List ℕ} {r : Move} (x : Given offsets targets flags P p m rest l)
    (t : Turned offsets targets flags p P m rest l' r) where
  pub turn_chosen_is : (made : Made) → Rule (graph_of offsets targets flags) p m made → r ≡ made.move
  turn_chosen_is made rule = t.move ∙ ap (λ a. a.move) (rule_is (graph_of offsets targets flags) p m (x.formed.inv.local p) made rule)

  pub turn_made_is : (made : Made) → Rule (graph_of offsets targets flags) p m made → l' ≡ room (length flags) P made.machine ++ rest
  turn_made_is made rule =
      t.room' ∙ ap (λ a. room (length flags) P a.machine ++ rest) (rule_is (graph_of offsets targets flags) p m (x.formed.inv.local p) made rule)

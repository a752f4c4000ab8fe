-- A turn: with the place and the depths that the room tells, what choosing and making ask is given, and what they give is the machine's turn. So a turn
-- that is the machine's is what the words give.
use Prim.Native.Nat.{ℕ, ◌+◌, ◌*◌}
use mathlib.Core.Path.{◌≡◌, sym, ap, subst, ◌∙◌}
use mathlib.Core.List.{List}
use lib.ListN.{length}
use Rattle.graphs.specs.Graph.{Graph}
use Rattle.graphs.specs.Words.{graph_of}
use Rattle.moves.specs.declared.Move.{Move}
use Rattle.moves.specs.Machine.{Machine}
use Rattle.moves.specs.Moves.{turn}
use Rattle.moves.specs.Room.{stretch_at}
use Rattle.theory.specs.Rules.{Rule}
use Rattle.theory.proofs.Rules.{obeys}
use Rattle.moves.specs.declared.own.Own.{Own}
use Rattle.moves.specs.Own.{own_of, own_in}
use Rattle.turn.specs.Look.{Ready, chosen}
use Rattle.turn.specs.Made.{made_words, Fit}
use Rattle.turn.specs.Turn.{Turned, WordsTurned}
use Rattle.turn.proofs.Given.{Given, shallow_after, own_is}
use Rattle.turn.proofs.Chosen.{chosen_is, ready}
use Rattle.turn.proofs.Making.{made_is, fit}

module _ {offsets targets flags : List ℕ} {P p : ℕ} {m : Machine} {rest l : List ℕ} (x : Given offsets targets flags P p m rest l) where
  abbrev n : ℕ
  n = length flags

  abbrev g : Graph
  g = graph_of offsets targets flags

  abbrev a : ℕ
  a = stretch_at n p

  rule : Rule g p m (turn g p m)
  rule = obeys g p m (x.formed.inv.local p)

  module _ (own : Own) (e : own ≡ own_in l (a + 5 * n)) where
    own_known : own_of (m.worker p) ≡ own
    own_known = sym (e ∙ own_is x)

    pub ready_own : Ready offsets targets flags a own l
    ready_own = subst (λ o. Ready offsets targets flags a o l) own_known (ready x (turn g p m) rule)

    module _ (made : Move) (c : made ≡ chosen offsets targets flags a p own l) where
      move_is : made ≡ (turn g p m).move
      move_is = c ∙ ap (λ o. chosen offsets targets flags a p o l) (sym own_known) ∙ chosen_is x (turn g p m) rule

      pub fit_own : Fit n a own made l
      fit_own =
          subst (λ o. Fit n a o made l) own_known
          (subst (λ v. Fit n a (own_of (m.worker p)) v l) (sym move_is) (fit x (turn g p m) rule (shallow_after x)))

      pub turned : (l' : List ℕ) → l' ≡ made_words n a own made l → Turned offsets targets flags p P m rest l' made
      turned l' q =
          record {
            move = move_is;
            room' =
                q
                ∙ ap (λ o. made_words n a o made l) (sym own_known)
                ∙ ap (λ v. made_words n a (own_of (m.worker p)) v l) move_is
                ∙ made_is x (turn g p m) rule (shallow_after x);
          }

  pub words_turned : {l' : List ℕ} {r : Move} → Turned offsets targets flags p P m rest l' r → WordsTurned offsets targets flags p l l' r
  words_turned {r = r} t =
      record {
        choice = t.move ∙ sym (chosen_is x (turn g p m) rule) ∙ ap (λ o. chosen offsets targets flags a p o l) (sym (own_is x));
        made =
            t.room'
            ∙ sym (made_is x (turn g p m) rule (shallow_after x))
            ∙ ap (λ v. made_words n a (own_of (m.worker p)) v l) (sym t.move)
            ∙ ap (λ o. made_words n a o r l) (sym (own_is x));
      }

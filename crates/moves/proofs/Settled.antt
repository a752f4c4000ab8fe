-- A contract that is one equation settles the call: two outcomes that it allows are the same.
use Rattle.std.proofs.Common.{ℕ, ◌≡◌, Bool, List}
use Rattle.graphs.proofs.Settled.{settled}
use Rattle.moves.specs.declared.Place.{Place}
use Rattle.moves.specs.declared.Move.{Move}
use Rattle.moves.specs.declared.Tally.{Tally}
use Rattle.moves.specs.Place.{started, left, seeded, backed, painted}
use Rattle.moves.specs.Tally.{raised}
use Rattle.moves.specs.Room.{words_of, place_of}

module _ (q : Place) {r r' : Place} where
  pub started_settled : r ≡ started q → r' ≡ started q → r ≡ r'
  started_settled = settled

  pub left_settled : (last : Bool) → r ≡ left q last → r' ≡ left q last → r ≡ r'
  left_settled last = settled

  pub seeded_settled : (top : ℕ) → r ≡ seeded q top → r' ≡ seeded q top → r ≡ r'
  seeded_settled top = settled

  pub backed_settled : (last : Bool) → r ≡ backed q last → r' ≡ backed q last → r ≡ r'
  backed_settled last = settled

  pub painted_settled : (last : Bool) → r ≡ painted q last → r' ≡ painted q last → r ≡ r'
  painted_settled last = settled

pub raised_settled : (t : Tally) (made : Move) {r r' : Tally} → r ≡ raised t made → r' ≡ raised t made → r ≡ r'
raised_settled t made = settled

pub words_settled : (q : Place) {r r' : List ℕ} → r ≡ words_of q → r' ≡ words_of q → r ≡ r'
words_settled q = settled

pub place_of_settled : (kind seed : ℕ) {r r' : Place} → r ≡ place_of kind seed → r' ≡ place_of kind seed → r ≡ r'
place_of_settled kind seed = settled

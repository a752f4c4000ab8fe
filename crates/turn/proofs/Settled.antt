-- The contracts settle the calls: two outcomes that the contract of `turn` allows are the same, and so are two stretches whose words are, as the clause
-- `stores` of a move has them.
use Prim.Native.Nat.{ℕ}
use mathlib.Core.Path.{◌≡◌, refl, sym, ap, ◌∙◌}
use mathlib.Core.List.{List}
use lib.ListN.{get_or}
use Rattle.moves.specs.declared.Move.{Move}
use Rattle.moves.proofs.Room.{place_one}
use Rattle.turn.specs.declared.stretch.Stretch.{Stretch}
use Rattle.turn.specs.Stores.{words}
use Rattle.turn.specs.Turn.{Poised, Turns}
use Rattle.turn.proofs.Put.{apart, last_words, parts_even}

pub turn_settled : (offsets targets flags : List ℕ) (p : ℕ) (l : List ℕ) → Poised offsets targets flags p l
    → (l' l'' : List ℕ) (r r' : Move) → Turns offsets targets flags p l l' r → Turns offsets targets flags p l l'' r' → (l' ≡ l'') × (r ≡ r')
turn_settled offsets targets flags p l x l' l'' r r' a b =
    let one = a x.workers x.machine x.rest x.named x.formed in
    let other = b x.workers x.machine x.rest x.named x.formed in
    (one.room' ∙ sym other.room', one.move ∙ sym other.move)

-- the parts, the place and the depths are the same
pub record SameStretch (k k' : Stretch) : Type 0 where
  pub place : k.place ≡ k'.place
  pub cyan : k.cyan.now ≡ k'.cyan.now
  pub gathered : k.gathered.now ≡ k'.gathered.now
  pub outer : k.outer.now ≡ k'.outer.now
  pub inner : k.inner.now ≡ k'.inner.now
  pub taken : k.taken.now ≡ k'.taken.now
  pub outer_depth : k.outer_depth ≡ k'.outer_depth
  pub inner_depth : k.inner_depth ≡ k'.inner_depth

pub stretch_settled : (l : List ℕ) (k k' : Stretch) → words k ≡ l → words k' ≡ l → SameStretch k k'
stretch_settled l k k' a b =
    let p = apart (last_words k) (last_words k') (parts_even k) (parts_even k') refl (a ∙ sym b) in
    record {
      place = place_one k.place k'.place (ap (λ l. get_or l 0 0) p.same_6) (ap (λ l. get_or l 1 0) p.same_6);
      cyan = p.same_1;
      gathered = p.same_2;
      outer = p.same_3;
      inner = p.same_4;
      taken = p.same_5;
      outer_depth = ap (λ l. get_or l 2 0) p.same_6;
      inner_depth = ap (λ l. get_or l 3 0) p.same_6;
    }

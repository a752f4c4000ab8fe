-- The contracts settle the calls: two results that one of them allows, for `insert` the four lists, and for `Index::insert` the
-- number of pairs too, are the same.
use Prim.Native.Nat.{ℕ, ◌+◌}
use mathlib.Core.Path.{◌≡◌}
use mathlib.Core.List.{List}
use Rattle.graphs.proofs.Settled.{settled}
use Rattle.std.proofs.Common.{Option}
use Rattle.pairs.specs.Pairs.{is_pair, found, Lists, inserted}

pub find_settled : (first second : List ℕ) (n a b : ℕ) (r r' : Option ℕ)
    → r ≡ found (is_pair first second a b) n → r' ≡ found (is_pair first second a b) n → r ≡ r'
find_settled first second n a b r r' = settled

pub insert_settled : (l : Lists) (n a b : ℕ) (r r' : Lists) → r ≡ inserted l n a b → r' ≡ inserted l n a b → r ≡ r'
insert_settled l n a b r r' = settled

pub index_insert_settled : (l : Lists) (n a b : ℕ) (r r' : Lists) (m m' : ℕ) → r ≡ inserted l n a b → m ≡ n + 1 → r' ≡ inserted l n a b → m' ≡ n + 1
    → (r ≡ r') × (m ≡ m')
index_insert_settled l n a b r r' m m' e q e' q' = (settled e e', settled q q')

-- The waiting test, from what it says of each state to the machine's test of all.
use Prim.Native.Nat.{ℕ}
use mathlib.Core.Path.{◌≡◌, refl, sym, ◌∙◌}
use mathlib.Core.Bool.{Bool, true, false, not, ◌&&◌, ◌||◌}
use mathlib.Core.List.{List}
use lib.ListN.{length}
use native.Mathlib.Omega.{arith}
use borrow.Author.Tests.{eqb-true, eqb-false, ne_eqb, eq-eqb}
use Rattle.std.specs.Prelude.{IsTrue, ◌↔◌}
use Rattle.graphs.specs.Words.{marked, graph_of}
use Rattle.graphs.specs.Graph.{graph}
use Rattle.graphs.proofs.Bridge.{is_every}
use Rattle.graphs.proofs.Tests.{clash}
use Rattle.moves.specs.Machine.{Machine}
use Rattle.moves.specs.Moves.{others_red}
use Rattle.moves.specs.Words.{IsSet}
use Rattle.moves.proofs.Stores.{set_long, set_test}
use Rattle.turn.specs.Others.{OthersRed}

test_of : (h m e r : Bool) → (h ≡ true → m ≡ true → e ≡ false → r ≡ true) → (not (h && m && not e) || r) ≡ true
test_of true true false r all = all refl refl refl
test_of true true true r all = refl
test_of true false e r all = refl
test_of false m e r all = refl

of_test : (h m e r : Bool) → (not (h && m && not e) || r) ≡ true → h ≡ true → m ≡ true → e ≡ false → r ≡ true
of_test true true false r t a b c = t
of_test true true true r t a b c = absurd (clash refl c)
of_test true false e r t a b c = absurd (clash b refl)
of_test false m e r t a b c = absurd (clash a refl)

pub others_are : (offsets targets flags held red : List ℕ) (n p : ℕ) (m : Machine) (z : ℕ) (r : Bool) → length held ≡ length flags
    → IsSet n (m.worker p).R held → IsSet n m.red red → (IsTrue r ↔ OthersRed held flags red z)
    → r ≡ others_red (graph_of offsets targets flags) p m z
unfolding others_red graph_of graph marked
others_are offsets targets flags held red n p m z r even R is h =
    let own = set_long R in
    let shared = set_long is in
    is_every r (length flags) _ (
      λ t a k. test_of _ _ _ _ (λ x y e. sym (set_test is a (omega arith)) ∙ eq-eqb _ _ (h.0 t a (omega arith) (eqb-true _ _ (set_test R a (omega arith) ∙ x)) (eqb-true _ _ y) (eqb-false _ _ e))),
      λ all. h.1 (λ a k x y ne. eqb-true _ _ (set_test is a (omega arith) ∙ of_test _ _ _ _ (all a (omega arith)) (sym (set_test R a (omega arith)) ∙ eq-eqb _ _ x) (eq-eqb _ _ y) (ne_eqb _ _ ne))),
    )

-- The contracts settle the calls: two outcomes that one of them allows are the same. One that is a single equation does so by `settled`.
use Rattle.std.proofs.Common.{ℕ, ◌≡◌, refl, sym, ◌∙◌, Bool, true, List, Option, Some, None, IfSome}
use Rattle.std.specs.Prelude.{IsSome, ◌↔◌, ⊤}
use Rattle.graphs.specs.Words.{is_graph}
use Rattle.graphs.specs.declared.graph.Graph.{Graph}
use Rattle.graphs.proofs.Tests.{clash}

pub settled {ℓ} : {A : Type ℓ} {a b c : A} → a ≡ c → b ≡ c → a ≡ b
settled p q = p ∙ sym q

pub is_graph_settled : (offsets targets flags : List ℕ) (r r' : Bool)
    → r ≡ is_graph offsets targets flags → r' ≡ is_graph offsets targets flags → r ≡ r'
is_graph_settled offsets targets flags r r' = settled

-- two graphs of the same three lists
abbrev pub SameLists : Graph → Graph → Type 0
SameLists g h = (g.offsets.now ≡ h.offsets.now) × (g.targets.now ≡ h.targets.now) × (g.flags.now ≡ h.flags.now)

-- none both times, or a graph of the same three lists
abbrev pub SameGraph : Option Graph → Option Graph → Type 0
SameGraph None None = ⊤
SameGraph (Some g) (Some h) = SameLists g h
SameGraph None (Some h) = ⊥
SameGraph (Some g) None = ⊥

module _ (offsets targets flags : List ℕ) where
  -- what `Graph::new` promises of its result
  pub record Made (r : Option Graph) : Type 0 where
    pub some : IsSome r ↔ (is_graph offsets targets flags ≡ true)
    pub offsets_same : IfSome r (λ g. g.offsets.now ≡ offsets)
    pub targets_same : IfSome r (λ g. g.targets.now ≡ targets)
    pub flags_same : IfSome r (λ g. g.flags.now ≡ flags)

  pub graph_new_settled : (r r' : Option Graph) → Made r → Made r' → SameGraph r r'
  graph_new_settled None None m m' = tt
  graph_new_settled (Some g) (Some h) m m' =
      (settled m.offsets_same m'.offsets_same, settled m.targets_same m'.targets_same, settled m.flags_same m'.flags_same)
  graph_new_settled None (Some h) m m' = clash (m.some.1 (m'.some.0 refl)) refl
  graph_new_settled (Some g) None m m' = clash (m'.some.1 (m.some.0 refl)) refl

-- What is known of a worker whose place is known; and it stays known while others move, since blue and dead only grow.
use Rattle.std.proofs.Common.{ℕ, ◌≡◌, subst, sym, ◌∙◌, Bool, true, List, ◌∷◌}
use mathlib.Core.Logic.{⊎_map}
use Rattle.graphs.specs.Graph.{Graph}
use Rattle.moves.specs.declared.Place.{Place}
use Rattle.moves.specs.declared.Place.TheVariants.{Fresh, Outer, Inner, Waiting, Done}
use Rattle.moves.specs.Machine.{Worker}
use Rattle.theory.specs.Stacks.{Trail, Stacked}
use Rattle.theory.specs.Invariant.{Looked, Fine, Hunt, Deep, Phase, Local}

pub at : {g : Graph} {blue : ℕ → Bool} {dead : ℕ → Type 0} {p : ℕ} {w : Worker} → Local g blue dead p w
    → {q : Place} → w.place ≡ q → Phase g blue dead p w q
at {g} {blue} {dead} {p} {w} l e = subst (Phase g blue dead p w) e l.phase

-- the inner stack, with its top s known, is a path from the seed
pub deep_trail : {g : Graph} {w : Worker} {z : ℕ} → Deep g w z → {s : ℕ} {u : List ℕ} → w.inner ≡ s ∷ u → Trail g z s u
deep_trail {g} {w} {z} d e = subst (Stacked g z) (sym d.stack ∙ e) d.trail

-- with more blue and more dead, what holds of a worker that does not move still holds
module _ (g : Graph) {b b' : ℕ → Bool} {d d' : ℕ → Type 0} (p : ℕ) (w : Worker)
    (blues : (x : ℕ) → b x ≡ true → b' x ≡ true) (deads : (x : ℕ) → d x → d' x) where
  looked_more : (l : List ℕ) → Looked g b p w l → Looked g b' p w l
  looked_more l h s m x t = ⊎_map (blues x) (λ e. e) (h s m x t)

  fine_more : (x : ℕ) → Fine d w x → Fine d' w x
  fine_more x f = (f.0, ⊎_map (λ e. e) (deads x) f.1)

  hunt_more : (z : ℕ) → Hunt g b d p w z → Hunt g b' d' p w z
  hunt_more z h =
      record {
        under = h.under;
        top = h.top;
        accepts = h.accepts;
        is_blue = blues z h.is_blue;
        looked = looked_more h.under h.looked;
        held = h.held;
        own = h.own;
        took = λ t r x k. fine_more x (h.took t r x k);
        full = λ t r n x e. fine_more x (h.full t r n x e);
        way = h.way;
        off = h.off;
      }

  phase_more : (q : Place) → Phase g b d p w q → Phase g b' d' p w q
  phase_more Fresh h = h
  phase_more Outer h = record { calm = h.calm; head = h.head; under = h.under; top = h.top; looked = looked_more w.outer h.looked }
  phase_more (Inner z) h = (hunt_more z h.0, h.1)
  phase_more (Waiting z) h = (hunt_more z h.0, h.1)
  phase_more Done h = (h.0, h.1, blues 0 h.2)

  pub local_more : Local g b d p w → Local g b' d' p w
  local_more l = record { stacks = l.stacks; phase = phase_more w.place l.phase }

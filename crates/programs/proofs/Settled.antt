-- The contracts of the two pages settle the calls: two outcomes that one of them allows are the same.
use Prim.Native.Nat.{ℕ}
use mathlib.Core.Path.{◌≡◌}
use mathlib.Core.Bool.{Bool}
use mathlib.Core.List.{List}
use Rattle.page.specs.Page.{written, puts}
use Rattle.page.proofs.Settled.{written_settled}
use Rattle.programs.specs.Skiffplank.{searched}
use Rattle.programs.specs.Replay.{replayed}

module _ (page text : List ℕ) (r r' : ℕ) (p p' : List ℕ) where
  pub search_page_settled : written r p ≡ puts page 0 (searched text) → written r' p' ≡ puts page 0 (searched text) → (r ≡ r') × (p ≡ p')
  search_page_settled = written_settled (puts page 0 (searched text)) r r' p p'

  pub replay_page_settled : (ending : Bool) (turns : List ℕ) (workers : ℕ) → written r p ≡ puts page 0 (replayed ending turns workers text)
      → written r' p' ≡ puts page 0 (replayed ending turns workers text) → (r ≡ r') × (p ≡ p')
  replay_page_settled ending turns workers = written_settled (puts page 0 (replayed ending turns workers text)) r r' p p'

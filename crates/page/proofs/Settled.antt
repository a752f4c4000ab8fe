-- The contracts of this crate, and of those above it that write into a page, settle the calls: two outcomes that one of them allows are the same.
use Prim.Native.Nat.{ℕ}
use mathlib.Core.Path.{◌≡◌, ap}
use mathlib.Core.List.{List}
use Rattle.graphs.proofs.Settled.{settled}
use Rattle.page.specs.Page.{Page, written}

pub written_settled : (out : Page) (r r' : ℕ) (p p' : List ℕ) → written r p ≡ out → written r' p' ≡ out → (r ≡ r') × (p ≡ p')
written_settled out r r' p p' a b = let e = settled a b in (ap (λ (k : Page). k.end) e, ap (λ (k : Page). k.bytes) e)

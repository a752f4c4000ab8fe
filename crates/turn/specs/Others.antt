-- The waiting test on words.
use Rattle.std.specs.Prelude.{ℕ, ◌<◌, ◌≡◌, ◌≢◌, List, length, get_or}

-- each state that is held and accepting, other than z, is red
abbrev pub OthersRed : (held flags red : List ℕ) (z : ℕ) → Type 0
OthersRed held flags red z = (a : ℕ) → a < length held → get_or held a 0 ≡ 1 → get_or flags a 0 ≡ 1 → a ≢ z → get_or red a 0 ≡ 1

-- What a reader is told comes from the meaning of the text; and the numbers that it is told are small.
use Prim.Native.Nat.{ℕ, ◌+◌, ◌≤◌}
use mathlib.Core.Path.{◌≡◌, refl, sym, ap, ◌∙◌}
use mathlib.Core.List.{List}
use lib.ListN.{length}
use native.Mathlib.Omega.{arith}
use Rattle.graphs.specs.Words.{most_states, most_transitions}
use Rattle.text.specs.Text.{Seen, Meaning, reads, refused, meaning}
use Rattle.text.specs.Lists.{graph, refusal, rooms_of, Outcome, filled, outcome}
use Rattle.text.proofs.Meaning.{numbers_only}
use Rattle.text.proofs.Filled.{states_fit, transitions_fit}

module _ (o t f p : ℕ) (text : List ℕ) where
  -- a graph was read
  pub record Was (n e : ℕ) (out : Outcome) : Type 0 where
    pub seen : Seen
    pub means : meaning (rooms_of o t f p) text ≡ reads seen
    pub states : n ≡ length seen.states
    pub transitions : e ≡ length seen.transitions
    pub is : out ≡ filled o t f p (reads seen)

  pub was : (n e : ℕ) (out : Outcome) → out.tells ≡ graph n e → out ≡ outcome o t f p text → Was n e out
  unfolding outcome
  was n e out told is = go (meaning (rooms_of o t f p) text) refl
    where
      go : (means : Meaning) → meaning (rooms_of o t f p) text ≡ means → Was n e out
      go (reads seen) m =
          let same : out ≡ filled o t f p (reads seen) = is ∙ ap (filled o t f p) m in
          let tells : graph n e ≡ graph (length seen.states) (length seen.transitions) = sym told ∙ ap (λ x. x.tells) same in
          record { seen = seen; means = m; states = cc; transitions = cc; is = same }
      go (refused number line) m =
          let tells : graph n e ≡ refusal number line = sym told ∙ ap (λ x. x.tells) (is ∙ ap (filled o t f p) m) in
          absurd (let z : ◌≡◌ {A = ℕ} 0 1 = cc in omega arith)

  pub graph_low : (n e : ℕ) → (outcome o t f p text).tells ≡ graph n e → (n ≤ most_states) × (e ≤ most_transitions)
  graph_low n e told =
      let g = was n e (outcome o t f p text) told refl in
      (rw g.states (states_fit o t f p text g.seen g.means).0, rw g.transitions (transitions_fit o t f p text g.seen g.means).0)

  room_low : (rooms_of o t f p).for_states + (rooms_of o t f p).for_transitions ≤ 20480
  unfolding rooms_of
  room_low = omega arith

  pub refusal_low : (number line : ℕ) → (outcome o t f p text).tells ≡ refusal number line → (1 ≤ number) × (number ≤ 8) × (line ≤ 20481)
  unfolding outcome
  refusal_low number line told = go (meaning (rooms_of o t f p) text) refl
    where
      go : (means : Meaning) → meaning (rooms_of o t f p) text ≡ means → (1 ≤ number) × (number ≤ 8) × (line ≤ 20481)
      go (reads seen) m =
          let tells : graph (length seen.states) (length seen.transitions) ≡ refusal number line =
          ap (λ x. (filled o t f p x).tells) (sym m) ∙ told in
          absurd (let z : ◌≡◌ {A = ℕ} 0 1 = cc in omega arith)
      go (refused k l) m =
          let tells : refusal k l ≡ refusal number line = ap (λ x. (filled o t f p x).tells) (sym m) ∙ told in
          let low = numbers_only (rooms_of o t f p) text k l m in
          let k_is : k ≡ number = cc in
          let l_is : l ≡ line = cc in
          (omega (arith, low.0), omega (arith, low.1), omega (arith, low.2, room_low))

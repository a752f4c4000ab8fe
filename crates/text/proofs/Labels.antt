-- The labels that the places name: each is that of its state and stands within the text, and two states have different ones.
use Prim.Native.Nat.{ℕ, zero, suc, ◌+◌, ◌-◌, ◌*◌, ◌≤◌, ◌<◌}
use mathlib.Core.Path.{◌≡◌, refl, sym, ap, ◌∙◌}
use mathlib.Core.List.{List, [], ◌∷◌, ◌++◌}
use mathlib.Core.Logic.{◌⊎◌, inl, inr, ◌≢◌}
use lib.Dec.{leb}
use lib.ListN.{length, get_or, take, drop, length-append, length-take, length-drop}
use native.Mathlib.Omega.{arith}
use borrow.Author.Tests.{leb-true}
use Rattle.graphs.proofs.Tests.{same?, below?, and_cases}
use Rattle.graphs.proofs.Same.{same_eq, all_at}
use Rattle.lines.specs.Bytes.{between}
use Rattle.lines.specs.Line.{is_label}
use Rattle.text.specs.Text.{State, Seen, reads, meaning}
use Rattle.text.specs.Lists.{zeros, padded, places_of, rooms_of}
use Rattle.text.specs.Labels.{label_at}
use Rattle.text.proofs.Good.{absent, label_in, stands, Good}
use Rattle.text.proofs.Filled.{places_long}
use Rattle.text.proofs.Meaning.{meaning_good}

-- the two words of a state, whatever follows the places
start_at : (states : List State) (after : List ℕ) (i : ℕ) → i < length states
    → get_or (places_of states ++ after) (2 * i) 0 ≡ (get_or states i absent).start
unfolding places_of
start_at [] after i h = absurd (omega arith)
start_at (s ∷ states) after zero h = refl
start_at (s ∷ states) after (suc i) h =
    let two : 2 * suc i ≡ suc (suc (2 * i)) = omega arith in
    rw two (start_at states after i (omega arith))

length_at : (states : List State) (after : List ℕ) (i : ℕ) → i < length states
    → get_or (places_of states ++ after) (2 * i + 1) 0 ≡ length (label_in states i)
unfolding places_of
length_at [] after i h = absurd (omega arith)
length_at (s ∷ states) after zero h = refl
length_at (s ∷ states) after (suc i) h =
    let two : 2 * suc i + 1 ≡ suc (suc (2 * i + 1)) = omega arith in
    rw two (length_at states after i (omega arith))

module _ (o t f p : ℕ) (text : List ℕ) (seen : Seen) (means : meaning (rooms_of o t f p) text ≡ reads seen) where
  good : Good (rooms_of o t f p) text seen
  good = (meaning_good (rooms_of o t f p) text seen means).0

  abbrev places : List ℕ
  places = padded p (places_of seen.states)

  pub label_named : (i : ℕ) → i < length seen.states → label_at text places i ≡ label_in seen.states i
  unfolding label_at padded
  label_named i h =
      let after = zeros (p - length (places_of seen.states)) in
      rw (start_at seen.states after i h, length_at seen.states after i h)
      (same_eq _ _ (all_at (stands text) seen.states good.labels_stand i absent h))

  -- a label stands within the text, and has at most 16 bytes
  pub label_within : (i : ℕ) → i < length seen.states
      → (2 * i + 1 < length places) × (get_or places (2 * i) 0 + get_or places (2 * i + 1) 0 ≤ length text) × (get_or places (2 * i + 1) 0 ≤ 16)
  unfolding padded is_label between
  label_within i h =
      let state = get_or seen.states i absent in
      let after = zeros (p - length (places_of seen.states)) in
      let formed = (and_cases _ _ (all_at (λ s. is_label s.label) seen.states good.labels_formed i absent h)).0 in
      let sizes = and_cases (leb 1 (length state.label)) (leb (length state.label) 16) formed in
      let some : 1 ≤ length state.label = leb-true _ _ sizes.0 in
      let few : length state.label ≤ 16 = leb-true _ _ sizes.1 in
      let whole : length (take (length state.label) (drop state.start text)) ≡ length state.label =
      ap length (same_eq _ _ (all_at (stands text) seen.states good.labels_stand i absent h)) in
      let part = length-take (length state.label) (drop state.start text) in
      let rest = length-drop state.start text in
      rw (start_at seen.states after i h, length_at seen.states after i h)
      (rw (length-append, places_long seen.states) (omega arith), omega (arith, some, whole, part, rest), few)

  pub labels_differ : (i j : ℕ) → i < length seen.states → j < length seen.states → label_at text places i ≡ label_at text places j → i ≡ j
  labels_differ i j h k e = go (same? i j) (below? i j)
    where
      both : label_in seen.states i ≡ label_in seen.states j
      both = sym (label_named i h) ∙ e ∙ label_named j k

      go : (i ≡ j) ⊎ (i ≢ j) → (i < j) ⊎ (j ≤ i) → i ≡ j
      go (inl q) l = q
      go (inr ne) (inl l) = absurd (good.labels_apart i j l k both)
      go (inr ne) (inr l) = absurd (good.labels_apart j i (omega arith) h (sym both))

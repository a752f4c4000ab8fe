-- What a text that is read gives: words that are a graph, and lists that fit their rooms, of which the first words are they.
use Prim.Native.Nat.{ℕ, suc, ◌+◌, ◌*◌, ◌≤◌}
use mathlib.Core.Path.{◌≡◌, refl, sym, ◌∙◌}
use mathlib.Core.Bool.{true}
use mathlib.Core.List.{List, [], ◌∷◌}
use lib.Dec.{ltb}
use lib.ListN.{length, get_or, take, length-map, get_or-map}
use native.Mathlib.Nat.{le_refl}
use native.Mathlib.Omega.{arith}
use native.Mathlib.Numerals.{add-one}
use borrow.Author.Tests.{ltb-true}
use Rattle.graphs.specs.Words.{most_states, most_transitions, is_graph}
use Rattle.graphs.proofs.Same.{all_at}
use Rattle.graphs.proofs.Words.{IsGraph, are_words}
use Rattle.text.specs.Text.{State, Transition, Seen, reads, meaning}
use Rattle.text.specs.Lists.{padded, places_of, flags_of, targets_of, offsets_of, rooms_of}
use Rattle.text.proofs.Zeros.{padded_take, padded_long}
use Rattle.text.proofs.Targets.{targets_total, targets_mono, targets_below, offset_at, offsets_long, successors_are}
use Rattle.text.proofs.Good.{absent, Good}
use Rattle.text.proofs.Meaning.{meaning_good}

pub flags_long : (states : List State) → length (flags_of states) ≡ length states
unfolding flags_of
flags_long states = length-map states (λ s. s.flag)

pub places_long : (states : List State) → length (places_of states) ≡ 2 * length states
unfolding places_of
places_long [] = refl
places_long (s ∷ states) = let rest = places_long states in omega arith

flag_at : (states : List State) (s : ℕ) → get_or (flags_of states) s 0 ≡ (get_or states s absent).flag
unfolding flags_of
flag_at states s = get_or-map (λ u. u.flag) states s absent

module _ (o t f p : ℕ) (text : List ℕ) (seen : Seen) (means : meaning (rooms_of o t f p) text ≡ reads seen) where
  abbrev ts : List Transition
  ts = seen.transitions

  abbrev n : ℕ
  n = length seen.states

  abbrev e : ℕ
  e = length ts

  good : Good (rooms_of o t f p) text seen
  good = (meaning_good (rooms_of o t f p) text seen means).0

  pub some_state : 1 ≤ n
  some_state = (meaning_good (rooms_of o t f p) text seen means).1

  -- the lists fit their rooms
  pub states_fit : (n ≤ most_states) × (n + 1 ≤ o) × (n ≤ f) × (2 * n ≤ p)
  unfolding rooms_of
  states_fit = let few = good.states_fit in let some = some_state in (omega arith, omega arith, omega arith, omega arith)

  pub transitions_fit : (e ≤ most_transitions) × (e ≤ t)
  unfolding rooms_of
  transitions_fit = let few = good.transitions_fit in (omega arith, omega arith)

  abbrev offsets : List ℕ
  offsets = offsets_of n ts

  abbrev targets : List ℕ
  targets = targets_of n ts

  abbrev flags : List ℕ
  flags = flags_of seen.states

  abbrev places : List ℕ
  places = places_of seen.states

  total : length targets ≡ e
  total = targets_total n ts good.sources_below

  -- a text that is read gives a graph
  pub meaning_words : IsGraph offsets targets flags
  unfolding targets_of
  meaning_words =
      let long = flags_long seen.states in
      let many = total in
      let few = states_fit in
      record {
        some = omega (arith, some_state);
        few = omega (arith, few.0);
        short = omega (arith, transitions_fit.0);
        count = omega (arith, offsets_long n ts);
        first = offset_at n ts 0 (omega arith);
        last = rw long (offset_at n ts n (le_refl n));
        rising = λ s h. rw (add-one, offset_at n ts s (omega arith), offset_at n ts (suc s) (omega arith)) (targets_mono s ts);
        inside = λ k h. rw long (ltb-true _ n (all_at (λ x. ltb x n) targets (targets_below n n ts good.ends_below) k 0 h));
        apart = λ s h. rw (successors_are n ts s (omega arith)) (good.once s);
        bits = λ s h.
            rw (flag_at seen.states s)
            (ltb-true _ 2 (all_at (λ u. ltb u.flag 2) seen.states good.flags_below s absent (rw long at h)));
      }

  pub meaning_graph : is_graph offsets targets flags ≡ true
  meaning_graph = are_words offsets targets flags meaning_words

  -- the lists of a reading: as long as the rooms, and with these words first
  pub offsets_first : take (n + 1) (padded o offsets) ≡ offsets
  offsets_first = padded_take o (n + 1) offsets (offsets_long n ts ∙ sym (add-one n))

  pub targets_first : take e (padded t targets) ≡ targets
  targets_first = padded_take t e targets total

  pub flags_first : take n (padded f flags) ≡ flags
  flags_first = padded_take f n flags (flags_long seen.states)

  pub places_first : take (2 * n) (padded p places) ≡ places
  places_first = padded_take p (2 * n) places (places_long seen.states)

  pub offsets_fill : length (padded o offsets) ≡ o
  offsets_fill = padded_long o offsets (omega (arith, offsets_long n ts, states_fit.1))

  pub targets_fill : length (padded t targets) ≡ t
  targets_fill = padded_long t targets (omega (arith, total, transitions_fit.1))

  pub flags_fill : length (padded f flags) ≡ f
  flags_fill = padded_long f flags (omega (arith, flags_long seen.states, states_fit.2))

  pub places_fill : length (padded p places) ≡ p
  places_fill = padded_long p places (omega (arith, places_long seen.states, states_fit.3))

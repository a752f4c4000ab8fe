-- What the contract of `read` says in other words: a text that is read as a graph leaves the words of a graph, and different labels.
use Prim.Native.Nat.{ℕ, ◌+◌, ◌*◌, ◌≤◌, ◌<◌}
use mathlib.Core.Path.{◌≡◌, refl, ap}
use mathlib.Core.Bool.{true}
use mathlib.Core.List.{List}
use lib.ListN.{length, get_or, take}
use Rattle.graphs.specs.Words.{is_graph}
use Rattle.text.specs.Lists.{outcome}
use Rattle.text.specs.Labels.{label_at}
use Rattle.text.proofs.Filled.{states_fit, transitions_fit, meaning_graph, offsets_first, targets_first, flags_first}
use Rattle.text.proofs.Labels.{label_within, labels_differ}
use Rattle.text.proofs.Told.{Was, was}
use Rattle.std.proofs.Common.{Ok}
use Rattle.statelist.specs.Told.{comes}

cut_same : {k k' : ℕ} {l l' m : List ℕ} → k ≡ k' → l ≡ l' → take k' l' ≡ m → take k l ≡ m
cut_same {k} {k'} {l} {l'} {m} e q first = rw (e, q) first

module _ (o t f p : ℕ) (text : List ℕ) (n e : ℕ) (offsets targets flags places : List ℕ)
    (comes_so : comes (Ok (record { states = n; transitions = e })) offsets targets flags places ≡ outcome o t f p text) where
  abbrev w : Was o t f p text n e (comes (Ok (record { states = n; transitions = e })) offsets targets flags places)
  w = was o t f p text n e (comes (Ok (record { states = n; transitions = e })) offsets targets flags places) refl comes_so

  -- the lists have N + 1, E and N words
  pub read_fits : (n + 1 ≤ o) × (e ≤ t) × (n ≤ f)
  read_fits =
      let fit = states_fit o t f p text w.seen w.means in
      (rw w.states fit.1, rw w.transitions (transitions_fit o t f p text w.seen w.means).1, rw w.states fit.2)

  -- what `read` fills, cut to N + 1, E and N words, is a graph
  pub read_graph : is_graph (take (n + 1) offsets) (take e targets) (take n flags) ≡ true
  read_graph =
      let s = w.seen in
      let m = w.means in
      rw (
        cut_same (ap (λ k. k + 1) w.states) (ap (λ x. x.offsets) w.is) (offsets_first o t f p text s m),
        cut_same w.transitions (ap (λ x. x.targets) w.is) (targets_first o t f p text s m),
        cut_same w.states (ap (λ x. x.flags) w.is) (flags_first o t f p text s m),
      )
      (meaning_graph o t f p text s m)

  -- the labels that the places name are all different
  pub read_labels : (i j : ℕ) → i < n → j < n → label_at text places i ≡ label_at text places j → i ≡ j
  read_labels i j h k q =
      labels_differ o t f p text w.seen w.means i j (rw w.states at h) (rw w.states at k) (rw (ap (λ x. x.places) w.is) at q)

  -- each stands within the text, and has at most 16 bytes
  pub read_within : (i : ℕ) → i < n
      → (2 * i + 1 < length places) × (get_or places (2 * i) 0 + get_or places (2 * i + 1) 0 ≤ length text) × (get_or places (2 * i + 1) 0 ≤ 16)
  read_within i h = rw (ap (λ x. x.places) w.is) (label_within o t f p text w.seen w.means i (rw w.states at h))

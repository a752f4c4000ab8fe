-- What `is_graph` says, part by part; that words which are a graph give a sound graph; and that its transitions are E in number.
use Rattle.std.proofs.Common.{ℕ, zero, suc, ◌+◌, ◌-◌, ◌<◌, ◌≤◌, ◌≡◌, sym, ap, ◌∙◌, true, not, List, ◌⊎◌, inl, inr, ◌≢◌, leb, ltb, length, get_or, take, drop}
use Rattle.std.proofs.Common.{length-take, length-drop, le_refl, arith, add-one, leb-true, ltb-true, eqb-true, le-leb, lt-ltb, eq-eqb, All}
use borrow.Author.Tests.{not-true}
use Rattle.std.proofs.lemmas.Grind.{get_or_default_zero}
use Rattle.std.proofs.lemmas.List.Elements.{All-take, All-drop}
use Rattle.graphs.specs.Lists.{Mem, Once, sum, repeats}
use Rattle.graphs.specs.Graph.{graph, edges, Sound}
use Rattle.graphs.specs.Words.{successors, marked, graph_of, most_states, most_transitions, sizes_fit, offsets_span, never_falling, all_below}
use Rattle.graphs.specs.Words.{none_twice, is_graph}
use Rattle.graphs.specs.Stamps.{Fit}
use Rattle.graphs.proofs.Tests.{and_cases, same?}
use Rattle.graphs.proofs.Member.{mem_take, mem_drop, mem_place}
use Rattle.graphs.proofs.Every.{every_at, every_of}
use Rattle.graphs.proofs.Once.{once_repeats, repeats_once}
use Rattle.graphs.proofs.Order.{graph_sound}

-- the parts of `is_graph`, as statements
pub record IsGraph (offsets targets flags : List ℕ) : Type 0 where
  pub some : 1 ≤ length flags
  pub few : length flags ≤ most_states
  pub short : length targets ≤ most_transitions
  pub count : length offsets ≡ length flags + 1
  pub first : get_or offsets 0 0 ≡ 0
  pub last : get_or offsets (length flags) 0 ≡ length targets
  pub rising : (s : ℕ) → s < length flags → get_or offsets s 0 ≤ get_or offsets (s + 1) 0
  pub inside : (k : ℕ) → k < length targets → get_or targets k 0 < length flags
  pub apart : (s : ℕ) → s < length flags → Once (successors offsets targets s)
  pub bits : (s : ℕ) → s < length flags → get_or flags s 0 < 2

pub sizes_are : (n e : ℕ) → sizes_fit n e ≡ true → (1 ≤ n) × (n ≤ most_states) × (e ≤ most_transitions)
unfolding sizes_fit
sizes_are n e t =
    let a = and_cases _ _ t in
    let b = and_cases _ _ a.0 in
    (leb-true 1 n b.0, leb-true n most_states b.1, leb-true e most_transitions a.1)

pub span_are : (offsets : List ℕ) (n e : ℕ) → offsets_span offsets n e ≡ true
    → (length offsets ≡ n + 1) × (get_or offsets 0 0 ≡ 0) × (get_or offsets n 0 ≡ e)
unfolding offsets_span
span_are offsets n e t =
    let a = and_cases _ _ t in
    let b = and_cases _ _ a.0 in
    (eqb-true (length offsets) (n + 1) b.0, eqb-true (get_or offsets 0 0) 0 b.1, eqb-true (get_or offsets n 0) e a.1)

pub rising_at : (offsets : List ℕ) (n : ℕ) → never_falling offsets n ≡ true → (s : ℕ) → s < n → get_or offsets s 0 ≤ get_or offsets (s + 1) 0
unfolding never_falling
rising_at offsets n t s h = leb-true _ _ (every_at n _ t s h)

pub below_at : (words : List ℕ) (bound : ℕ) → all_below words bound ≡ true → (k : ℕ) → k < length words → get_or words k 0 < bound
unfolding all_below
below_at words bound t k h = ltb-true _ _ (every_at (length words) _ t k h)

pub once_at : (offsets targets : List ℕ) (n : ℕ) → none_twice offsets targets n ≡ true → (s : ℕ) → s < n → Once (successors offsets targets s)
unfolding none_twice
once_at offsets targets n t s h = repeats_once _ (not-true _ (every_at n _ t s h))

-- offsets that never fall, over any stretch
pub rising_to : (offsets : List ℕ) (n : ℕ) → ((s : ℕ) → s < n → get_or offsets s 0 ≤ get_or offsets (s + 1) 0)
    → (s : ℕ) → s ≤ n → get_or offsets s 0 ≤ get_or offsets n 0
rising_to offsets zero rises s h = let e : s ≡ 0 = omega arith in rw e (le_refl _)
rising_to offsets (suc n) rises s h = go (λ k. rising_to offsets n (λ i l. rises i (omega arith)) s k) (same? s (suc n))
  where
    go : (s ≤ n → get_or offsets s 0 ≤ get_or offsets n 0) → (s ≡ suc n) ⊎ (s ≢ suc n) → get_or offsets s 0 ≤ get_or offsets (suc n) 0
    go rest (inl e) = rw e (le_refl _)
    go rest (inr ne) = let k = rises n (omega arith) in omega (arith, rest (omega arith), rw add-one at k)

module _ (offsets targets flags : List ℕ) where
  pub words_are : is_graph offsets targets flags ≡ true → IsGraph offsets targets flags
  unfolding is_graph
  words_are t =
      let n = length flags in
      let e = length targets in
      let flagged = and_cases _ _ t in
      let apart = and_cases _ _ flagged.0 in
      let below = and_cases _ _ apart.0 in
      let rising = and_cases _ _ below.0 in
      let sized = and_cases _ _ rising.0 in
      let sizes = sizes_are n e sized.0 in
      let span = span_are offsets n e sized.1 in
      record {
        some = sizes.0;
        few = sizes.1;
        short = sizes.2;
        count = span.0;
        first = span.1;
        last = span.2;
        rising = rising_at offsets n rising.1;
        inside = below_at targets n below.1;
        apart = once_at offsets targets n apart.1;
        bits = below_at flags 2 flagged.1;
      }

  pub are_words : IsGraph offsets targets flags → is_graph offsets targets flags ≡ true
  unfolding is_graph sizes_fit offsets_span never_falling all_below none_twice
  are_words w =
      rw (
        le-leb _ _ w.some,
        le-leb _ _ w.few,
        le-leb _ _ w.short,
        eq-eqb _ _ w.count,
        eq-eqb _ _ w.first,
        eq-eqb _ _ w.last,
        every_of (length flags) (λ s. leb (get_or offsets s 0) (get_or offsets (s + 1) 0)) (λ s h. le-leb _ _ (w.rising s h)),
        every_of (length targets) (λ k. ltb (get_or targets k 0) (length flags)) (λ k h. lt-ltb _ _ (w.inside k h)),
        every_of (length flags) (λ s. not (repeats (successors offsets targets s))) (λ s h. ap not (once_repeats _ (w.apart s h))),
        every_of (length flags) (λ s. ltb (get_or flags s 0) 2) (λ s h. lt-ltb _ _ (w.bits s h)),
      )

  module _ (w : IsGraph offsets targets flags) where
    pub successor_below : (s t : ℕ) → Mem t (successors offsets targets s) → t < length flags
    unfolding successors
    successor_below s t h =
        let a = get_or offsets s 0 in
        let p = mem_place t targets (mem_drop t a targets (mem_take t (get_or offsets (s + 1) 0 - a) (drop a targets) h)) in
        rw p.2 at (w.inside p.0 p.1)

    pub words_sound : Sound (graph_of offsets targets flags)
    unfolding graph_of
    words_sound = graph_sound (length flags) (successors offsets targets) (marked flags) w.some (λ s t h m. successor_below s t m)

    pub offset_inside : (s : ℕ) → s ≤ length flags → get_or offsets s 0 ≤ length targets
    offset_inside s h = rw w.last at (rising_to offsets (length flags) w.rising s h)

    pub successors_long : (s : ℕ) → s < length flags → length (successors offsets targets s) ≡ get_or offsets (s + 1) 0 - get_or offsets s 0
    unfolding successors
    successors_long s h = simp (length-take, length-drop) (omega (arith, offset_inside (s + 1) (omega arith)))

    -- the successors of the states below n end where the offset of n stands
    sum_to : (n : ℕ) → n ≤ length flags → sum n (λ s. length (successors offsets targets s)) ≡ get_or offsets n 0
    unfolding sum
    sum_to zero h = sym w.first
    sum_to (suc n) h =
        let k = rw add-one at (successors_long n h) in
        omega (arith, k, sum_to n (omega arith), rw add-one at (w.rising n h))

    pub edges_are : edges (graph_of offsets targets flags) ≡ length targets
    unfolding edges graph_of graph
    edges_are = sum_to (length flags) (le_refl _) ∙ w.last

-- what the parts checked before it say, as `none_twice` of src/checks.rt asks it
pub fits : (offsets targets : List ℕ) (n e : ℕ) → e ≡ length targets → sizes_fit n e ≡ true → offsets_span offsets n e ≡ true
    → never_falling offsets (length offsets - 1) ≡ true → all_below targets n ≡ true → Fit offsets targets n
fits offsets targets n e whole sized spans rising below =
    let span = span_are offsets n e spans in
    record {
      few = (sizes_are n e sized).1;
      count = span.0;
      last = span.2 ∙ whole;
      rising = λ s h. rising_at offsets _ rising s (omega (arith, span.0));
      inside = below_at targets n below;
    }

-- what a `Graph` knows of its rows, for its methods
module _ (offsets targets flags : List ℕ) (t : is_graph offsets targets flags ≡ true) where
  pub offsets_long : length offsets ≡ length flags + 1
  offsets_long = (words_are offsets targets flags t).count

  pub row_rises : (s : ℕ) → s < length flags → get_or offsets s 0 ≤ get_or offsets (s + 1) 0
  row_rises = (words_are offsets targets flags t).rising

  pub row_ends : (s : ℕ) → s < length flags → get_or offsets (s + 1) 0 ≤ length targets
  row_ends s h = offset_inside offsets targets flags (words_are offsets targets flags t) (s + 1) (omega arith)

  abbrev In : ℕ → Type 0
  In x = x < length flags

  targets_below : All In targets
  targets_below k d h = grind (arith, get_or_default_zero, (words_are offsets targets flags t).inside k h)

  pub row_below : (from count : ℕ) → All (λ x. x < length flags) (take count (drop from targets))
  row_below from count = All-take In count (drop from targets) (All-drop In from targets targets_below)

pub ruleset rows = (offsets_long, row_rises, row_ends, row_below)

-- what each check of src/lib.rt that passes lets the next one ask
pub ruleset checked = (sizes_are, span_are, fits)

-- Laws of labels with their words in two lists: what looking a label up by its two words says of the states, no label, and one state more.
use Prim.Native.Nat.{ℕ, zero, suc, ◌+◌, ◌*◌, ◌<◌}
use mathlib.Core.Path.{◌≡◌, sym, ap, ◌∙◌}
use mathlib.Core.Bool.{Bool, true, false}
use mathlib.Core.List.{List, [], ◌∷◌, ◌++◌}
use mathlib.Core.Logic.{◌⊎◌, inl, inr, ◌≢◌}
use lib.ListN.{length, get_or, set, take, drop, length-set}
use lib.Seq.{get_or-set_same, get_or-set_other}
use native.Mathlib.Nat.{add-zero, zero-add}
use native.Mathlib.Numerals.{add-one}
use native.Mathlib.Omega.{arith}
use borrow.Author.Tests.{eqb-true, eq-eqb}
use Rattle.graphs.specs.Lists.{tab}
use Rattle.graphs.proofs.Tests.{and_cases, clash, same?}
use Rattle.graphs.proofs.Tab.{tab_more, tab_ext}
use Rattle.graphs.proofs.Same.{eq_same, ne_same}
use Rattle.lines.specs.Line.{is_label}
use Rattle.lines.specs.Found.{first_word, second_word}
use Rattle.std.proofs.Common.{Some, None}
use Rattle.pairs.specs.Pairs.{is_pair, found}
use Rattle.pairs.proofs.Last.{found_none, found_some, any_found_none, any_found_some}
use Rattle.lines.proofs.Words.{words_differ}
use Rattle.text.specs.Text.{State, declared, number_of}
use Rattle.text.specs.Labels.{label_at}
use Rattle.statelist.specs.Loops.{state_at, states_in, Labelled}

-- the number of a state among n: the first one with the label
number_from : (l : List ℕ) (f : ℕ → State) (k n i : ℕ) → i < n → (f (k + i)).label ≡ l → ((j : ℕ) → j < i → (f (k + j)).label ≢ l)
    → number_of l (tab k n f) ≡ i
unfolding number_of tab
number_from l f k zero i h e ne = absurd (omega arith)
number_from l f k (suc n) zero h e ne = let here : l ≡ (f k).label = sym (rw (add-zero k) at e) in rw (eq_same l (f k).label here)
number_from l f k (suc n) (suc i) h e ne =
    let other : l ≢ (f k).label = λ q. ne 0 (omega arith) (rw (add-zero k) (sym q)) in
    let past : (j : ℕ) → suc k + j ≡ k + suc j = λ j. omega arith in
    rw (ne_same l (f k).label other)
    (ap suc (number_from l f (suc k) n i (omega arith) (rw (past i) e) (λ j b. rw (past j) (ne (suc j) (omega arith)))))

module _ {text places first second : List ℕ} {n : ℕ} (x : Labelled text places first second n)
    (l : List ℕ) (is : is_label l ≡ true) where
  abbrev asked : ℕ → Bool
  asked = is_pair first second (first_word l) (second_word l)

  pub asked_label : (i : ℕ) → i < n → asked i ≡ true → label_at text places i ≡ l
  unfolding is_pair
  asked_label i h e =
      let parts = and_cases _ _ e in
      let one = eqb-true (get_or first i 0) (first_word l) parts.0 in
      let two = eqb-true (get_or second i 0) (second_word l) parts.1 in
      words_differ _ l (x.labels i h) is (sym (x.firsts i h) ∙ one) (sym (x.seconds i h) ∙ two)

  pub label_asked : (i : ℕ) → i < n → label_at text places i ≡ l → asked i ≡ true
  unfolding is_pair
  label_asked i h e =
      let one : get_or first i 0 ≡ first_word l = x.firsts i h ∙ ap first_word e in
      let two : get_or second i 0 ≡ second_word l = x.seconds i h ∙ ap second_word e in
      rw (eq-eqb _ _ one) (eq-eqb _ _ two)

  pub asked_not : found asked n ≡ None → (i : ℕ) → i < n → label_at text places i ≢ l
  asked_not q i h e = clash (label_asked i h e) (found_none asked n q i h)

  pub label_unknown : (flags : List ℕ) → found asked n ≡ None → declared l (states_in text flags places n) ≡ false
  unfolding declared states_in state_at
  label_unknown flags q = any_found_none asked _ _ n q (λ i h e. ne_same l _ (λ s. asked_not q i h (sym s)))

  pub label_known : (flags : List ℕ) (i : ℕ) → found asked n ≡ Some i → declared l (states_in text flags places n) ≡ true
  unfolding declared states_in state_at
  label_known flags i q = any_found_some asked _ _ n i q (λ e. eq_same l _ (sym (asked_label i (found_some asked n i q).0 e)))

  pub label_number : (flags : List ℕ) (i : ℕ) → found asked n ≡ Some i → number_of l (states_in text flags places n) ≡ i
  unfolding states_in state_at
  label_number flags i q =
      let at = found_some asked n i q in
      let is_i = asked_label i at.0 at.1 in
      number_from l (state_at text flags places) 0 n i at.0 (rw (zero-add i) is_i)
      (λ j b e.
      let is_j : label_at text places j ≡ l = rw (zero-add j) at e in
      let one = x.differ j i (omega (arith, at.0)) at.0 (is_j ∙ sym is_i) in
      omega arith)

pub labelled_none : {text places first second : List ℕ} → Labelled text places first second 0
labelled_none =
    record {
      labels = λ i h. absurd (omega arith);
      lengths = λ i h. absurd (omega arith);
      firsts = λ i h. absurd (omega arith);
      seconds = λ i h. absurd (omega arith);
      differ = λ i j h k e. absurd (omega arith);
    }

-- the place of state n, stored, which leaves the labels below n as they are
module _ (text places : List ℕ) (n start len : ℕ) (room : 2 * n + 1 < length places) where
  abbrev pub places' : List ℕ
  places' = set (set places (2 * n) start) (2 * n + 1) len

  other_place : (i : ℕ) → i ≢ 2 * n → i ≢ 2 * n + 1 → get_or places' i 0 ≡ get_or places i 0
  other_place i ne ne' = get_or-set_other (set places (2 * n) start) (2 * n + 1) i len 0 ne' ∙ get_or-set_other places (2 * n) i start 0 ne

  pub start_new : get_or places' (2 * n) 0 ≡ start
  start_new =
      let ne : 2 * n ≢ 2 * n + 1 = λ e. omega arith in
      get_or-set_other (set places (2 * n) start) (2 * n + 1) (2 * n) len 0 ne ∙ get_or-set_same places (2 * n) start 0 (omega arith)

  pub len_new : get_or places' (2 * n + 1) 0 ≡ len
  len_new = get_or-set_same (set places (2 * n) start) (2 * n + 1) len 0 (rw (length-set places (2 * n) start) room)

  pub label_new : label_at text places' n ≡ take len (drop start text)
  unfolding label_at
  label_new = rw (start_new, len_new)

  pub label_old : (i : ℕ) → i < n → label_at text places' i ≡ label_at text places i
  unfolding label_at
  label_old i h = rw (other_place (2 * i) (λ e. omega arith) (λ e. omega arith), other_place (2 * i + 1) (λ e. omega arith) (λ e. omega arith))

  -- the states with the new one
  pub states_more : (flags : List ℕ) (flag : ℕ) → n < length flags
      → states_in text (set flags n flag) places' (n + 1)
      ≡ states_in text flags places n ++ (record { label = take len (drop start text); start = start; flag = flag } ∷ [])
  unfolding states_in state_at
  states_more flags flag in_flags =
      let old : (i : ℕ) → i < n → state_at text (set flags n flag) places' i ≡ state_at text flags places i =
      λ i h. rw (label_old i h, other_place (2 * i) (λ e. omega arith) (λ e. omega arith), get_or-set_other flags n i flag 0 (λ e. omega arith)) in
      rw (
        add-one n,
        tab_more 0 n (state_at text (set flags n flag) places'),
        tab_ext n _ _ old,
        zero-add n,
        label_new,
        start_new,
        get_or-set_same flags n flag 0 in_flags,
      )

  pub labelled_more : {first second l : List ℕ} → Labelled text places first second n
      → n < length first → n < length second → is_label l ≡ true → take len (drop start text) ≡ l → length l ≡ len
      → ((i : ℕ) → i < n → label_at text places i ≢ l)
      → Labelled text places' (set first n (first_word l)) (set second n (second_word l)) (n + 1)
  labelled_more {first} {second} {l} x in_first in_second is there long new =
      record {
        labels = λ i h. each (λ m. is_label m ≡ true) (λ i k. x.labels i k) is i h (same? i n);
        lengths = λ i h. length_at i h (same? i n);
        firsts = λ i h. first_at i h (same? i n);
        seconds = λ i h. second_at i h (same? i n);
        differ = λ i j h k e. apart i j h k e (same? i n) (same? j n);
      }
    where
      label_n : label_at text places' n ≡ l
      label_n = label_new ∙ there

      each : (Q : List ℕ → Type 0) → ((i : ℕ) → i < n → Q (label_at text places i)) → Q l
          → (i : ℕ) → i < n + 1 → (i ≡ n) ⊎ (i ≢ n) → Q (label_at text places' i)
      each Q old last i h (inl e) = rw (e, label_n) last
      each Q old last i h (inr ne) = rw (label_old i (omega arith)) (old i (omega arith))

      length_at : (i : ℕ) → i < n + 1 → (i ≡ n) ⊎ (i ≢ n) → length (label_at text places' i) ≡ get_or places' (2 * i + 1) 0
      length_at i h (inl e) = rw (e, label_n, len_new) long
      length_at i h (inr ne) =
          rw (label_old i (omega arith), other_place (2 * i + 1) (λ e. omega arith) (λ e. omega arith)) (x.lengths i (omega arith))

      first_at : (i : ℕ) → i < n + 1 → (i ≡ n) ⊎ (i ≢ n) → get_or (set first n (first_word l)) i 0 ≡ first_word (label_at text places' i)
      first_at i h (inl e) = rw (e, label_n) (get_or-set_same first n _ 0 in_first)
      first_at i h (inr ne) = rw (label_old i (omega arith)) (get_or-set_other first n i _ 0 ne ∙ x.firsts i (omega arith))

      second_at : (i : ℕ) → i < n + 1 → (i ≡ n) ⊎ (i ≢ n) → get_or (set second n (second_word l)) i 0 ≡ second_word (label_at text places' i)
      second_at i h (inl e) = rw (e, label_n) (get_or-set_same second n _ 0 in_second)
      second_at i h (inr ne) = rw (label_old i (omega arith)) (get_or-set_other second n i _ 0 ne ∙ x.seconds i (omega arith))

      apart : (i j : ℕ) → i < n + 1 → j < n + 1 → label_at text places' i ≡ label_at text places' j
          → (i ≡ n) ⊎ (i ≢ n) → (j ≡ n) ⊎ (j ≢ n) → i ≡ j
      apart i j h k e (inl a) (inl b) = a ∙ sym b
      apart i j h k e (inl a) (inr b) = absurd (new j (omega arith) (sym (label_old j (omega arith)) ∙ sym e ∙ ap (label_at text places') a ∙ label_n))
      apart i j h k e (inr a) (inl b) = absurd (new i (omega arith) (sym (label_old i (omega arith)) ∙ e ∙ ap (label_at text places') b ∙ label_n))
      apart i j h k e (inr a) (inr b) = x.differ i j (omega arith) (omega arith) (sym (label_old i (omega arith)) ∙ e ∙ label_old j (omega arith))

-- Laws of the end of a reading: flags and places in the lent lists are the page's, and so is what comes of the call.
use Prim.Native.Nat.{ℕ, zero, suc, ◌+◌, ◌*◌, ◌<◌, ◌≤◌}
use mathlib.Core.Path.{◌≡◌, refl, sym, ap, ◌∙◌, subst}
use mathlib.Core.List.{List, [], ◌∷◌, ◌++◌, append_assoc}
use lib.ListN.{length, get_or, take}
use lib.Seq.{take-suc}
use native.Mathlib.Nat.{zero-add}
use native.Mathlib.Omega.{arith}
use borrow.Author.Tests.{lt-ltb, le-ltb}
use Rattle.graphs.specs.Lists.{tab}
use Rattle.graphs.specs.Words.{most_states, most_transitions}
use Rattle.graphs.proofs.Tab.{tab_more}
use Rattle.text.proofs.Nil.{nil_none, nil_some}
use Rattle.std.proofs.Common.{Ok, Err}
use Rattle.statelist.specs.declared.ReadError.{ReadError}
use Rattle.statelist.specs.declared.ReadError.TheVariants.{TooLong, NoState}
use Rattle.text.specs.Text.{State, Transition, Rooms, Seen, Meaning, reads, refused, is_nil, at_end, most_text, meaning}
use Rattle.text.specs.Lists.{zeros, padded, flags_of, places_of, targets_of, offsets_of, states_held, transitions_held, filled, rooms_of, outcome}
use Rattle.statelist.specs.Told.{comes}
use Rattle.text.specs.Labels.{label_at}
use Rattle.statelist.specs.Loops.{state_at, states_in, transitions_in, from_here, Labelled, Refused, room_for, Declared, Listed, Fills}
use Rattle.statelist.specs.Build.{Buildable}
use Rattle.statelist.proofs.Here.{end_here}
use Rattle.statelist.proofs.Declared.{states_long, blank_padded}
use Rattle.statelist.proofs.Counts.{transitions_long}

flags_join : (a b : List State) → flags_of (a ++ b) ≡ flags_of a ++ flags_of b
unfolding flags_of
flags_join [] b = refl
flags_join (s ∷ a) b = ap (λ l. s.flag ∷ l) (flags_join a b)

places_join : (a b : List State) → places_of (a ++ b) ≡ places_of a ++ places_of b
unfolding places_of
places_join [] b = refl
places_join (s ∷ a) b = ap (λ l. s.start ∷ length s.label ∷ l) (places_join a b)

module _ (text flags places : List ℕ) where
  no_states : states_in text flags places 0 ≡ []
  unfolding states_in tab
  no_states = refl

  last_state : (n : ℕ) → states_in text flags places (suc n) ≡ states_in text flags places n ++ (state_at text flags places n ∷ [])
  unfolding states_in
  last_state n =
      tab_more 0 n (state_at text flags places)
      ∙ ap (λ i. tab 0 n (state_at text flags places) ++ (state_at text flags places i ∷ [])) (zero-add n)

  pub flags_in : (n : ℕ) → n ≤ length flags → flags_of (states_in text flags places n) ≡ take n flags
  unfolding state_at flags_of
  flags_in zero h = ap flags_of no_states
  flags_in (suc n) h =
      rw (last_state n, flags_join (states_in text flags places n) (state_at text flags places n ∷ []), flags_in n (omega arith))
      (sym (take-suc flags n 0 h))

  pub places_in : (n : ℕ) → 2 * n ≤ length places → ((i : ℕ) → i < n → length (label_at text places i) ≡ get_or places (2 * i + 1) 0)
      → places_of (states_in text flags places n) ≡ take (2 * n) places
  unfolding state_at places_of
  places_in zero h long = ap places_of no_states
  places_in (suc n) h long =
      let two : 2 * suc n ≡ suc (suc (2 * n)) = omega arith in
      let one : suc (2 * n) ≡ 2 * n + 1 = omega arith in
      rw (
        two,
        last_state n,
        places_join (states_in text flags places n) (state_at text flags places n ∷ []),
        places_in n (omega arith) (λ i k. long i (omega arith)),
        long n (omega arith),
        take-suc places (suc (2 * n)) 0 (omega arith),
        take-suc places (2 * n) 0 (omega arith),
        one,
      )
      (sym (append_assoc (take (2 * n) places) (get_or places (2 * n) 0 ∷ []) (get_or places (2 * n + 1) 0 ∷ [])))

-- all lines were read: n states up to `start`, then e transitions up to the end
module _ {text : List ℕ} {held held_t : ℕ} {flags places first second counted from to : List ℕ} {start n at e : ℕ}
    (d : Declared text held flags places first second start n)
    (l : Listed text held_t n start first second counted from to at e) (end : length text ≤ at) where
  abbrev states : List State
  states = states_in text flags places n

  abbrev ts : List Transition
  ts = transitions_in from to e

  abbrev all_seen : Seen
  all_seen = record { line = suc (length states + length ts); at = at; states = states; transitions = ts }

  ends : from_here (room_for held held_t) text 0 [] [] ≡ at_end [] all_seen
  ends =
      sym (l.same flags places held d.labelled ∙ d.same held_t)
      ∙ end_here (room_for held held_t) text at states ts end

  pub ends_none : n ≡ 0 → (offsets targets : List ℕ) → Fills offsets targets flags places (Err NoState) (from_here (room_for held held_t) text 0 [] [])
  unfolding at_end is_nil
  ends_none none offsets targets =
      let means : from_here (room_for held held_t) text 0 [] [] ≡ refused 8 0 =
      ends ∙ rw (nil_none states (states_long text flags places n ∙ none)) in
      subst (Fills offsets targets flags places (Err NoState)) (sym means) refl

  pub ends_graph : 0 < n → (offsets targets : List ℕ) → n ≤ length flags → 2 * n ≤ length places
      → offsets ≡ padded (length offsets) (offsets_of n ts) → targets ≡ padded (length targets) (targets_of n ts)
      → Fills offsets targets flags places (Ok (record { states = n; transitions = e })) (from_here (room_for held held_t) text 0 [] [])
  unfolding at_end is_nil
  ends_graph some offsets targets in_flags in_places offsets_are targets_are =
      let flags_are : flags ≡ padded (length flags) (flags_of states) =
      blank_padded flags n in_flags d.flags_blank ∙ ap (padded (length flags)) (sym (flags_in text flags places n in_flags)) in
      let places_all = places_in text flags places n in_places d.labelled.lengths in
      let places_are : places ≡ padded (length places) (places_of states) =
      blank_padded places (2 * n) in_places d.places_blank ∙ ap (padded (length places)) (sym places_all) in
      let means : from_here (room_for held held_t) text 0 [] [] ≡ reads all_seen =
      ends ∙ rw (nil_some states (omega (arith, states_long text flags places n))) in
      subst (Fills offsets targets flags places (Ok (record { states = n; transitions = e }))) (sym means)
      (rw (states_long text flags places n, transitions_long from to e) cc)

-- what the lists of the graph are built from
pub listed_buildable : {text : List ℕ} {held n start : ℕ} {first second counted from to offsets targets : List ℕ} {at e : ℕ}
    → Listed text held n start first second counted from to at e
    → n ≤ most_states → held ≤ most_transitions → n < length offsets → held ≤ length targets
    → targets ≡ zeros (length targets) → Buildable from to offsets targets e n
listed_buildable l few_n few_held in_offsets in_targets blank =
    record {
      few_states = few_n;
      few_transitions = omega (arith, l.few);
      in_offsets = in_offsets;
      in_targets = omega (arith, l.few);
      sources = λ i h. (l.below i h).0;
      aims = λ i h. (l.below i h).1;
      blank = blank;
    }

pub rooms_same : (o t f p held held_t : ℕ) → held ≡ states_held o f p → held_t ≡ transitions_held t → rooms_of o t f p ≡ room_for held held_t
unfolding rooms_of
rooms_same o t f p held held_t e e' = rw (e, e') refl

pub refused_fills : (offsets targets flags places : List ℕ) (error : ReadError) (means : Meaning) → Refused error means
    → Fills offsets targets flags places (Err error) means
refused_fills offsets targets flags places error means x = subst (Fills offsets targets flags places (Err error)) (sym x) refl

-- the T lines are refused
pub stop_fills : {text : List ℕ} {held start n : ℕ} {flags places first second : List ℕ} → Declared text held flags places first second start n
    → (held_t : ℕ) (offsets targets : List ℕ) (error : ReadError)
    → ((flags places : List ℕ) (h : ℕ) → Labelled text places first second n
    → Refused error (from_here (room_for h held_t) text start (states_in text flags places n) []))
    → Fills offsets targets flags places (Err error) (from_here (room_for held held_t) text 0 [] [])
stop_fills {text} {held} {start} {n} {flags} {places} d held_t offsets targets error stop =
    refused_fills offsets targets flags places error _ (sym (d.same held_t) ∙ stop flags places held d.labelled)

-- What comes of a call. A text that is too long is refused as 1.
too_long : (rooms : Rooms) (text : List ℕ) → most_text < length text → meaning rooms text ≡ refused 1 0
unfolding meaning
too_long rooms text h = rw (lt-ltb _ _ h)

not_long : (rooms : Rooms) (text : List ℕ) → length text ≤ most_text → meaning rooms text ≡ from_here rooms text 0 [] []
unfolding meaning from_here
not_long rooms text h = rw (le-ltb _ _ h)

module _ (o t f p : ℕ) (text : List ℕ) where
  pub comes_long : most_text < length text → comes (Err TooLong) (zeros o) (zeros t) (zeros f) (zeros p) ≡ outcome o t f p text
  unfolding outcome
  comes_long h = ap (filled o t f p) (sym (too_long (rooms_of o t f p) text h))

  module _ (offsets targets flags places : List ℕ) (short : length text ≤ most_text) where
    -- a graph: the lists stay as they are
    pub comes_graph : (n e : ℕ) → length offsets ≡ o → length targets ≡ t → length flags ≡ f → length places ≡ p
        → Fills offsets targets flags places (Ok (record { states = n; transitions = e })) (from_here (rooms_of o t f p) text 0 [] [])
        → comes (Ok (record { states = n; transitions = e })) offsets targets flags places ≡ outcome o t f p text
    unfolding outcome
    comes_graph n e eo et ef ep fills =
        rw (not_long (rooms_of o t f p) text short)
        (go (from_here (rooms_of o t f p) text 0 [] []) fills ∙ rw (eo, et, ef, ep))
      where
        go : (means : Meaning) → Fills offsets targets flags places (Ok (record { states = n; transitions = e })) means
            → comes (Ok (record { states = n; transitions = e })) offsets targets flags places ≡ filled (length offsets) (length targets) (length flags) (length places) means
        go (reads seen) is = is
        go (refused number line) is = absurd (let z : ◌≡◌ {A = ℕ} 0 1 = cc in omega arith)

    -- a refusal: all words are 0
    pub comes_refused : (error : ReadError) → Fills offsets targets flags places (Err error) (from_here (rooms_of o t f p) text 0 [] [])
        → comes (Err error) (zeros o) (zeros t) (zeros f) (zeros p) ≡ outcome o t f p text
    unfolding outcome
    comes_refused error fills = rw (not_long (rooms_of o t f p) text short) (go (from_here (rooms_of o t f p) text 0 [] []) fills)
      where
        go : (means : Meaning) → Fills offsets targets flags places (Err error) means
            → comes (Err error) (zeros o) (zeros t) (zeros f) (zeros p) ≡ filled o t f p means
        go (reads seen) is = let tells = ap (λ out. out.tells) is in absurd (let z : ◌≡◌ {A = ℕ} 0 1 = cc in omega arith)
        go (refused number line) is = rw is

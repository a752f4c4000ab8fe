-- Laws of reading from a place of the text on, one for each way a line can go: refused, or read, and then the rest of the text is read.
use Prim.Native.Nat.{ℕ, zero, suc, ◌+◌, ◌<◌, ◌≤◌}
use mathlib.Core.Path.{◌≡◌, sym, ap, ◌∙◌}
use mathlib.Core.Bool.{true, false, ◌&&◌}
use mathlib.Core.List.{List, [], ◌∷◌, ◌++◌}
use mathlib.Core.Logic.{◌⊎◌, inl, inr, ◌≢◌}
use lib.ListN.{length, get_or, drop, length-append, length-drop, drop_of_length-le}
use lib.Seq.{drop-drop, get_or-drop}
use borrow.Author.Tests.{le-leb, lt-leb}
use native.Mathlib.Nat.{add-zero}
use native.Mathlib.Omega.{arith}
use Rattle.graphs.proofs.Tests.{either, clash, and_cases, not_both}
use Rattle.std.proofs.Common.{Some, None}
use Rattle.lines.specs.declared.StateLine.{StateLine}
use Rattle.lines.specs.declared.TransitionLine.{TransitionLine}
use Rattle.lines.specs.Line.{cut, pieces, field, is_state, is_transition, flag_of}
use Rattle.lines.specs.Found.{label_of, first_line, ended, past_line, state_found, transition_found}
use Rattle.lines.proofs.Pieces.{pieces_some, pieces_ended, pieces_rest}
use Rattle.lines.proofs.Records.{letter_state, letter_transition}
use Rattle.text.proofs.Nil.{nil_some}
use Rattle.text.specs.Text as text
use Rattle.text.specs.Text.{Rooms, Seen, Meaning, reads, refused, is_nil, declared, transition_of, stood, with_state, with_transition}
use Rattle.text.specs.Text.{state_line, transition_line, one_line, then_on, at_end, read_lines}
use Rattle.statelist.specs.Loops.{from_here}

-- a byte that is not 0 stands inside the text
pub byte_inside : (l : List ℕ) (i x : ℕ) → 0 < x → get_or l i 0 ≡ x → i < length l
byte_inside [] i x low e = absurd (omega arith)
byte_inside (b ∷ l) zero x low e = omega arith
byte_inside (b ∷ l) (suc i) x low e = let h = byte_inside l i x low e in omega arith

-- the state that was found at a place is the page's
pub record StateHere (left : List ℕ) (at : ℕ) (found : StateLine) : Type 0 where
  pub whole : ended left ≡ true
  pub is : is_state (first_line left) ≡ true
  pub label_is : found.label ≡ label_of (field 1 (first_line left))
  pub flag_is : found.flag ≡ flag_of (first_line left)
  pub next_is : found.next ≡ past_line at (first_line left)

pub state_here : {left : List ℕ} {at : ℕ} {found : StateLine} → state_found at left ≡ Some found → StateHere left at found
unfolding state_found
state_here {left} {at} {found} e = go (either (ended left && is_state (first_line left)))
  where
    go : ((ended left && is_state (first_line left)) ≡ true) ⊎ ((ended left && is_state (first_line left)) ≡ false) → StateHere left at found
    go (inl b) =
        let line = first_line left in
        let parts = and_cases (ended left) (is_state line) b in
        let named : StateLine = record { label = label_of (field 1 line); flag = flag_of line; next = past_line at line } in
        let e' : Some named ≡ Some found = rw b at e in
        let same : found ≡ named = cc in
        record { whole = parts.0; is = parts.1; label_is = ap (λ f. f.label) same; flag_is = ap (λ f. f.flag) same; next_is = ap (λ f. f.next) same }
    go (inr b) = let e' : None ≡ Some found = rw b at e in let z : ◌≡◌ {A = ℕ} 0 1 = cc in absurd (omega arith)

pub state_none : (left : List ℕ) (at : ℕ) → state_found at left ≡ None → ended left ≡ true → is_state (first_line left) ≡ false
unfolding state_found
state_none left at e w =
    not_both (λ b.
    let line = first_line left in
    let named : StateLine = record { label = label_of (field 1 line); flag = flag_of line; next = past_line at line } in
    let e' : Some named ≡ None = rw (w, b) at e in
    let z : ◌≡◌ {A = ℕ} 0 1 = cc in omega arith)

-- and so the transition
pub record TransitionHere (left : List ℕ) (at : ℕ) (found : TransitionLine) : Type 0 where
  pub whole : ended left ≡ true
  pub is : is_transition (first_line left) ≡ true
  pub from_is : found.from ≡ label_of (field 1 (first_line left))
  pub to_is : found.to ≡ label_of (field 2 (first_line left))
  pub next_is : found.next ≡ past_line at (first_line left)

pub transition_here : {left : List ℕ} {at : ℕ} {found : TransitionLine} → transition_found at left ≡ Some found → TransitionHere left at found
unfolding transition_found
transition_here {left} {at} {found} e = go (either (ended left && is_transition (first_line left)))
  where
    go : ((ended left && is_transition (first_line left)) ≡ true) ⊎ ((ended left && is_transition (first_line left)) ≡ false)
        → TransitionHere left at found
    go (inl b) =
        let line = first_line left in
        let parts = and_cases (ended left) (is_transition line) b in
        let named : TransitionLine = record { from = label_of (field 1 line); to = label_of (field 2 line); next = past_line at line } in
        let e' : Some named ≡ Some found = rw b at e in
        let same : found ≡ named = cc in
        record { whole = parts.0; is = parts.1; from_is = ap (λ f. f.from) same; to_is = ap (λ f. f.to) same; next_is = ap (λ f. f.next) same }
    go (inr b) = let e' : None ≡ Some found = rw b at e in let z : ◌≡◌ {A = ℕ} 0 1 = cc in absurd (omega arith)

pub transition_none : (left : List ℕ) (at : ℕ) → transition_found at left ≡ None → ended left ≡ true
    → is_transition (first_line left) ≡ false
unfolding transition_found
transition_none left at e w =
    not_both (λ b.
    let line = first_line left in
    let named : TransitionLine = record { from = label_of (field 1 line); to = label_of (field 2 line); next = past_line at line } in
    let e' : Some named ≡ None = rw (w, b) at e in
    let z : ◌≡◌ {A = ℕ} 0 1 = cc in omega arith)

-- a line that is refused ends the reading; after one that is read, the rest is read
abbrev after : Rooms → List ℕ → Seen → Meaning
after rooms left seen = read_lines rooms (pieces (drop (suc (length (first_line left))) left)) seen

more_read : (rooms : Rooms) (line : List ℕ) (more : List (List ℕ)) (seen : Seen) (p : List ℕ) (ps : List (List ℕ)) → more ≡ p ∷ ps
    → read_lines rooms (line ∷ more) seen ≡ then_on (one_line rooms line seen) (λ s. read_lines rooms more s)
unfolding read_lines
more_read rooms line more seen p ps e = rw e

line_read : (rooms : Rooms) (left : List ℕ) (seen : Seen) → ended left ≡ true
    → read_lines rooms (pieces left) seen ≡ then_on (one_line rooms (first_line left) seen) (after rooms left)
line_read rooms left seen e =
    let rest = drop (suc (length (first_line left))) left in
    let some = pieces_some rest in
    ap (λ q. read_lines rooms q seen) (pieces_ended left e) ∙ more_read rooms (first_line left) (pieces rest) seen some.0 some.1 some.2

rest_read : (rooms : Rooms) (left : List ℕ) (seen : Seen) → ended left ≡ false → read_lines rooms (pieces left) seen ≡ at_end left seen
unfolding read_lines
rest_read rooms left seen e = rw (pieces_rest left e)

-- what was read up to a place, a line for each record
abbrev pub seen_at : ℕ → List text.State → List text.Transition → Seen
seen_at at states transitions = record { line = suc (length states + length transitions); at = at; states = states; transitions = transitions }

module _ (rooms : Rooms) (bytes : List ℕ) (at : ℕ) (states : List text.State) (transitions : List text.Transition) where
  abbrev left : List ℕ
  left = drop at bytes

  abbrev seen : Seen
  seen = seen_at at states transitions

  refused_here : {number line : ℕ} → ended left ≡ true → one_line rooms (first_line left) seen ≡ refused number line
      → from_here rooms bytes at states transitions ≡ refused number line
  unfolding from_here
  refused_here w e = line_read rooms left seen w ∙ ap (λ m. then_on m (after rooms left)) e

  read_here : (states' : List text.State) (transitions' : List text.Transition) (next : ℕ)
      → ended left ≡ true → next ≡ past_line at (first_line left)
      → one_line rooms (first_line left) seen ≡ reads (seen_at next states' transitions')
      → from_here rooms bytes at states transitions ≡ from_here rooms bytes next states' transitions'
  unfolding from_here
  read_here states' transitions' next w q e =
      let there : at + suc (length (first_line left)) ≡ next = omega arith in
      let past : drop (suc (length (first_line left))) left ≡ drop next bytes = drop-drop _ at bytes ∙ ap (λ k. drop k bytes) there in
      line_read rooms left seen w
      ∙ ap (λ m. then_on m (after rooms left)) e
      ∙ ap (λ l. read_lines rooms (pieces l) (seen_at next states' transitions')) past

-- the line after it: its number and its place
moved : {at at' line line' : ℕ} {states : List text.State} {transitions : List text.Transition} → at ≡ at' → line ≡ line'
    → reads (record { line = line; at = at; states = states; transitions = transitions })
    ≡ reads (record { line = line'; at = at'; states = states; transitions = transitions })
moved e q = rw (e, q)

first_byte : (bytes : List ℕ) (at : ℕ) → get_or (drop at bytes) 0 0 ≡ get_or bytes at 0
first_byte bytes at = get_or-drop at bytes 0 0 ∙ ap (λ i. get_or bytes i 0) (add-zero at)

left_some : (bytes : List ℕ) (at : ℕ) → at < length bytes → 0 < length (drop at bytes)
left_some bytes at h = rw (length-drop at bytes) (omega arith)

-- S lines: no transition was read yet
module _ (rooms : Rooms) (bytes : List ℕ) (at : ℕ) (states : List text.State) where
  abbrev here : List ℕ
  here = first_line (drop at bytes)

  -- refused as 2
  pub state_bad : at < length bytes → get_or bytes at 0 ≡ 83 → state_found at (drop at bytes) ≡ None
      → from_here rooms bytes at states [] ≡ refused 2 (suc (length states + 0))
  unfolding one_line at_end from_here
  state_bad h letter e = go (either (ended (drop at bytes)))
    where
      go : (ended (drop at bytes) ≡ true) ⊎ (ended (drop at bytes) ≡ false)
          → from_here rooms bytes at states [] ≡ refused 2 (suc (length states + 0))
      go (inl w) =
          let not_t : get_or (drop at bytes) 0 0 ≢ 84 = λ q. let z = sym (first_byte bytes at) in omega arith in
          refused_here rooms bytes at states [] w (rw (state_none (drop at bytes) at e w, letter_transition (drop at bytes) not_t))
      go (inr w) = rest_read rooms (drop at bytes) (seen_at at states []) w ∙ rw (nil_some (drop at bytes) (left_some bytes at h))

  module _ {line : StateLine} (found : StateHere (drop at bytes) at line) where
    -- refused as 3
    pub state_twice : declared (field 1 here) states ≡ true → from_here rooms bytes at states [] ≡ refused 3 (suc (length states + 0))
    unfolding one_line state_line is_nil
    state_twice d = refused_here rooms bytes at states [] found.whole (rw (found.is, d))

    -- refused as 6
    pub state_full : declared (field 1 here) states ≡ false → rooms.for_states ≤ length states
        → from_here rooms bytes at states [] ≡ refused 6 (suc (length states + 0))
    unfolding one_line state_line is_nil
    state_full d h = refused_here rooms bytes at states [] found.whole (rw (found.is, d, le-leb _ _ h))

    pub state_more : declared (field 1 here) states ≡ false → length states < rooms.for_states
        → from_here rooms bytes at states []
        ≡ from_here rooms bytes line.next (states ++ (record { label = field 1 here; start = at + 2; flag = flag_of here } ∷ [])) []
    unfolding one_line state_line with_state is_nil
    state_more d h =
        let state : text.State = record { label = field 1 here; start = at + 2; flag = flag_of here } in
        let states' : List text.State = states ++ (state ∷ []) in
        let number : suc (suc (length states + 0)) ≡ suc (length states' + 0) = rw (length-append states (state ∷ [])) (omega arith) in
        read_here rooms bytes at states [] states' [] line.next found.whole found.next_is
        (rw (found.is, d, lt-leb _ _ h) (moved (sym found.next_is) number))

-- T lines
module _ (rooms : Rooms) (bytes : List ℕ) (at : ℕ) (states : List text.State) (transitions : List text.Transition) where
  abbrev this : List ℕ
  this = first_line (drop at bytes)

  -- refused as 2: it is no transition, and it is no state or follows a transition
  pub transition_bad : at < length bytes → transition_found at (drop at bytes) ≡ None
      → (is_nil transitions ≡ false) ⊎ (get_or bytes at 0 ≢ 83)
      → from_here rooms bytes at states transitions ≡ refused 2 (suc (length states + length transitions))
  unfolding one_line state_line at_end from_here
  transition_bad h e late = go (either (ended (drop at bytes))) late
    where
      no_state : is_state this ≡ false → ended (drop at bytes) ≡ true
          → from_here rooms bytes at states transitions ≡ refused 2 (suc (length states + length transitions))
      no_state s w = refused_here rooms bytes at states transitions w (rw (s, transition_none (drop at bytes) at e w))

      go : (ended (drop at bytes) ≡ true) ⊎ (ended (drop at bytes) ≡ false) → (is_nil transitions ≡ false) ⊎ (get_or bytes at 0 ≢ 83)
          → from_here rooms bytes at states transitions ≡ refused 2 (suc (length states + length transitions))
      go (inr w) late = rest_read rooms (drop at bytes) (seen_at at states transitions) w ∙ rw (nil_some (drop at bytes) (left_some bytes at h))
      go (inl w) (inr ne) = no_state (letter_state (drop at bytes) (λ q. ne (sym (first_byte bytes at) ∙ q))) w
      go (inl w) (inl some) = pick (either (is_state this))
        where
          pick : (is_state this ≡ true) ⊎ (is_state this ≡ false)
              → from_here rooms bytes at states transitions ≡ refused 2 (suc (length states + length transitions))
          pick (inl s) = refused_here rooms bytes at states transitions w (rw (s, some))
          pick (inr s) = no_state s w

  module _ {line : TransitionLine} (found : TransitionHere (drop at bytes) at line) where
    abbrev line_number : ℕ
    line_number = suc (length states + length transitions)

    no_state : is_state this ≡ false
    no_state = letter_state (drop at bytes) (λ q. clash found.is (letter_transition (drop at bytes) (λ z. omega arith)))

    -- refused as 4
    pub transition_unknown : (declared (field 1 this) states && declared (field 2 this) states) ≡ false
        → from_here rooms bytes at states transitions ≡ refused 4 line_number
    unfolding one_line transition_line
    transition_unknown d = refused_here rooms bytes at states transitions found.whole (rw (no_state, found.is, d))

    module _ (known : (declared (field 1 this) states && declared (field 2 this) states) ≡ true) where
      -- refused as 5
      pub transition_twice : stood (transition_of this states) transitions ≡ true
          → from_here rooms bytes at states transitions ≡ refused 5 line_number
      unfolding one_line transition_line
      transition_twice d = refused_here rooms bytes at states transitions found.whole (rw (no_state, found.is, known, d))

      -- refused as 7
      pub transition_full : stood (transition_of this states) transitions ≡ false → rooms.for_transitions ≤ length transitions
          → from_here rooms bytes at states transitions ≡ refused 7 line_number
      unfolding one_line transition_line
      transition_full d h = refused_here rooms bytes at states transitions found.whole (rw (no_state, found.is, known, d, le-leb _ _ h))

      pub transition_more : stood (transition_of this states) transitions ≡ false → length transitions < rooms.for_transitions
          → from_here rooms bytes at states transitions ≡ from_here rooms bytes line.next states (transitions ++ (transition_of this states ∷ []))
      unfolding one_line transition_line with_transition
      transition_more d h =
          let transitions' : List text.Transition = transitions ++ (transition_of this states ∷ []) in
          let number : suc line_number ≡ suc (length states + length transitions') =
          rw (length-append transitions (transition_of this states ∷ [])) (omega arith) in
          read_here rooms bytes at states transitions states transitions' line.next found.whole found.next_is
          (rw (no_state, found.is, known, d, lt-leb _ _ h) (moved (sym found.next_is) number))

  -- the end of the text: refused as 8, or read
  pub end_here : length bytes ≤ at → from_here rooms bytes at states transitions ≡ at_end [] (seen_at at states transitions)
  unfolding from_here read_lines cut
  end_here h = rw (drop_of_length-le bytes h)

-- What is found at a place of a text, by the tests of `state_line` and `transition_line`: a line that the page says is a state or a transition
-- passes them all, and bytes that pass them all are such a line.
use Prim.Native.Nat.{ℕ, suc, ◌+◌}
use mathlib.Core.Path.{◌≡◌, refl, sym, ap, ◌∙◌}
use mathlib.Core.Bool.{Bool, true, cond, ◌&&◌}
use mathlib.Core.List.{List, [], ◌∷◌, ◌++◌}
use mathlib.Core.Logic.{◌⊎◌, inl, inr, ◌≢◌}
use lib.ListN.{length, drop}
use native.Mathlib.Omega.{arith}
use Rattle.graphs.specs.Lists.{elem, same}
use Rattle.graphs.proofs.Tests.{and_cases, or_cases, not_both}
use Rattle.graphs.proofs.Same.{same_eq}
use Rattle.lines.specs.Line.{field, is_label, accepting, plain, is_state, is_transition, flag_of}
use Rattle.lines.specs.Found.{label_of, first_line, ended, state_found, transition_found}
use Rattle.lines.specs.Scan.{label_here, Begins}
use Rattle.lines.specs.declared.Label.{Label}
use Rattle.lines.specs.declared.StateLine.{StateLine}
use Rattle.lines.specs.declared.TransitionLine.{TransitionLine}
use Rattle.std.specs.Prelude.{Option, Some, None}
use Rattle.lines.proofs.Bytes.{tab_ends, line_feed_ends}
use Rattle.lines.proofs.Labels.{here_label, begins_some, begins_rest}
use Rattle.lines.proofs.Lines.{three, line_long, Plain, label_plain, three_ended, three_first, three_fields}
use Rattle.lines.proofs.Lines.{three_of}
use Rattle.lines.proofs.Records.{Passed, flagged, state_passed, transition_passed}

-- the records, as the code gives them
abbrev state : Label → ℕ → ℕ → Option StateLine
state label flag next = Some (record { label = label; flag = flag; next = next })

abbrev transition : Label → Label → ℕ → Option TransitionLine
transition from to next = Some (record { from = from; to = to; next = next })

-- a line with the letter, a label and a last field stands first
pub record Formed (left : List ℕ) (letter : ℕ) (last : List ℕ → Bool) : Type 0 where
  pub label : List ℕ
  pub end : List ℕ
  pub rest : List ℕ
  pub good : is_label label ≡ true
  pub passed : last end ≡ true
  pub is : left ≡ three letter label end rest

formed_of : (left : List ℕ) (letter : ℕ) (last : List ℕ → Bool) → ended left ≡ true → Passed letter last (first_line left) → Formed left letter last
formed_of left letter last feed t =
    let line = first_line left in
    record {
      label = field 1 line;
      end = field 2 line;
      rest = drop (suc (length line)) left;
      good = t.2;
      passed = t.3;
      is = three_of left letter feed t.0 t.1;
    }

-- no such line, no record
state_none : (at : ℕ) (left : List ℕ) → (Formed left 83 flagged → ⊥) → None ≡ state_found at left
unfolding state_found
state_none at left h = rw (not_both h')
  where
    h' : (ended left && is_state (first_line left)) ≡ true → ⊥
    h' e =
        let parts = and_cases (ended left) (is_state (first_line left)) e in
        h (formed_of left 83 flagged parts.0 (state_passed (first_line left) parts.1))

transition_none : (at : ℕ) (left : List ℕ) → (Formed left 84 is_label → ⊥) → None ≡ transition_found at left
unfolding transition_found
transition_none at left h = rw (not_both h')
  where
    h' : (ended left && is_transition (first_line left)) ≡ true → ⊥
    h' e =
        let parts = and_cases (ended left) (is_transition (first_line left)) e in
        h (formed_of left 84 is_label parts.0 (transition_passed (first_line left) parts.1))

-- such a line is a record
state_three : (at : ℕ) (a b r : List ℕ) → is_label a ≡ true → Plain b → flagged b ≡ true
    → state_found at (three 83 a b r) ≡ state (label_of a) (cond (same b accepting) 1 0) (at + (3 + length a + length b) + 1)
unfolding state_found is_state flag_of same elem
state_three at a b r good pb last =
    let pl : Plain (83 ∷ []) = record { tab_free = refl; feed_free = refl } in
    let pa = label_plain a good in
    rw (three_ended 83 a b r pl pa pb, three_first 83 a b r pl pa pb, three_fields 83 a b r pl pa pb, good, last, line_long 83 a b)

transition_three : (at : ℕ) (a b r : List ℕ) → is_label a ≡ true → is_label b ≡ true
    → transition_found at (three 84 a b r) ≡ transition (label_of a) (label_of b) (at + (3 + length a + length b) + 1)
unfolding transition_found is_transition same elem
transition_three at a b r good last =
    let pl : Plain (84 ∷ []) = record { tab_free = refl; feed_free = refl } in
    let pa = label_plain a good in
    let pb = label_plain b last in
    rw (three_ended 84 a b r pl pa pb, three_first 84 a b r pl pa pb, three_fields 84 a b r pl pa pb, good, last, line_long 84 a b)

-- what is left of the text begins with another letter or no tab
pub state_no_front : (at : ℕ) (left : List ℕ) → ((m : List ℕ) → left ≢ 83 ∷ 9 ∷ m) → None ≡ state_found at left
state_no_front at left h = state_none at left (λ f. h _ f.is)

pub transition_no_front : (at : ℕ) (left : List ℕ) → ((m : List ℕ) → left ≢ 84 ∷ 9 ∷ m) → None ≡ transition_found at left
transition_no_front at left h = transition_none at left (λ f. h _ f.is)

-- the letter and the tab of a state stand first: then a label, a tab, a flag and a line feed have to follow
module _ (at : ℕ) {left more : List ℕ} (front : left ≡ 83 ∷ 9 ∷ more) where
  state_more : (f : Formed left 83 flagged) → more ≡ f.label ++ 9 ∷ (f.end ++ 10 ∷ f.rest)
  state_more f = ap (drop 2) (sym front ∙ f.is)

  pub state_no_label : label_here more ≡ [] → None ≡ state_found at left
  state_no_label e = state_none at left (λ f. begins_some f.label 9 (f.end ++ 10 ∷ f.rest) f.good tab_ends (state_more f) e)

  module _ {l : Label} {rest : List ℕ} (b : Begins more l rest) where
    pub state_no_flag : ((m : List ℕ) → rest ≢ 9 ∷ 97 ∷ 10 ∷ m) → ((m : List ℕ) → rest ≢ 9 ∷ 45 ∷ 10 ∷ m) → None ≡ state_found at left
    state_no_flag a p = state_none at left go
      where
        go : Formed left 83 flagged → ⊥
        go f = flag (or_cases (same f.end accepting) (same f.end plain) f.passed)
          where
            here : rest ≡ 9 ∷ (f.end ++ 10 ∷ f.rest)
            here = begins_rest f.label 9 (f.end ++ 10 ∷ f.rest) f.good tab_ends (state_more f) b

            flag : (same f.end accepting ≡ true) ⊎ (same f.end plain ≡ true) → ⊥
            flag (inl e) = a f.rest (here ∙ ap (λ m. 9 ∷ (m ++ 10 ∷ f.rest)) (same_eq f.end accepting e))
            flag (inr e) = p f.rest (here ∙ ap (λ m. 9 ∷ (m ++ 10 ∷ f.rest)) (same_eq f.end plain e))

    state_by : (x : ℕ) (m : List ℕ) → Plain (x ∷ []) → flagged (x ∷ []) ≡ true → rest ≡ 9 ∷ x ∷ 10 ∷ m
        → state l (cond (same (x ∷ []) accepting) 1 0) (at + l.len + 5) ≡ state_found at left
    unfolding label_of
    state_by x m pb last e =
        let a = label_here more in
        let is : left ≡ three 83 a (x ∷ []) m = front ∙ ap (λ r. 83 ∷ 9 ∷ r) (b.is ∙ ap (λ r. a ++ r) e) in
        let place : at + (3 + length a + 1) + 1 ≡ at + length a + 5 = omega arith in
        sym (rw (is, b.words, ← place) (state_three at a (x ∷ []) m (here_label more b.some) pb last))

    pub state_accepting : (m : List ℕ) → rest ≡ 9 ∷ 97 ∷ 10 ∷ m → state l 1 (at + l.len + 5) ≡ state_found at left
    unfolding same elem
    state_accepting m = state_by 97 m (record { tab_free = refl; feed_free = refl }) refl

    pub state_plain : (m : List ℕ) → rest ≡ 9 ∷ 45 ∷ 10 ∷ m → state l 0 (at + l.len + 5) ≡ state_found at left
    unfolding same elem
    state_plain m = state_by 45 m (record { tab_free = refl; feed_free = refl }) refl

-- the letter and the tab of a transition stand first: then a label, a tab, a label and a line feed have to follow
module _ (at : ℕ) {left more : List ℕ} (front : left ≡ 84 ∷ 9 ∷ more) where
  transition_more : (f : Formed left 84 is_label) → more ≡ f.label ++ 9 ∷ (f.end ++ 10 ∷ f.rest)
  transition_more f = ap (drop 2) (sym front ∙ f.is)

  pub transition_no_from : label_here more ≡ [] → None ≡ transition_found at left
  transition_no_from e = transition_none at left (λ f. begins_some f.label 9 (f.end ++ 10 ∷ f.rest) f.good tab_ends (transition_more f) e)

  module _ {from : Label} {rest : List ℕ} (b : Begins more from rest) where
    after_from : (f : Formed left 84 is_label) → rest ≡ 9 ∷ (f.end ++ 10 ∷ f.rest)
    after_from f = begins_rest f.label 9 (f.end ++ 10 ∷ f.rest) f.good tab_ends (transition_more f) b

    pub transition_no_tab : ((m : List ℕ) → rest ≢ 9 ∷ m) → None ≡ transition_found at left
    transition_no_tab h = transition_none at left (λ f. h _ (after_from f))

    module _ {last : List ℕ} (tab : rest ≡ 9 ∷ last) where
      last_is : (f : Formed left 84 is_label) → last ≡ f.end ++ 10 ∷ f.rest
      last_is f = ap (drop 1) (sym tab ∙ after_from f)

      pub transition_no_to : label_here last ≡ [] → None ≡ transition_found at left
      transition_no_to e = transition_none at left (λ f. begins_some f.end 10 f.rest f.passed line_feed_ends (last_is f) e)

      module _ {to : Label} {end : List ℕ} (d : Begins last to end) where
        pub transition_no_feed : ((m : List ℕ) → end ≢ 10 ∷ m) → None ≡ transition_found at left
        transition_no_feed h = transition_none at left (λ f. h _ (begins_rest f.end 10 f.rest f.passed line_feed_ends (last_is f) d))

        pub transition_is : (m : List ℕ) → end ≡ 10 ∷ m → transition from to (at + from.len + to.len + 4) ≡ transition_found at left
        unfolding label_of
        transition_is m e =
            let a = label_here more in
            let z = label_here last in
            let is : left ≡ three 84 a z m =
            front ∙ ap (λ r. 84 ∷ 9 ∷ r) (b.is ∙ ap (λ r. a ++ r) (tab ∙ ap (λ r. 9 ∷ r) (d.is ∙ ap (λ r. z ++ r) e))) in
            let place : at + (3 + length a + length z) + 1 ≡ at + length a + length z + 4 = omega arith in
            sym (rw (is, b.words, d.words, ← place) (transition_three at a z m (here_label more b.some) (here_label last d.some)))

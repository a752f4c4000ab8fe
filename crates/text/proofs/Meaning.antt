-- What holds of a text that is read, and of one that is refused: line by line, from `nothing` on. The lines left are those of the text from where
-- the next line starts.
use Prim.Native.Nat.{ℕ, suc, ◌+◌, ◌≤◌}
use mathlib.Core.Path.{◌≡◌, refl, sym, ap, subst, ◌∙◌}
use mathlib.Core.Bool.{true, not}
use mathlib.Core.List.{List, [], ◌∷◌}
use lib.Dec.{ltb}
use lib.ListN.{length, get_or, take, drop}
use lib.Seq.{drop-drop}
use native.Mathlib.Omega.{arith}
use borrow.Author.Tests.{lt-ltb}
use Rattle.graphs.proofs.Tests.{cond_ind}
use Rattle.lines.specs.Line.{pieces, field, is_state}
use Rattle.lines.specs.Found.{first_line, ended}
use Rattle.text.specs.Text.{Rooms, Seen, Meaning, reads, refused, is_nil, one_line, then_on, at_end, read_lines, nothing, most_text}
use Rattle.text.specs.Text.{meaning}
use Rattle.lines.proofs.Pieces.{pieces_ended}
use Rattle.lines.proofs.Records.{state_place}
use Rattle.text.proofs.Nil.{not_nil}
use Rattle.text.proofs.Good.{Good, Either, After, nothing_good, line_good}

then_either : (rooms : Rooms) (Q R : Seen → Type 0) (m : Meaning) (more : Seen → Meaning) → Either rooms Q m
    → ((s : Seen) → Q s → Either rooms R (more s)) → Either rooms R (then_on m more)
then_either rooms Q R (reads seen) more q r = r seen q
then_either rooms Q R (refused number line) more q r = q

-- a line that is not the last piece of what is left
module _ (text : List ℕ) (at : ℕ) (line next : List ℕ) (more : List (List ℕ)) (e : line ∷ next ∷ more ≡ pieces (drop at text)) where
  first_line_lem : first_line (drop at text) ≡ line
  unfolding first_line
  first_line_lem = ap (λ q. get_or q 0 []) (sym e)

  line_ended : ended (drop at text) ≡ true
  unfolding ended
  line_ended = rw (sym e) (lt-ltb 1 (length (line ∷ next ∷ more)) (omega arith))

  label_place : is_state line ≡ true → take (length (field 1 line)) (drop (at + 2) text) ≡ field 1 line
  label_place k = rw (first_line_lem, drop-drop) at (state_place (drop at text) line_ended (rw first_line_lem k))

  next_lines : next ∷ more ≡ pieces (drop (at + length line + 1) text)
  next_lines =
      let whole = rw first_line_lem at (pieces_ended (drop at text) line_ended) in
      let rest : next ∷ more ≡ pieces (drop (suc (length line)) (drop at text)) = ap (drop 1) (e ∙ whole) in
      let place : at + suc (length line) ≡ at + length line + 1 = omega arith in
      rest ∙ ap pieces (drop-drop (suc (length line)) at text ∙ ap (λ k. drop k text) place)

module _ (rooms : Rooms) (text : List ℕ) where
  -- what is read at the end: all of it, and there is a state
  abbrev pub Ends : Seen → Type 0
  Ends seen = Good rooms text seen × (1 ≤ length seen.states)

  end_good : (rest : List ℕ) (seen : Seen) → Good rooms text seen → Either rooms Ends (at_end rest seen)
  unfolding at_end
  end_good rest seen good =
      cond_ind (Either rooms Ends) (not (is_nil rest)) (λ e. (omega arith, omega arith, in_room)) (λ k.
      cond_ind (Either rooms Ends) (is_nil seen.states) (λ e. (omega arith, omega arith, omega arith)) (λ some.
      (good, not_nil seen.states some)))
    where
      in_room : seen.line ≤ suc (rooms.for_states + rooms.for_transitions)
      in_room = omega (arith, good.numbered, good.states_fit, good.transitions_fit)

  lines_good : (lines : List (List ℕ)) (seen : Seen) → lines ≡ pieces (drop seen.at text) → Good rooms text seen
      → Either rooms Ends (read_lines rooms lines seen)
  unfolding read_lines
  lines_good [] seen e good = end_good [] seen good
  lines_good (rest ∷ []) seen e good = end_good rest seen good
  lines_good (line ∷ next ∷ more) seen e good =
      then_either rooms (After rooms text line seen good) Ends (one_line rooms line seen) (λ s. read_lines rooms (next ∷ more) s)
      (line_good rooms text line seen good (label_place text seen.at line next more e))
      (λ s h. lines_good (next ∷ more) s (rw h.1 (next_lines text seen.at line next more e)) h.0)

  meaning_either : Either rooms Ends (meaning rooms text)
  unfolding meaning
  meaning_either =
      cond_ind (Either rooms Ends) (ltb most_text (length text)) (λ e. (omega arith, omega arith, omega arith))
      (λ e. lines_good (pieces text) nothing refl (nothing_good rooms text))

  pub meaning_good : (seen : Seen) → meaning rooms text ≡ reads seen → Good rooms text seen × (1 ≤ length seen.states)
  meaning_good seen e = subst (Either rooms Ends) e meaning_either

  -- 01 numbers these refusals 1 to 8; their lines are below 20,482, whatever the text
  pub numbers_only : (number line : ℕ) → meaning rooms text ≡ refused number line
      → (1 ≤ number) × (number ≤ 8) × (line ≤ suc (rooms.for_states + rooms.for_transitions))
  numbers_only number line e = subst (Either rooms Ends) e meaning_either

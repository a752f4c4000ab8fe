-- Laws of reading the S lines: what the loop holds at its start, after a state more, and where it is refused.
use Prim.Native.Nat.{ℕ, suc, ◌+◌, ◌*◌, ◌<◌, ◌≤◌}
use mathlib.Core.Path.{◌≡◌, refl, sym, ap, ◌∙◌, subst}
use mathlib.Core.Bool.{true, false}
use mathlib.Core.List.{List, []}
use lib.ListN.{length, get_or, set, take, drop, length-drop}
use lib.Seq.{drop-drop, get_or-take, length-take-le, get_or-set_other}
use native.Mathlib.Omega.{arith}
use Rattle.graphs.specs.Lists.{tab}
use Rattle.graphs.proofs.Stamps.{zeroes_at}
use Rattle.graphs.proofs.Tab.{tab_long}
use Rattle.lines.specs.declared.StateLine.{StateLine}
use Rattle.lines.specs.Line.{field, is_label, flag_of}
use Rattle.lines.specs.Found.{first_word, second_word, label_of, first_line, state_found}
use Rattle.std.proofs.Common.{Some, None}
use Rattle.pairs.specs.Pairs.{is_pair, found}
use Rattle.lines.proofs.Labels.{label_long}
use Rattle.lines.proofs.Pieces.{ended_inside}
use Rattle.lines.proofs.Records.{state_label, state_place}
use Rattle.statelist.specs.declared.ReadError.{ReadError}
use Rattle.statelist.specs.declared.ReadError.TheVariants.{NoForm, DeclaredTwice, NoStateRoom}
use Rattle.text.specs.Text.{State, declared, refused}
use Rattle.text.specs.Lists.{zeros, padded}
use Rattle.text.proofs.Zeros.{padded_is}
use Rattle.statelist.specs.Told.{error_number, error_line}
use Rattle.statelist.specs.Loops.{states_in, from_here, Blank, Refused, room_for, Declared}
use Rattle.statelist.proofs.Here.{StateHere, state_bad, state_twice, state_full, state_more}
use Rattle.statelist.proofs.Labelled.{label_unknown, label_known, asked_not, labelled_none, states_more, labelled_more}

pub blank_zeros : (l : List ℕ) (n : ℕ) → l ≡ zeros (length l) → Blank l n
blank_zeros l n e i h = ap (λ m. get_or m i 0) e ∙ zeroes_at (length l) i

pub blank_set : (l : List ℕ) (n k v : ℕ) → Blank l n → n ≤ k → Blank (set l k v) (suc k)
blank_set l n k v b h i low = get_or-set_other l k i v 0 (λ e. omega arith) ∙ b i (omega arith)

-- a list whose words from n on are 0 is its first n words, padded
pub blank_padded : (l : List ℕ) (n : ℕ) → n ≤ length l → Blank l n → l ≡ padded (length l) (take n l)
blank_padded l n h b =
    let long = length-take-le n l h in
    padded_is (take n l) l (omega arith) (λ v k. sym (get_or-take n l v 0 (omega arith))) (λ v k. b v (omega arith))

pub states_long : (text flags places : List ℕ) (n : ℕ) → length (states_in text flags places n) ≡ n
unfolding states_in
states_long text flags places n = tab_long 0 n _

-- the label of a state that was found is short
pub label_short : {left : List ℕ} {at : ℕ} {line : StateLine} → StateHere left at line → line.label.len ≤ 16
unfolding label_of
label_short here = rw here.label_is (label_long _ (state_label _ here.is))

-- the next line starts further on
pub state_past : {left : List ℕ} {at : ℕ} {line : StateLine} → StateHere left at line → at < line.next
state_past here = omega (arith, here.next_is)

pub declared_none : (text : List ℕ) (held : ℕ) (flags places first second : List ℕ)
    → flags ≡ zeros (length flags) → places ≡ zeros (length places) → Declared text held flags places first second 0 0
unfolding states_in tab
declared_none text held flags places first second flags_none places_none =
    record {
      same = λ t. refl;
      labelled = labelled_none;
      few = omega arith;
      in_text = omega arith;
      flags_blank = blank_zeros flags 0 flags_none;
      places_blank = blank_zeros places (2 * 0) places_none;
    }

module _ {text : List ℕ} {held : ℕ} {flags places first second : List ℕ} {at n : ℕ}
    (d : Declared text held flags places first second at n) where
  abbrev states : List State
  states = states_in text flags places n

  refuse : (error : ReadError) (t : ℕ) → from_here (room_for held t) text at states [] ≡ refused (error_number error) (suc (length states + 0))
      → error_line error ≡ n + 1 → Refused error (from_here (room_for held t) text 0 [] [])
  refuse error t e line_is =
      let line : suc (length states + 0) ≡ error_line error = omega (arith, states_long text flags places n, line_is) in
      sym (d.same t) ∙ e ∙ ap (refused (error_number error)) line

  pub stop_bad : at < length text → get_or text at 0 ≡ 83 → state_found at (drop at text) ≡ None → (t : ℕ)
      → Refused (NoForm (n + 1)) (from_here (room_for held t) text 0 [] [])
  stop_bad h letter e t =
      refuse (NoForm (n + 1)) t (state_bad (room_for held t) text at states h letter e) refl

  module _ {line : StateLine} (here : StateHere (drop at text) at line) where
    abbrev label : List ℕ
    label = field 1 (first_line (drop at text))

    is_label_lem : is_label label ≡ true
    is_label_lem = state_label _ here.is

    pub stop_twice : (i : ℕ) → found (is_pair first second line.label.first line.label.second) n ≡ Some i → (t : ℕ)
        → Refused (DeclaredTwice (n + 1)) (from_here (room_for held t) text 0 [] [])
    unfolding label_of
    stop_twice i e t =
        let known = label_known d.labelled label is_label_lem flags i (rw here.label_is at e) in
        refuse (DeclaredTwice (n + 1)) t
        (state_twice (room_for held t) text at states here known)
        refl

    module _ (none : found (is_pair first second line.label.first line.label.second) n ≡ None) where
      none' : found (is_pair first second (first_word label) (second_word label)) n ≡ None
      unfolding label_of
      none' = rw here.label_is at none

      unknown : declared label states ≡ false
      unknown = label_unknown d.labelled label is_label_lem flags none'

      pub stop_full : held ≤ n → (t : ℕ) → Refused (NoStateRoom (n + 1)) (from_here (room_for held t) text 0 [] [])
      stop_full h t =
          refuse (NoStateRoom (n + 1)) t
          (state_full (room_for held t) text at states here unknown
          (rw (states_long text flags places n) h))
          refl

      pub declared_more : n < held → held ≤ length flags → 2 * held ≤ length places → n < length first → n < length second
          → Declared text held (set flags n line.flag) (set (set places (2 * n) (at + 2)) (2 * n + 1) line.label.len)
          (set first n line.label.first) (set second n line.label.second) line.next (n + 1)
      unfolding label_of
      declared_more h in_flags in_places in_first in_second =
          rw (here.label_is, here.flag_is)
          (record {
            same = λ t.
                rw (states_more text places n (at + 2) (length label) room flags (flag_of bytes) (omega arith), stands)
                (sym
                (state_more (room_for held t) text at states here unknown
                (rw (states_long text flags places n) h)) ∙ d.same t);
            labelled =
                labelled_more text places n (at + 2) (length label) room d.labelled
                (omega arith) (omega arith) is_label_lem stands refl
                (asked_not d.labelled label is_label_lem none');
            few = omega arith;
            in_text = let i = ended_inside (drop at text) here.whole in omega (arith, length-drop at text, here.next_is, d.in_text);
            flags_blank = subst (Blank (set flags n (flag_of bytes))) (omega arith) (blank_set flags n n (flag_of bytes) d.flags_blank (omega arith));
            places_blank =
                subst (Blank (set (set places (2 * n) (at + 2)) (2 * n + 1) (length label))) (omega arith)
                (blank_set (set places (2 * n) (at + 2)) (suc (2 * n)) (2 * n + 1) (length label)
                (blank_set places (2 * n) (2 * n) (at + 2) d.places_blank (omega arith)) (omega arith));
          })
        where
          bytes : List ℕ
          bytes = first_line (drop at text)

          room : 2 * n + 1 < length places
          room = omega arith

          stands : take (length label) (drop (at + 2) text) ≡ label
          stands = rw (drop-drop 2 at text) at (state_place (drop at text) here.whole here.is)

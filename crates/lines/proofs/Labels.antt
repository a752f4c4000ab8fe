-- The label that stands first in what is left of a text: its two words are those of its two parts, and a label before a byte that no label
-- holds is found whole.
use Prim.Native.Nat.{ℕ, ◌+◌, ◌-◌, ◌≤◌, ◌<◌}
use mathlib.Core.Path.{◌≡◌, sym, ap, ◌∙◌}
use mathlib.Core.Bool.{true, false}
use mathlib.Core.List.{List, [], ◌∷◌, ◌++◌}
use lib.ListN.{length, take, drop, take-append-drop, drop_of_length-le, length-drop}
use lib.Seq.{take_all, take-take, take_at, drop_at}
use native.Mathlib.Omega.{arith}
use borrow.Author.Tests.{le-leb}
use Rattle.std.specs.List.{prefix_len, take_while}
use Rattle.std.proofs.lemmas.List.{append_cancel_left, length-take, length-append}
use Rattle.std.proofs.lemmas.List.Sums.{prefix_len-le-length}
use Rattle.std.proofs.lemmas.List.Folds.{length-prefix_len}
use Rattle.graphs.specs.Lists.{all}
use Rattle.graphs.proofs.Tests.{and_cases}
use Rattle.lines.specs.Bytes.{between, in_label}
use Rattle.lines.specs.Line.{is_label}
use Rattle.lines.specs.Found.{value_from, label_of}
use Rattle.lines.specs.Scan.{part_of, label_here, Begins}
use Rattle.lines.specs.declared.Label.{Label}
use Rattle.lines.proofs.Bytes.{between_low}
use Rattle.lines.proofs.Run.{run_label, run_of, run_short, run_long}

-- how long a label is, and its bytes
label_span : (l : List ℕ) → is_label l ≡ true → (1 ≤ length l) × (length l ≤ 16)
unfolding is_label
label_span l e = between_low 1 16 (length l) (and_cases (between 1 16 (length l)) (all in_label l) e).0

pub label_some : (l : List ℕ) → is_label l ≡ true → 0 < length l
label_some l e = (label_span l e).0

pub label_long : (l : List ℕ) → is_label l ≡ true → length l ≤ 16
label_long l e = (label_span l e).1

pub label_bytes : (l : List ℕ) → is_label l ≡ true → all in_label l ≡ true
unfolding is_label
label_bytes l e = (and_cases (between 1 16 (length l)) (all in_label l) e).1

-- the label bytes that stand first: their number, and what stands after them
pub here_low : (left : List ℕ) → length (label_here left) ≤ 16
here_low left =
    let l = take 16 left in
    omega (arith, length-prefix_len in_label l, prefix_len-le-length in_label l, length-take 16 left)

pub here_split : (left : List ℕ) → left ≡ label_here left ++ drop (length (label_here left)) left
here_split left =
    let l = take 16 left in
    let n = prefix_len in_label l in
    let inside : n ≤ 16 = omega (arith, prefix_len-le-length in_label l, length-take 16 left) in
    rw (length-prefix_len in_label l, take-take n 16 left inside) (sym (take-append-drop n left))

-- a part of less than eight bytes is the whole label
pub label_of_one : (left : List ℕ) → (part_of (take 8 left)).len < 8
    → record { len = (part_of (take 8 left)).len; first = (part_of (take 8 left)).word; second = 0 } ≡ label_of (label_here left)
unfolding part_of label_of value_from
label_of_one left h =
    let bytes = take_while in_label (take 8 left) in
    let long : length bytes ≡ prefix_len in_label (take 8 left) = length-prefix_len in_label (take 8 left) in
    rw (run_short 8 8 left h, take_all 8 bytes (omega arith), drop_of_length-le bytes {i = 8} (omega arith), long)

pub label_of_two : (left : List ℕ) → 8 ≤ (part_of (take 8 left)).len
    → record {
      len = 8 + (part_of (take 8 (drop 8 left))).len;
      first = (part_of (take 8 left)).word;
      second = (part_of (take 8 (drop 8 left))).word;
    } ≡ label_of (label_here left)
unfolding part_of label_of value_from
label_of_two left h =
    let a = take 8 left in
    let b = take_while in_label (take 8 (drop 8 left)) in
    let inside = prefix_len-le-length in_label a in
    let eight : prefix_len in_label a ≡ 8 = omega (arith, length-take 8 left) in
    let first : length a ≡ 8 = omega (arith, length-take 8 left) in
    let whole : take 8 a ≡ a = take_all 8 a (omega arith) in
    let more = length-prefix_len in_label (take 8 (drop 8 left)) in
    let long : length (a ++ b) ≡ 8 + prefix_len in_label (take 8 (drop 8 left)) = omega (arith, length-append a b) in
    rw (run_long 8 8 left eight, eight, whole, take_at a b 8 first, drop_at a b 8 first, long)

-- a part of what is left that goes to its end
pub to_end : (left : List ℕ) (n : ℕ) → take (length left - n) (drop n left) ≡ drop n left
to_end left n = take_all (length left - n) (drop n left) (omega (arith, length-drop n left))

-- the code gives it so, with what is left after it
pub begins : (left : List ℕ) (l : Label) → 0 < l.len → l ≡ label_of (label_here left) → Begins left l (take (length left - l.len) (drop l.len left))
unfolding label_of
begins left l some is =
    let long : l.len ≡ length (label_here left) = ap (λ (m : Label). m.len) is in
    record {
      some = omega (arith, long);
      words = is;
      is = rw (to_end left l.len, long) (here_split left);
    }

-- what stands first is a label if it has a byte
pub here_label : (left : List ℕ) → 0 < length (label_here left) → is_label (label_here left) ≡ true
unfolding is_label between
here_label left h = rw (le-leb 1 (length (label_here left)) h, le-leb (length (label_here left)) 16 (here_low left)) (run_label (take 16 left))

-- a label before a byte that no label holds
pub here_is : (a : List ℕ) (b : ℕ) (r : List ℕ) → is_label a ≡ true → in_label b ≡ false → label_here (a ++ b ∷ r) ≡ a
here_is a b r e stop = run_of 16 a b r (label_bytes a e) (label_long a e) stop

-- what is left begins with a label: it is the one before a byte that no label holds, and that byte is the first of the rest
module _ {left : List ℕ} (a : List ℕ) (x : ℕ) (r : List ℕ) (good : is_label a ≡ true) (stop : in_label x ≡ false) (is : left ≡ a ++ x ∷ r) where
  pub here_before : label_here left ≡ a
  here_before = rw is (here_is a x r good stop)

  pub begins_some : label_here left ≡ [] → ⊥
  begins_some none = absurd (omega (arith, label_some a good, ap length (sym here_before ∙ none)))

  pub begins_rest : {l : Label} {rest : List ℕ} → Begins left l rest → rest ≡ x ∷ r
  begins_rest {l} {rest} b = append_cancel_left a rest (x ∷ r) (sym (ap (λ m. m ++ rest) here_before) ∙ sym b.is ∙ is)

-- Labels with the same two words are the same: a word tells its bytes, since none of them is 0.
use Prim.Native.Nat.{ℕ, ◌+◌, ◌*◌}
use mathlib.Core.Path.{◌≡◌, refl, sym, ap, ◌∙◌}
use mathlib.Core.Bool.{true}
use mathlib.Core.List.{List, [], ◌∷◌, ◌++◌, reverse, reverse-cons, reverse-reverse}
use lib.ListN.{take, drop, take-append-drop}
use native.Mathlib.Omega.{arith}
use Rattle.graphs.specs.Lists.{all}
use Rattle.graphs.proofs.Tests.{and_cases}
use Rattle.graphs.proofs.Same.{all_join}
use Rattle.lines.specs.Bytes.{in_label}
use Rattle.lines.specs.Line.{is_label}
use Rattle.lines.specs.Found.{value_from, first_word, second_word}
use Rattle.lines.proofs.Bytes.{label_byte}
use Rattle.lines.proofs.Part.{value_more}
use Rattle.lines.proofs.Labels.{label_bytes}

-- a word, its last byte first
value : List ℕ → ℕ
value l = value_from 0 (reverse l)

value_cons : (b : ℕ) (l : List ℕ) → value (b ∷ l) ≡ value l * 256 + b
unfolding value
value_cons b l = ap (value_from 0) (reverse-cons b l) ∙ value_more 0 (reverse l) b

value_nil : value [] ≡ 0
unfolding value value_from
value_nil = refl

value_one : (l m : List ℕ) → all in_label l ≡ true → all in_label m ≡ true → value l ≡ value m → l ≡ m
unfolding all
value_one [] [] el em e = refl
value_one [] (c ∷ m) el em e =
    let low = label_byte c (and_cases (in_label c) (all in_label m) em).0 in
    absurd (omega (arith, value_nil, value_cons c m, low.0))
value_one (b ∷ l) [] el em e =
    let low = label_byte b (and_cases (in_label b) (all in_label l) el).0 in
    absurd (omega (arith, value_nil, value_cons b l, low.0))
value_one (b ∷ l) (c ∷ m) el em e =
    let bl = and_cases (in_label b) (all in_label l) el in
    let cm = and_cases (in_label c) (all in_label m) em in
    let same = sym (value_cons b l) ∙ e ∙ value_cons c m in
    let here : b ≡ c = omega (arith, (label_byte b bl.0).1, (label_byte c cm.0).1) in
    let rest = value_one l m bl.1 cm.1 (omega (arith, here)) in
    cc

all_reverse : (l : List ℕ) → all in_label l ≡ true → all in_label (reverse l) ≡ true
unfolding all
all_reverse [] e = refl
all_reverse (b ∷ l) e =
    let parts = and_cases (in_label b) (all in_label l) e in
    rw (reverse-cons b l, all_join in_label (reverse l) (b ∷ []), all_reverse l parts.1, parts.0)

pub word_one : (l m : List ℕ) → all in_label l ≡ true → all in_label m ≡ true → value_from 0 l ≡ value_from 0 m → l ≡ m
unfolding value
word_one l m el em e =
    let back = value_one (reverse l) (reverse m) (all_reverse l el) (all_reverse m em) (rw (reverse-reverse l, reverse-reverse m) e) in
    sym (reverse-reverse l) ∙ ap reverse back ∙ reverse-reverse m

all_parts : (k : ℕ) (l : List ℕ) → all in_label l ≡ true → (all in_label (take k l) ≡ true) × (all in_label (drop k l) ≡ true)
all_parts k l e =
    let both = sym (all_join in_label (take k l) (drop k l)) ∙ ap (all in_label) (take-append-drop k l) ∙ e in
    and_cases (all in_label (take k l)) (all in_label (drop k l)) both

pub words_differ : (l m : List ℕ) → is_label l ≡ true → is_label m ≡ true → first_word l ≡ first_word m → second_word l ≡ second_word m → l ≡ m
words_differ l m el em first second =
    let pl = all_parts 8 l (label_bytes l el) in
    let pm = all_parts 8 m (label_bytes m em) in
    let begin = word_one (take 8 l) (take 8 m) pl.0 pm.0 first in
    let end = word_one (drop 8 l) (drop 8 m) pl.1 pm.1 second in
    sym (take-append-drop 8 l) ∙ ap (λ a. a ++ drop 8 l) begin ∙ ap (λ b. take 8 m ++ b) end ∙ take-append-drop 8 m

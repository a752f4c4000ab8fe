-- Reading up to eight label bytes and their word: what holds after each byte, and that the word fits 64 bits.
use Prim.Native.Nat.{ℕ, ◌+◌, ◌*◌, ◌^◌, ◌≤◌, ◌<◌, min}
use mathlib.Core.Path.{◌≡◌, refl}
use mathlib.Core.Bool.{true}
use mathlib.Core.List.{List, [], ◌∷◌, ◌++◌}
use lib.ListN.{length, get_or, take, drop}
use lib.Seq.{take-suc}
use native.Mathlib.Nat.{pow-suc, pow-le-pow_right}
use native.Mathlib.Numerals.{add-one}
use native.Mathlib.Omega.{arith}
use Rattle.std.specs.List.{prefix_len}
use Rattle.std.proofs.lemmas.List.{take_min}
use Rattle.std.proofs.lemmas.List.Sums.{prefix_len-drop_yes}
use Rattle.lines.specs.Bytes.{in_label}
use Rattle.lines.specs.Found.{value_from}
use Rattle.lines.specs.Scan.{part_of}

-- one byte more is one digit more
pub value_more : (v : ℕ) (l : List ℕ) (b : ℕ) → value_from v (l ++ (b ∷ [])) ≡ value_from v l * 256 + b
unfolding value_from
value_more v [] b = refl
value_more v (x ∷ l) b = value_more (v * 256 + x) l b

-- the first len bytes are label bytes, and word is their word
pub record Taken (few : List ℕ) (len word : ℕ) : Type 0 where
  pub run : len + prefix_len in_label (drop len few) ≡ prefix_len in_label few
  pub value : value_from 0 (take len few) ≡ word
  pub low : word < 256 ^ len

pub taken_none : (few : List ℕ) → Taken few 0 0
unfolding value_from
taken_none few = record { run = omega arith; value = refl; low = omega arith }

module _ (few : List ℕ) (len word : ℕ) (t : Taken few len word) where
  pub taken_fits : len < 8 → word < 72057594037927936
  taken_fits h = let most : 256 ^ len ≤ 256 ^ 7 = pow-le-pow_right (omega arith) {i = len} {j = 7} (omega arith) in omega (arith, t.low)

  pub taken_more : (b : ℕ) → len < length few → get_or few len 0 ≡ b → in_label b ≡ true → b < 256 → Taken few (len + 1) (word * 256 + b)
  taken_more b inside here e low =
      record {
        run = omega (arith, prefix_len-drop_yes in_label few len 0 inside (rw here e), t.run);
        value = rw (add-one len, take-suc few len 0 inside, here, value_more, t.value);
        low = rw (add-one len, pow-suc) (omega (arith, t.low));
      }

  pub taken_all : prefix_len in_label (drop len few) ≡ 0 → record { len = len; word = word } ≡ part_of few
  unfolding part_of
  taken_all stop =
      let long : len ≡ prefix_len in_label few = omega (arith, t.run) in
      rw (← long, t.value)

-- the first bytes of what is left, eight at most
pub few_is : (left : List ℕ) {m : ℕ} → m ≡ min (length left) 8 → take m left ≡ take 8 left
few_is left {m} e = let q : m ≡ min 8 (length left) = omega arith in rw q (take_min 8 left)

-- 01's cases of texts, and small texts for refusals 2 to 7 and their order, as rows of two tables: the lengths of the four lists, the text, and what
-- comes of it. The definitions compute them.
use Prim.Native.Nat.{ℕ}
use mathlib.Core.Path.{◌≡◌, refl}
use mathlib.Core.List.{List, [], ◌∷◌, ◌++◌}
use Rattle.graphs.specs.Lists.{tab, any, all, same}
use Rattle.lines.specs.Bytes.{between, kind_of, in_label}
use Rattle.lines.specs.Line.{onto, cut, is_label, is_state, is_transition, flag_of, accepting, plain}
use Rattle.text.specs.Text.{is_nil, declared, number_of, transition_of, stood, with_state, with_transition}
use Rattle.text.specs.Text.{state_line, transition_line, one_line, at_end, read_lines, meaning}
use Rattle.text.specs.Lists.{zeros, padded, places_of, flags_of, targets_from, targets_of, offsets_of, rooms_of}
use Rattle.text.specs.Lists.{graph, refusal, Outcome, outcome}

-- lines, without and with their line feed, and labels
abbrev state : List ℕ → List ℕ → List ℕ
state label flag = 83 ∷ 9 ∷ (label ++ (9 ∷ flag))

abbrev S : List ℕ → List ℕ → List ℕ
S label flag = state label flag ++ (10 ∷ [])

abbrev T : List ℕ → List ℕ → List ℕ
T from to = 84 ∷ 9 ∷ (from ++ (9 ∷ (to ++ (10 ∷ []))))

abbrev A : List ℕ
A = 65 ∷ []

abbrev B : List ℕ
B = 66 ∷ []

abbrev l7 : List ℕ
l7 = 55 ∷ []

abbrev l07 : List ℕ
l07 = 48 ∷ 55 ∷ []

abbrev l417 : List ℕ
l417 = 52 ∷ 49 ∷ 55 ∷ []

abbrev l0417 : List ℕ
l0417 = 48 ∷ l417

-- `abcdefghijklmnop`
abbrev sixteen : List ℕ
sixteen = 97 ∷ 98 ∷ 99 ∷ 100 ∷ 101 ∷ 102 ∷ 103 ∷ 104 ∷ 105 ∷ 106 ∷ 107 ∷ 108 ∷ 109 ∷ 110 ∷ 111 ∷ 112 ∷ []

record Row : Type 0 where
  offsets : ℕ
  targets : ℕ
  flags : ℕ
  places : ℕ
  text : List ℕ
  comes : Outcome

-- a row that is refused: all words are 0
abbrev refused : (offsets targets flags places : ℕ) → List ℕ → (number line : ℕ) → Row
refused o t f p text number line =
    record {
      offsets = o;
      targets = t;
      flags = f;
      places = p;
      text = text;
      comes = record { tells = refusal number line; offsets = zeros o; targets = zeros t; flags = zeros f; places = zeros p };
    }

abbrev Right : List Row → Type 0
Right [] = Unit {0}
Right (r ∷ rows) = (outcome r.offsets r.targets r.flags r.places r.text ≡ r.comes) × Right rows

-- 01's cases
abbrev texts : List Row
texts =
    -- the 0417 text
    record {
      offsets = 4;
      targets = 3;
      flags = 3;
      places = 5;
      text = S l0417 plain ++ (S l417 accepting ++ (T l0417 l417 ++ T l417 l417));
      comes =
          record {
            tells = graph 2 2;
            offsets = 0 ∷ 1 ∷ 2 ∷ 0 ∷ [];
            targets = 1 ∷ 1 ∷ 0 ∷ [];
            flags = 0 ∷ 1 ∷ 0 ∷ [];
            places = 2 ∷ 4 ∷ 11 ∷ 3 ∷ 0 ∷ [];
          };
    }
    -- `7` and `07` are two states
    ∷ record {
      offsets = 3;
      targets = 1;
      flags = 2;
      places = 4;
      text = S l7 accepting ++ S l07 plain;
      comes =
          record {
            tells = graph 2 0;
            offsets = 0 ∷ 0 ∷ 0 ∷ [];
            targets = 0 ∷ [];
            flags = 1 ∷ 0 ∷ [];
            places = 2 ∷ 1 ∷ 8 ∷ 2 ∷ [];
          };
    }
    -- `7` twice
    ∷ refused 3 1 2 4 (S l7 accepting ++ S l7 accepting) 3 2
    -- a label of 16 bytes
    ∷ record {
      offsets = 2;
      targets = 0;
      flags = 1;
      places = 2;
      text = S sixteen plain;
      comes = record { tells = graph 1 0; offsets = 0 ∷ 0 ∷ []; targets = []; flags = 0 ∷ []; places = 2 ∷ 16 ∷ [] };
    }
    -- a label of 17 bytes
    ∷ refused 2 0 1 2 (S (65 ∷ sixteen) plain) 2 1
    -- T named twice
    ∷ refused 3 3 3 4 (S A accepting ++ (T A A ++ T A A)) 5 3
    -- an empty text
    ∷ refused 3 3 3 4 [] 8 0
    -- a text that begins with a T line in good form
    ∷ refused 3 3 3 4 (T A A) 4 1
    -- T lines that do not stand together
    ∷ record {
      offsets = 4;
      targets = 3;
      flags = 3;
      places = 6;
      text = S A plain ++ (S B accepting ++ (T B A ++ (T A B ++ T B B)));
      comes =
          record {
            tells = graph 2 3;
            offsets = 0 ∷ 1 ∷ 3 ∷ 0 ∷ [];
            targets = 1 ∷ 0 ∷ 1 ∷ [];
            flags = 0 ∷ 1 ∷ 0 ∷ [];
            places = 2 ∷ 1 ∷ 8 ∷ 1 ∷ 0 ∷ 0 ∷ [];
          };
    }
    ∷ []

-- refusals, and which of two comes first
abbrev refusals : List Row
refusals =
    -- an S line follows a T line
    refused 4 3 3 6 (S A plain ++ (T A A ++ S B accepting)) 2 3
    -- that comes before declared, and before the room
    ∷ refused 4 3 3 6 (S A plain ++ (T A A ++ S A accepting)) 2 3
    ∷ refused 2 3 3 6 (S A plain ++ (T A A ++ S B accepting)) 2 3
    -- the last line has no line feed
    ∷ refused 4 3 3 6 (S A plain ++ state B accepting) 2 2
    -- a blank line
    ∷ refused 4 3 3 6 (S A plain ++ (10 ∷ S B accepting)) 2 2
    -- one state more than the rooms hold
    ∷ refused 2 3 3 6 (S A plain ++ S B accepting) 6 2
    -- declared comes before the room
    ∷ refused 2 3 3 6 (S A plain ++ S A accepting) 3 2
    -- one transition more than the rooms hold
    ∷ refused 4 1 3 6 (S A plain ++ (S B accepting ++ (T A A ++ T A B))) 7 4
    -- not declared comes before the room
    ∷ refused 4 1 3 6 (S A plain ++ (S B accepting ++ (T A A ++ T A l7))) 4 4
    -- the pair comes before the room
    ∷ refused 4 1 3 6 (S A plain ++ (S B accepting ++ (T A A ++ T A A))) 5 4
    -- rooms of size 0
    ∷ refused 0 0 0 0 (S A plain) 6 1
    ∷ []

pub texts_right : Right texts
unfolding tab any all same between kind_of in_label onto cut is_label is_state is_transition flag_of
    is_nil declared number_of transition_of stood with_state with_transition state_line transition_line one_line at_end read_lines meaning
    padded places_of flags_of targets_from targets_of offsets_of rooms_of outcome
texts_right = (refl, (refl, (refl, (refl, (refl, (refl, (refl, (refl, (refl, tt)))))))))

pub refusals_right : Right refusals
unfolding tab any all same between kind_of in_label onto cut is_label is_state is_transition flag_of
    is_nil declared number_of transition_of stood with_state with_transition state_line transition_line one_line at_end read_lines meaning
    padded places_of flags_of targets_from targets_of offsets_of rooms_of outcome
refusals_right = (refl, (refl, (refl, (refl, (refl, (refl, (refl, (refl, (refl, (refl, (refl, tt)))))))))))

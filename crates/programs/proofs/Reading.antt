-- What a reading gives: a graph, and labels within the text; or a refusal, whose line is short. Either way its lines are those of the page.
use Prim.Native.Nat.{ℕ, ◌+◌, ◌≤◌}
use mathlib.Core.Path.{◌≡◌, sym, ap, ◌∙◌}
use mathlib.Core.Bool.{Bool, true}
use mathlib.Core.List.{List}
use lib.ListN.{length, take, length-take}
use native.Mathlib.Omega.{arith}
use Rattle.std.specs.Prelude.{Ok, Err}
use Rattle.graphs.specs.Words.{is_graph}
use Rattle.statelist.specs.declared.Size.{Size}
use Rattle.statelist.specs.declared.ReadError.{ReadError}
use Rattle.text.specs.Lists.{Told, graph, refusal, outcome}
use Rattle.statelist.specs.Told.{told, comes}
use Rattle.statelist.proofs.Promises.{read_fits, read_graph, read_within}
use Rattle.report.specs.declared.labels.Labels.{Labels}
use Rattle.report.specs.Report.{reading_line}
use Rattle.programs.specs.Given.{Given}
use Rattle.programs.specs.Skiffplank as skiffplank
use Rattle.programs.specs.Replay as replay
use Rattle.programs.proofs.Lines.{refused_long}
use Rattle.programs.proofs.Searched.{searched_short}

-- the lists that were read are as long as the text needs
pub list_fits : (o t f p : ℕ) (text : List ℕ) (size : Size) (offsets targets flags places : List ℕ)
    → comes (Ok size) offsets targets flags places ≡ outcome o t f p text → (size.states + 1 ≤ o) × (size.transitions ≤ t) × (size.states ≤ f)
list_fits o t f p text size offsets targets flags places is = read_fits o t f p text size.states size.transitions offsets targets flags places is

pub list_graph : (o t f p : ℕ) (text : List ℕ) (size : Size) (offsets targets flags places : List ℕ)
    → comes (Ok size) offsets targets flags places ≡ outcome o t f p text
    → is_graph (take (size.states + 1) offsets) (take size.transitions targets) (take size.states flags) ≡ true
list_graph o t f p text size offsets targets flags places is = read_graph o t f p text size.states size.transitions offsets targets flags places is

pub read_given : (o t f p : ℕ) (labels : Labels) (size : Size) (offsets targets flags : List ℕ)
    → comes (Ok size) offsets targets flags labels.places.now ≡ outcome o t f p labels.text.now → Given (take size.states flags) labels
read_given o t f p labels size offsets targets flags is =
    record {
      labelled = λ s below.
          let within = read_within o t f p labels.text.now size.states size.transitions offsets targets flags labels.places.now is s (omega (arith, below, long)) in
          record { placed = within.0; within = within.1 };
      short = λ s below.
          (read_within o t f p labels.text.now size.states size.transitions offsets targets flags labels.places.now is s (omega (arith, below, long))).2;
    }
  where
    long : length (take size.states flags) ≤ size.states
    long = let part = length-take size.states flags in omega (arith, part)

pub reading_long : (t : Told) → length (reading_line t) ≤ 50
reading_long (graph n e) = omega arith
reading_long (refusal number line) = refused_long number line

-- the page of `skiffplank`
module _ (text : List ℕ) (short : length text ≤ skiffplank.most_input) where
  pub search_refused : (error : ReadError) (offsets targets flags places : List ℕ)
      → comes (Err error) offsets targets flags places ≡ skiffplank.reading text → reading_line (told (Err error)) ≡ skiffplank.searched text
  search_refused error offsets targets flags places is =
      ap (λ k. skiffplank.lines_of text (skiffplank.reading text) k.tells) is ∙ sym (searched_short text short)

  pub search_graph : (size : Size) (offsets targets flags places : List ℕ) → comes (Ok size) offsets targets flags places ≡ skiffplank.reading text
      → skiffplank.search_lines text (take (size.states + 1) offsets) (take size.transitions targets) (take size.states flags) places
      ≡ skiffplank.searched text
  search_graph size offsets targets flags places is = ap (λ k. skiffplank.lines_of text k k.tells) is ∙ sym (searched_short text short)

-- the page of `replay`
module _ (ending : Bool) (turns : List ℕ) (workers : ℕ) (text : List ℕ) where
  pub replay_refused : (error : ReadError) (offsets targets flags places : List ℕ)
      → comes (Err error) offsets targets flags places ≡ replay.reading text → reading_line (told (Err error)) ≡ replay.replayed ending turns workers text
  unfolding replay.replayed
  replay_refused error offsets targets flags places is = ap (λ k. replay.lines_of ending turns workers text (replay.reading text) k.tells) is

  pub replay_graph : (size : Size) (offsets targets flags places : List ℕ) → comes (Ok size) offsets targets flags places ≡ replay.reading text
      → replay.replay_lines ending turns workers text (take (size.states + 1) offsets) (take size.transitions targets) (take size.states flags) places
      ≡ replay.replayed ending turns workers text
  unfolding replay.replayed
  replay_graph size offsets targets flags places is = ap (λ k. replay.lines_of ending turns workers text k k.tells) is

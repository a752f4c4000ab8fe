-- What the pages of `replay` say of the graph of a text, without rooms and words: they are the lines of the run on that graph, with the turns used and
-- where each worker stands after the last move made.
use Prim.Native.Nat.{ℕ, ◌<◌}
use mathlib.Core.Path.{◌≡◌, refl, sym, ap, ◌∙◌}
use mathlib.Core.Bool.{Bool, true, false, cond}
use mathlib.Core.List.{List, [], ◌∷◌, ◌++◌, append-nil}
use mathlib.Core.Logic.{◌≢◌}
use lib.ListN.{length, drop, length-replicate}
use native.Mathlib.Omega.{arith}
use Rattle.graphs.specs.Graph.{Graph, graph, Sound}
use Rattle.graphs.specs.Words.{graph_of}
use Rattle.moves.specs.declared.Place.{Place}
use Rattle.moves.specs.declared.Place.TheVariants.{Fresh, Outer, Inner, Waiting, Done}
use Rattle.moves.specs.Tally.{zeroes}
use Rattle.moves.specs.Room.{room, room_size}
use Rattle.moves.specs.Run.{Answer, cycle, none, undecided, Result, run, rounds, up_from}
use Rattle.moves.proofs.UpFrom.{up_from_below}
use Rattle.theory.specs.Invariant.{SeedAt}
use Rattle.theory.specs.Turns.{Named, most_moves}
use Rattle.theory.proofs.Ends.{rounds_named}
use Rattle.theory.proofs.Rooms.{run_fits}
use Rattle.theory.proofs.Demands.{graph_of_words, seeds_inside}
use Rattle.moves.specs.declared.own.Own.{Own}
use Rattle.moves.specs.Own.{own_of, own_at}
use Rattle.moves.proofs.Owned.{own_seen}
use Rattle.limits.specs.Refusals.{refusal_of}
use Rattle.limits.proofs.Refused.{Fine, fine}
use Rattle.ends.specs.Told.{tells_of}
use Rattle.text.specs.Text.{Seen, reads, refused, meaning}
use Rattle.text.specs.Lists.{zeros, padded, places_of, flags_of, targets_of, offsets_of, rooms_of, filled}
use Rattle.text.specs.Lists as reader
use Rattle.text.specs.Labels.{label_at}
use Rattle.text.proofs.Good.{label_in}
use Rattle.text.proofs.Filled.{offsets_first, targets_first, flags_first, flags_long}
use Rattle.text.proofs.Labels.{label_named}
use Rattle.search.specs.Outcomes.{Lent, left, unless, outcome, outcome_to_end}
use Rattle.search.proofs.Whole.{unless_0, unless_not}
use Rattle.std.specs.Prelude.{codes}
use Rattle.page.specs.Numbers.{numbers_line}
use Rattle.report.specs.Report.{refused_line, run_lines, seed_field, label_field, worker_line, worker_lines, used_lines, end_lines}
use Rattle.programs.specs.Replay.{ran, named, replay_lines, lines_of, replayed}
use Rattle.programs.proofs.Answers.{answer_lines, told_lines, flat_map_same, run_same}

-- the labels of other states than the seed don't count in a worker's line
same_seed : (label label' : ℕ → List ℕ) (p : Place) → ((z : ℕ) → SeedAt p z → label z ≡ label' z) → seed_field label p ≡ seed_field label' p
unfolding label_field
same_seed label label' Fresh h = refl
same_seed label label' Outer h = refl
same_seed label label' (Inner z) h = ap (λ l. codes "\t" ++ l) (h z refl)
same_seed label label' (Waiting z) h = ap (λ l. codes "\t" ++ l) (h z refl)
same_seed label label' Done h = refl

same_worker : (label label' : ℕ → List ℕ) (q : ℕ) (own own' : Own) → own ≡ own' → ((z : ℕ) → SeedAt own'.place z → label z ≡ label' z)
    → worker_line label q own ≡ worker_line label' q own'
unfolding worker_line
same_worker label label' q own own' e h = rw (e, same_seed label label' own'.place h)

-- the lines of a run with P workers
abbrev pub result_lines : (ℕ → List ℕ) → ℕ → Result → List ℕ
result_lines label P r =
    answer_lines label r.answer r.tally
    ++ (numbers_line (codes "used") (r.used ∷ []) ++ worker_lines label (λ q. own_of (r.machine.worker q)) P)

-- the turns that are checked, and those that are run
abbrev pub checked : Bool → List ℕ → List ℕ
checked ending turns = cond ending [] turns

abbrev pub turns_run : Graph → ℕ → Bool → List ℕ → List ℕ
turns_run g P ending turns = cond ending (rounds P (most_moves g P)) turns

module _ (turns : List ℕ) (workers : ℕ) (offsets targets flags words lasso : List ℕ) where
  abbrev g : Graph
  g = graph_of offsets targets flags

  -- both runs are a run over a list
  ran_is : (ending : Bool)
      → ran ending turns workers offsets targets flags words lasso
      ≡ unless (refusal_of (length words) (length lasso) (checked ending turns) offsets targets flags (named ending workers))
      (left (length flags) (named ending workers) (run g (named ending workers) (turns_run g (named ending workers) ending turns)) words lasso)
      words lasso zeroes
  unfolding ran outcome outcome_to_end named
  ran_is true = refl
  ran_is false = refl

  module _ (label label' : ℕ → List ℕ) (ending : Bool) where
    abbrev P : ℕ
    P = named ending workers

    abbrev number : ℕ
    number = refusal_of (length words) (length lasso) (checked ending turns) offsets targets flags P

    abbrev end : Result
    end = run g P (turns_run g P ending turns)

    abbrev out : Lent
    out = ran ending turns workers offsets targets flags words lasso

    abbrev printed : Lent → List ℕ
    printed k = run_lines label k.lasso k.tells k.tally ++ end_lines label k.room (length flags) P k.tells

    refused_lines : number ≢ 0 → printed out ≡ refused_line number 0
    refused_lines ne =
        ap printed (ran_is ending ∙ unless_not number (left (length flags) P end words lasso) words lasso zeroes ne) ∙ append-nil (refused_line number 0)

    module _ (answered : number ≡ 0) (same : (s : ℕ) → s < length flags → label s ≡ label' s) where
      known : Fine (length words) (length lasso) (checked ending turns) offsets targets flags P
      known = fine (length words) (length lasso) (checked ending turns) offsets targets flags P answered

      sound : Sound g
      sound = graph_of_words offsets targets flags known.graph

      in_list : Named P (turns_run g P ending turns)
      in_list = go ending known.named
        where
          go : (b : Bool) → Named P (checked b turns) → Named P (turns_run g P b turns)
          go true h = rounds_named P (most_moves g P)
          go false h = h

      own_lines : (rest : List ℕ)
          → worker_lines label (own_at (room (length flags) P end.machine ++ rest) (length flags)) P
          ≡ worker_lines label' (λ q. own_of (end.machine.worker q)) P
      unfolding graph_of graph worker_lines
      own_lines rest =
          let l = room (length flags) P end.machine ++ rest in
          flat_map_same (λ q. worker_line label q (own_at l (length flags) q)) (λ q. worker_line label' q (own_of (end.machine.worker q))) (up_from 0 P)
          (λ q m.
          same_worker label label' q (own_at l (length flags) q) (own_of (end.machine.worker q))
          (own_seen (length flags) P q (up_from_below 0 P P (omega arith) q m) end.machine rest l
          (record { form = refl; fits = run_fits g P sound known.some (turns_run g P ending turns) in_list }))
          (λ z e. same z (seeds_inside g P sound known.some (turns_run g P ending turns) in_list q z e)))

      end_lines_lem : (a : Answer) (used : ℕ) (rest : List ℕ)
          → end_lines label (room (length flags) P end.machine ++ rest) (length flags) P (tells_of a used)
          ≡ numbers_line (codes "used") (used ∷ []) ++ worker_lines label' (λ q. own_of (end.machine.worker q)) P
      unfolding used_lines
      end_lines_lem (cycle stem loop) used rest = ap (λ l. numbers_line (codes "used") (used ∷ []) ++ l) (own_lines rest)
      end_lines_lem none used rest = ap (λ l. numbers_line (codes "used") (used ∷ []) ++ l) (own_lines rest)
      end_lines_lem undecided used rest = ap (λ l. numbers_line (codes "used") (used ∷ []) ++ l) (own_lines rest)

      run_lines_lem : printed out ≡ result_lines label' P end
      unfolding left
      run_lines_lem =
          ap printed (ran_is ending ∙ unless_0 number (left (length flags) P end words lasso) words lasso zeroes answered)
          ∙ rw (
            told_lines label end.answer end.used lasso end.tally,
            run_same label label' offsets targets flags known.graph P known.some (turns_run g P ending turns) in_list same end.tally,
            end_lines_lem end.answer end.used (drop (room_size (length flags) P) words),
          )

-- rooms count by their lengths
sized : (a b : ℕ) (turns offsets targets flags : List ℕ) (P : ℕ)
    → refusal_of (length (zeros a)) (length (zeros b)) turns offsets targets flags P ≡ refusal_of a b turns offsets targets flags P
sized a b turns offsets targets flags P = rw (length-replicate {A = ℕ} a 0, length-replicate {A = ℕ} b 0)

-- A text that is refused; one that is read, with a worker count or a turn list that is refused; and one that is read and run.
module _ (ending : Bool) (turns : List ℕ) (workers : ℕ) (text : List ℕ) where
  pub replayed_refused : (number line : ℕ) → meaning (rooms_of 4097 16384 4096 8192) text ≡ refused number line
      → replayed ending turns workers text ≡ refused_line number line
  unfolding replayed reader.outcome
  replayed_refused k line e =
      ap (λ m. lines_of ending turns workers text (filled 4097 16384 4096 8192 m) (filled 4097 16384 4096 8192 m).tells) e

  module _ (seen : Seen) (means : meaning (rooms_of 4097 16384 4096 8192) text ≡ reads seen) where
    abbrev n : ℕ
    n = length seen.states

    abbrev offsets : List ℕ
    offsets = offsets_of n seen.transitions

    abbrev targets : List ℕ
    targets = targets_of n seen.transitions

    abbrev flags : List ℕ
    flags = flags_of seen.states

    abbrev refusal : ℕ
    refusal = refusal_of (room_size 4096 8) 8192 (checked ending turns) offsets targets flags (named ending workers)

    replayed_lines : replayed ending turns workers text
        ≡ replay_lines ending turns workers text offsets targets flags (padded 8192 (places_of seen.states))
    unfolding replayed reader.outcome
    replayed_lines =
        ap (λ m. lines_of ending turns workers text (filled 4097 16384 4096 8192 m) (filled 4097 16384 4096 8192 m).tells) means
        ∙ rw (
          offsets_first 4097 16384 4096 8192 text seen means,
          targets_first 4097 16384 4096 8192 text seen means,
          flags_first 4097 16384 4096 8192 text seen means,
        )

    pub replayed_not_run : refusal ≢ 0 → replayed ending turns workers text ≡ refused_line refusal 0
    unfolding replay_lines
    replayed_not_run ne =
        let same = sized (room_size 4096 8) 8192 (checked ending turns) offsets targets flags (named ending workers) in
        let label = label_at text (padded 8192 (places_of seen.states)) in
        replayed_lines
        ∙ refused_lines turns workers offsets targets flags (zeros (room_size 4096 8)) (zeros 8192) label label ending (λ e. ne (sym same ∙ e))
        ∙ ap (λ k. refused_line k 0) same

    pub replayed_run : refusal ≡ 0
        → replayed ending turns workers text
        ≡ result_lines (label_in seen.states) (named ending workers)
        (run (graph_of offsets targets flags) (named ending workers)
        (turns_run (graph_of offsets targets flags) (named ending workers) ending turns))
    unfolding replay_lines
    replayed_run z =
        let same = sized (room_size 4096 8) 8192 (checked ending turns) offsets targets flags (named ending workers) in
        let label = label_at text (padded 8192 (places_of seen.states)) in
        replayed_lines
        ∙ run_lines_lem turns workers offsets targets flags (zeros (room_size 4096 8)) (zeros 8192) label (label_in seen.states) ending (same ∙ z)
        (λ s h. label_named 4097 16384 4096 8192 text seen means s (omega (arith, h, flags_long seen.states)))

-- What a run leaves: where an answer is found, and where the turns end without one, it is what 01 says of the run over all turns.
use Prim.Native.Nat.{ℕ, ◌+◌, ◌*◌, ◌<◌, ◌≤◌}
use mathlib.Core.Path.{◌≡◌, refl, sym, ap, subst, ◌∙◌}
use mathlib.Core.Bool.{true}
use mathlib.Core.List.{List, ◌++◌}
use mathlib.Core.Logic.{◌≢◌}
use lib.ListN.{length, drop, take, replicate}
use lib.Seq.{length-take-le, take_all}
use borrow.Author.Tests.{ne_eqb}
use Rattle.std.specs.Prelude.{Option, Some, Ok}
use Rattle.graphs.specs.declared.graph.Graph.{Graph as Graph·rust}
use Rattle.graphs.specs.Graph.{Graph, graph}
use Rattle.graphs.specs.Words.{graph_of, is_graph, most_states}
use Rattle.graphs.proofs.Words.{words_are}
use Rattle.graphs.proofs.Member.{mem_take}
use Rattle.moves.specs.declared.Tally.{Tally}
use Rattle.moves.specs.Machine.{Worker}
use Rattle.moves.specs.Moves.{turn}
use Rattle.moves.specs.Room.{room, room_size, stretch_at}
use Rattle.moves.specs.Run.{Result, cycle, none, run, stem_of, loop_of, all_done}
use Rattle.moves.specs.Tally.{zeroes}
use Rattle.moves.proofs.Words.{Seen}
use Rattle.theory.proofs.Demands.{graph_of_words}
use Rattle.theory.proofs.Rooms.{run_fits}
use Rattle.theory.proofs.Rules.{obeys}
use Rattle.limits.specs.declared.Plan.{Plan}
use Rattle.limits.specs.Plans.{listed}
use Rattle.limits.specs.Refusals.{most_workers, refusal_of, Passed}
use Rattle.limits.proofs.Refused.{Fine, fine}
use Rattle.steps.specs.declared.Verdict.{Verdict}
use Rattle.steps.specs.declared.Verdict.TheVariants.{Quiet, Found}
use Rattle.steps.specs.Verdict.{answer_of}
use Rattle.steps.specs.Steps.{Held, Steps}
use Rattle.steps.proofs.Answered.{verdict_deep}
use Rattle.ends.specs.declared.Outcome.{Outcome}
use Rattle.ends.specs.declared.Outcome.TheVariants.{None as None·told, Undecided}
use Rattle.ends.specs.Lasso.{Stacked, lasso_in, found_in}
use Rattle.ends.specs.Told.{told, told_refusal, tells_of, shown}
use Rattle.ends.proofs.Shown.{shown_words, found_told, stacked_fits}
use Rattle.search.specs.Outcomes.{Lent, lent, left, unless}
use Rattle.search.specs.Plans.{turns_of, outcome_by}
use Rattle.search.proofs.Along.{after, Along, Left, along_start, formed, named_next, one_turn, stepped, used_after, answer_after, form_after, tally_after, whole_after}

-- what a refused run leaves, and what comes of `unless` either way
abbrev pub refused_with : ℕ → List ℕ → List ℕ → Tally → Lent
refused_with number l lasso t = record { tells = told_refusal number 0; room = l; lasso = lasso; tally = t }

module _ (number : ℕ) (r : Lent) (l lasso : List ℕ) (t : Tally) where
  pub unless_not : number ≢ 0 → unless number r l lasso t ≡ refused_with number l lasso t
  unless_not ne = rw (ne_eqb number 0 ne)

  pub unless_0 : number ≡ 0 → unless number r l lasso t ≡ r
  unless_0 z = rw z

-- the words that were checked are those that were given
module _ {o t f offsets targets flags : List ℕ} (a : o ≡ offsets) (b : t ≡ targets) (c : f ≡ flags) where
  same_graph : is_graph offsets targets flags ≡ true → is_graph o t f ≡ true
  same_graph h = rw (a, b, c) h

  same_left : (plan : Plan) (P : ℕ) (l lasso : List ℕ)
      → left (length f) P (run (graph_of o t f) P (turns_of plan o t f P)) l lasso
      ≡ left (length flags) P (run (graph_of offsets targets flags) P (turns_of plan offsets targets flags P)) l lasso
  same_left plan P l lasso = rw (a, b, c) refl

-- a run that is not refused
module _ {words : Graph·rust} {offsets targets flags : List ℕ} {P : ℕ} (l lasso : List ℕ) (plan : Plan)
    (passed : Passed words (length l) (length lasso) (listed plan) offsets targets flags P) where
  abbrev n : ℕ
  n = length words.flags.now

  abbrev g : Graph
  g = graph_of words.offsets.now words.targets.now words.flags.now

  abbrev turns : List ℕ
  turns = turns_of plan words.offsets.now words.targets.now words.flags.now P

  -- the words beyond the needed ones
  abbrev beyond : List ℕ
  beyond = drop (room_size n P) l

  known : Fine (length l) (length lasso) (listed plan) offsets targets flags P
  known = fine (length l) (length lasso) (listed plan) offsets targets flags P passed.not_refused

  held : Held words.offsets.now words.targets.now words.flags.now P
  held = record { graph = same_graph passed.offsets_same passed.targets_same passed.flags_same known.graph; some = known.some; few = known.few }

  pub few_states : n ≤ most_states
  few_states = (words_are words.offsets.now words.targets.now words.flags.now held.graph).few

  pub few_workers : P ≤ most_workers
  few_workers = known.few

  pub room_fits : room_size n P ≤ length l
  room_fits = subst (λ f. room_size (length f) P ≤ length l) (sym passed.flags_same) known.room_fits

  lasso_fits : 2 * n ≤ length lasso
  lasso_fits = subst (λ f. 2 * length f ≤ length lasso) (sym passed.flags_same) known.lasso_fits

  pub cleared_long : length (take (room_size n P) l) ≡ room_size n P
  cleared_long = length-take-le (room_size n P) l room_fits

  pub along_cleared : Along words.offsets.now words.targets.now words.flags.now turns P beyond 0 (replicate (room_size n P) 0 ++ beyond) zeroes
  along_cleared = along_start held plan beyond known.named passed.few_turns

  -- what is left, where the run over all turns is that over the first k of them
  left_is : (t : Tally) (r : Outcome) {l' lasso' : List ℕ} {t' : Tally} (result : Result) → result ≡ run g P turns
      → told (Ok r) ≡ tells_of result.answer result.used → lasso' ≡ shown result.answer lasso → l' ≡ room n P result.machine ++ beyond
      → t' ≡ result.tally → lent (Ok r) l' lasso' t' ≡ outcome_by plan offsets targets flags P l lasso t
  unfolding left
  left_is t r {l'} {lasso'} {t'} result whole tells shows form tally =
      let mine : lent (Ok r) l' lasso' t' ≡ left n P result l lasso = rw (tells, shows, form, tally) in
      let all : left n P result l lasso ≡ left n P (run g P turns) l lasso = ap (λ k. left n P k l lasso) whole in
      let same = same_left passed.offsets_same passed.targets_same passed.flags_same plan P l lasso in
      mine ∙ all ∙ same ∙ sym (unless_0 (refusal_of (length l) (length lasso) (listed plan) offsets targets flags P) _ l lasso t passed.not_refused)

  module _ (t : Tally) {used : ℕ} {l₁ : List ℕ} {t₁ : Tally}
      (x : Along words.offsets.now words.targets.now words.flags.now turns P beyond used l₁ t₁) where
    -- the turns ended
    pub left_undecided : length turns ≤ used → lent (Ok (Undecided used)) l₁ lasso t₁ ≡ outcome_by plan offsets targets flags P l lasso t
    left_undecided h =
        let result = after words.offsets.now words.targets.now words.flags.now turns P used in
        left_is t (Undecided used) result (ap (run g P) (take_all used turns h)) (rw (x.no_answer, x.all_used) refl) (rw x.no_answer refl) x.form x.tally

    -- p's turn brought an answer
    module _ {p : ℕ} (turn_left : Left turns used p) {v : Option Verdict} {l₂ : List ℕ} {t₂ : Tally}
        (steps : Steps words.offsets.now words.targets.now words.flags.now P p l₁ t₁ v l₂ t₂) where
      abbrev result : Result
      result = after words.offsets.now words.targets.now words.flags.now turns P (used + 1)

      pub left_quiet : v ≡ Some Quiet → lent (Ok (None·told (used + 1))) l₂ lasso t₂ ≡ outcome_by plan offsets targets flags P l lasso t
      left_quiet e =
          let answer : result.answer ≡ none = answer_after x turn_left steps ∙ ap (answer_of result.machine p) e in
          left_is t (None·told (used + 1)) result (whole_after x turn_left steps (rw answer tt)) (rw (answer, used_after x turn_left steps) refl) (rw answer refl)
          (form_after x turn_left steps) (tally_after x turn_left steps)

      seen : Seen n P result.machine beyond l₂
      unfolding graph_of graph
      seen =
          record {
            form = form_after x turn_left steps;
            fits =
                run_fits g P (graph_of_words words.offsets.now words.targets.now words.flags.now held.graph) held.some (take (used + 1) turns)
                (λ q m. x.named q (mem_take q (used + 1) turns m));
          }

      module _ {s : ℕ} (e : v ≡ Some (Found s)) where
        abbrev w : Worker
        w = result.machine.worker p

        deep : 0 < length w.inner
        deep =
            let before = after words.offsets.now words.targets.now words.flags.now turns P used in
            let made = turn g p before.machine in
            let found = verdict_deep (obeys g p before.machine ((formed x).inv.local p)) (all_done P made.machine) in
            subst (λ k. 0 < length (k.machine.worker p).inner) (sym (one_turn x turn_left)) (rw (← (stepped x turn_left steps).verdict, e) at found)

        pub stacked : Stacked n (stretch_at n p) l₂ lasso
        stacked = stacked_fits n P p (named_next x turn_left) result.machine beyond l₂ seen lasso few_states lasso_fits deep

        pub left_found : (r : Outcome) {lasso' : List ℕ} → lasso' ≡ lasso_in n (stretch_at n p) l₂ lasso
            → r ≡ found_in n (stretch_at n p) s (used + 1) l₂ → lent (Ok r) l₂ lasso' t₂ ≡ outcome_by plan offsets targets flags P l lasso t
        left_found r shows tells =
            let answer : result.answer ≡ cycle (stem_of w s) (loop_of w s) = answer_after x turn_left steps ∙ ap (answer_of result.machine p) e in
            let named = named_next x turn_left in
            left_is t r result (whole_after x turn_left steps (rw answer tt))
            (ap (λ k. told (Ok k)) tells ∙ found_told n P p named result.machine beyond l₂ seen s (used + 1)
            ∙ sym (ap (λ a. tells_of a (used + 1)) answer)
            ∙ sym (ap (tells_of result.answer) (used_after x turn_left steps)))
            (shows ∙ shown_words n P p named result.machine beyond l₂ seen s lasso ∙ sym (ap (λ a. shown a lasso) answer))
            (form_after x turn_left steps) (tally_after x turn_left steps)

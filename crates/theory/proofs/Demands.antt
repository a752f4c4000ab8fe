-- What a run promises, for all turn lists, all numbers of workers from 1 on, all graphs and all orders of looking (`Sound`). The words in quotes
-- are those of the demands; a machine that turns can lead to is that of `run g P l`. At the end, the same of the words of a graph.
use Rattle.std.proofs.Common.{ℕ, ◌+◌, ◌*◌, ◌<◌, ◌≤◌, ◌≡◌, sym, ap, subst, ◌∙◌, true, List, [], ◌∷◌, ◌++◌, ◌≢◌, ⊎_elim, arith, le_of_eq, length, take}
use Rattle.graphs.specs.Lists.{Once}
use Rattle.graphs.specs.Graph.{Graph, Sound, graph}
use Rattle.graphs.specs.Lasso.{Lasso, MarkedLoop}
use Rattle.graphs.specs.Words.{graph_of, is_graph}
use Rattle.graphs.proofs.Tests.{below?}
use Rattle.graphs.proofs.Words.{words_are, words_sound, edges_are}
use Rattle.moves.specs.Moves.{turn}
use Rattle.moves.specs.Run.{cycle, none, undecided, begin, next, step, run_from, run, rounds, run_rounds}
use Rattle.theory.specs.Turns.{Named, Cut, CanMove, Counts, most_moves, run_to_end, word_of, word_cycle, Decided, Stands, AllShallow, SeedsInside}
use Rattle.theory.proofs.Run.{decided, run_join, step_goes, run_stays, all_used, used_turns, words_agree, word_finds}
use Rattle.theory.proofs.Run.{run_stands, begin_stands, run_shallow, run_seeds}
use Rattle.theory.proofs.Ends.{can_move, change_differs, step_counts, run_paid, cut_ends, rounds_named, rounds_cut, rounds_longer}
use Rattle.theory.proofs.Total.{start_total}

module _ (g : Graph) (P : ℕ) where
  -- 2. "Each turn does the one move that the rules give that worker": one turn more is one step of the rules; without an answer yet it is the
  -- worker's move, and after an answer it is not run.
  pub each_turn : (l : List ℕ) (p : ℕ) → run g P (l ++ (p ∷ [])) ≡ step g P (run g P l) p
  unfolding run_from
  each_turn l p = run_join g P begin l (p ∷ [])

  pub each_turn_moves : (l : List ℕ) (p : ℕ) → (run g P l).answer ≡ undecided
      → run g P (l ++ (p ∷ [])) ≡ next P p (run g P l) (turn g p (run g P l).machine)
  each_turn_moves l p e = each_turn l p ∙ step_goes g P (run g P l) p e

  pub answer_stays : (l k : List ℕ) → Decided (run g P l).answer → run g P (l ++ k) ≡ run g P l
  answer_stays l k d = run_join g P begin l k ∙ run_stays g P (run g P l) k d

  -- 01: "the result tells how many were used": so many first turns of the list give the result
  pub used_suffice : (l : List ℕ) → run g P (take (run g P l).used l) ≡ run g P l
  used_suffice l =
      let (k, le, used, same) = used_turns g P begin l in
      let all : k ≡ (run g P l).used = omega (arith, used) in
      subst (λ i. run g P (take i l) ≡ run g P l) all same

  -- ""undecided" only if the list ran out first"
  pub undecided_ran_out : (l : List ℕ) → (run g P l).answer ≡ undecided → (run g P l).used ≡ length l
  undecided_ran_out l e = omega (arith, all_used g P begin l e)

  module _ (sound : Sound g) (some : 0 < P) where
    stands : (l : List ℕ) → Named P l → Stands g P (run g P l)
    stands l n = run_stands g P sound some begin l n (begin_stands g P sound some)

    -- ""cycle" comes with a real path from the initial state and a real loop holding a marked state", and no state stands twice in them
    pub cycle_is_lasso : (l : List ℕ) → Named P l → (stem loop : List ℕ) → (run g P l).answer ≡ cycle stem loop → Lasso g stem loop
    cycle_is_lasso l n stem loop e = (rw e at (stands l n)).0

    pub lasso_once : (l : List ℕ) → Named P l → (stem loop : List ℕ) → (run g P l).answer ≡ cycle stem loop → Once (stem ++ loop)
    lasso_once l n stem loop e = (rw e at (stands l n)).1

    -- ""none" is said only if no such loop can be reached"
    pub none_is_none : (l : List ℕ) → Named P l → (run g P l).answer ≡ none → MarkedLoop g → ⊥
    none_is_none l n e = rw e at (stands l n)

    -- 3. "at every point that turns can lead to without an answer, some worker can make a move that changes its state"
    pub some_worker_moves : (l : List ℕ) → Named P l → (run g P l).answer ≡ undecided
        → (p : ℕ) × (p < P) × CanMove g (run g P l).machine p × ((turn g p (run g P l).machine).machine ≢ (run g P l).machine)
    some_worker_moves l n e =
        let k = can_move g sound P some (run g P l) (stands l n) e in
        (k.0, k.1, k.2, change_differs g sound P some (run g P l) (stands l n) e k.0 k.1 k.2)

    -- Such moves are what the tally's last count counts: it rises by one at a turn that changes the machine, and at no other.
    pub tally_counts_moves : (l : List ℕ) → Named P l → (run g P l).answer ≡ undecided → (p : ℕ) → p < P
        → Counts (run g P l) (run g P (l ++ (p ∷ [])))
    tally_counts_moves l n e p h = rw (each_turn l p) (step_counts g sound P some (run g P l) (stands l n) e p h)

    -- "no turn list holds more than P × (1 + 4N + 3E) such moves"
    pub moves_bounded : (l : List ℕ) → Named P l → (run g P l).tally.moves ≤ most_moves g P
    moves_bounded l n = omega (arith, run_paid g sound P some begin l n (begin_stands g P sound some), start_total g P)

    -- "So a list that can be cut into that many stretches, each naming every worker, ends in "cycle" or "none""
    pub cut_decides : (l : List ℕ) → Named P l → Cut P (most_moves g P) l → Decided (run g P l).answer
    cut_decides l n c =
        decided (run g P l).answer
        (cut_ends g sound P some (most_moves g P) begin l c n (begin_stands g P sound some) (le_of_eq (start_total g P)))

    -- "and in the same word as every other such list", which is "cycle" if such a loop can be reached
    pub cut_same_word : (l k : List ℕ) → Named P l → Named P k → Cut P (most_moves g P) l → Cut P (most_moves g P) k
        → word_of (run g P l).answer ≡ word_of (run g P k).answer
    cut_same_word l k n o c d =
        words_agree g P (run g P l).machine (run g P k).machine (run g P l).answer (run g P k).answer (stands l n) (stands k o)
        (cut_decides l n c) (cut_decides k o d)

    pub cut_finds : (l : List ℕ) → Named P l → Cut P (most_moves g P) l → MarkedLoop g → word_of (run g P l).answer ≡ word_cycle
    cut_finds l n c = word_finds g P (run g P l).machine (run g P l).answer (stands l n) (cut_decides l n c)

    -- The run to the end is decided within that many rounds of 0, 1, .., P − 1; and every number of rounds that is decided gives its result.
    pub end_decides : Decided (run_to_end g P).answer
    end_decides = cut_decides (rounds P (most_moves g P)) (rounds_named P (most_moves g P)) (rounds_cut P (most_moves g P))

    pub end_is_any : (k : ℕ) → Decided (run_rounds g P k).answer → run_rounds g P k ≡ run_to_end g P
    end_is_any k d =
        ⊎_elim (λ h. sym (rounds_longer g P k (most_moves g P) (omega arith) d)) (λ h. rounds_longer g P (most_moves g P) k h end_decides)
        (below? k (most_moves g P))

    -- Both stacks are at most N deep and hold only states, wherever turns lead, with an answer or without.
    pub stacks_shallow : (l : List ℕ) → Named P l → AllShallow g (run g P l).machine
    stacks_shallow = run_shallow g P sound some

    -- And so is every seed a state.
    pub seeds_inside : (l : List ℕ) → Named P l → SeedsInside g (run g P l).machine
    seeds_inside = run_seeds g P sound some

-- The same of words that are a graph: N is the number of flags, E the number of targets.
module _ (offsets targets flags : List ℕ) (is : is_graph offsets targets flags ≡ true) where
  pub graph_of_words : Sound (graph_of offsets targets flags)
  graph_of_words = words_sound offsets targets flags (words_are offsets targets flags is)

  pub words_most : (P : ℕ) → most_moves (graph_of offsets targets flags) P ≡ P * (1 + 4 * length flags + 3 * length targets)
  unfolding most_moves graph_of graph
  words_most P = ap (λ e. P * (1 + 4 * length flags + 3 * e)) (edges_are offsets targets flags (words_are offsets targets flags is))

  pub words_moves_bounded : (P : ℕ) → 0 < P → (l : List ℕ) → Named P l
      → (run (graph_of offsets targets flags) P l).tally.moves ≤ P * (1 + 4 * length flags + 3 * length targets)
  words_moves_bounded P some l n = omega (arith, moves_bounded (graph_of offsets targets flags) P graph_of_words some l n, words_most P)

  pub words_cut_decides : (P : ℕ) → 0 < P → (l : List ℕ) → Named P l → Cut P (P * (1 + 4 * length flags + 3 * length targets)) l
      → Decided (run (graph_of offsets targets flags) P l).answer
  words_cut_decides P some l n c = cut_decides (graph_of offsets targets flags) P graph_of_words some l n (rw (words_most P) c)

-- What the three demands say of the two functions, for all arguments. A call is given by its outcome r, the words and the tally at exit, and the
-- contract's equation; the words in quotes are those of the demands.
use Prim.Native.Nat.{ℕ, ◌+◌, ◌*◌, ◌≤◌, ◌<◌}
use mathlib.Core.Path.{◌≡◌, refl, sym, ap, subst, ◌∙◌}
use mathlib.Core.Bool.{true}
use mathlib.Core.List.{List, [], ◌∷◌, ◌++◌, append_assoc}
use mathlib.Core.Logic.{◌⊎◌, inl, inr, ◌≢◌}
use lib.ListN.{length, drop, take, length-append}
use lib.Seq.{take_at, drop_at}
use native.Mathlib.Omega.{arith}
use Rattle.std.specs.Prelude.{Result as Result·std}
use Rattle.graphs.specs.Lists.{Mem}
use Rattle.graphs.specs.Graph.{Graph, graph, Sound}
use Rattle.graphs.specs.Lasso.{Lasso, MarkedLoop}
use Rattle.graphs.specs.Words.{graph_of, is_graph}
use Rattle.graphs.proofs.Tests.{same?}
use Rattle.graphs.proofs.Once.{once_bound}
use Rattle.graphs.proofs.Lasso.{lasso_inside}
use Rattle.moves.specs.declared.Tally.{Tally}
use Rattle.moves.specs.Moves.{turn}
use Rattle.moves.specs.Room.{room, room_size, stretch_at, AllFit}
use Rattle.moves.proofs.Room.{room_long as machine_long}
use Rattle.moves.specs.Run.{Answer, cycle, none, undecided, Result, next, run, rounds}
use Rattle.theory.specs.Invariant.{SeedAt}
use Rattle.theory.specs.Turns.{Named, Cut, CanMove, Decided, Word, word_cycle, word_none, word_undecided, word_of, most_moves}
use Rattle.theory.proofs.Ends.{rounds_named, rounds_cut}
use Rattle.theory.proofs.Demands.{graph_of_words, each_turn_moves, cycle_is_lasso, lasso_once, none_is_none, undecided_ran_out}
use Rattle.theory.proofs.Demands.{some_worker_moves, seeds_inside}
use Rattle.theory.proofs.Demands.{words_moves_bounded, words_cut_decides, cut_same_word, words_most}
use Rattle.theory.proofs.Rooms.{run_fits}
use Rattle.moves.specs.Own.{own_of, own_in}
use Rattle.moves.proofs.Owned.{own_seen}
use Rattle.limits.specs.Refusals.{most_workers, refusal_of, usual}
use Rattle.limits.proofs.Refused.{fine}
use Rattle.limits.specs.declared.RunError.{RunError}
use Rattle.ends.specs.declared.Outcome.{Outcome}
use Rattle.ends.specs.Told.{Told, told_cycle, told_none, told_undecided, told_refusal, told, tells_of, shown}
use Rattle.search.specs.Outcomes.{lent, left, unless, outcome, outcome_to_end}
use Rattle.search.proofs.Whole.{refused_with, unless_0, unless_not}

-- a told answer is not a refusal
abbrev pub refuses : Told → ℕ
refuses (told_cycle stem loop used) = 0
refuses (told_none used) = 0
refuses (told_undecided used) = 0
refuses (told_refusal number line) = 1

-- a number for each word
abbrev word_number : Told → ℕ
word_number (told_cycle stem loop used) = 0
word_number (told_none used) = 1
word_number (told_undecided used) = 2
word_number (told_refusal number line) = 3

-- A call that was refused with the number, if it is not 0, and else ran over the turns. `run_is_call` and `end_is_call` say that the two functions' calls
-- are such: the run to the end is the run over its rounds.
pub record Call (offsets targets flags turns : List ℕ) (P number : ℕ) (l lasso : List ℕ) (t : Tally)
    (r : Result·std Outcome RunError) (l' lasso' : List ℕ) (t' : Tally) : Type 0 where
  pub graph : number ≡ 0 → is_graph offsets targets flags ≡ true
  pub some : number ≡ 0 → 0 < P
  pub few : number ≡ 0 → P ≤ most_workers
  pub named : number ≡ 0 → Named P turns
  pub leaves : lent r l' lasso' t' ≡ unless number (left (length flags) P (run (graph_of offsets targets flags) P turns) l lasso) l lasso t

pub run_is_call : (turns offsets targets flags : List ℕ) (P : ℕ) (l lasso : List ℕ) (t : Tally) (r : Result·std Outcome RunError) (l' lasso' : List ℕ) (t' : Tally)
    → lent r l' lasso' t' ≡ outcome turns offsets targets flags P l lasso t
    → Call offsets targets flags turns P (refusal_of (length l) (length lasso) turns offsets targets flags P) l lasso t r l' lasso' t'
unfolding outcome
run_is_call turns offsets targets flags P l lasso t r l' lasso' t' is =
    let known = fine (length l) (length lasso) turns offsets targets flags P in
    record { graph = λ z. (known z).graph; some = λ z. (known z).some; few = λ z. (known z).few; named = λ z. (known z).named; leaves = is }

abbrev end_turns : (offsets targets flags : List ℕ) → ℕ → List ℕ
end_turns offsets targets flags P = rounds P (most_moves (graph_of offsets targets flags) P)

pub end_is_call : (offsets targets flags : List ℕ) (workers : ℕ) (l lasso : List ℕ) (t : Tally) (r : Result·std Outcome RunError) (l' lasso' : List ℕ) (t' : Tally)
    → lent r l' lasso' t' ≡ outcome_to_end offsets targets flags workers l lasso t
    → Call offsets targets flags (end_turns offsets targets flags (usual workers)) (usual workers)
    (refusal_of (length l) (length lasso) [] offsets targets flags (usual workers)) l lasso t r l' lasso' t'
unfolding outcome_to_end
end_is_call offsets targets flags workers l lasso t r l' lasso' t' is =
    let known = fine (length l) (length lasso) [] offsets targets flags (usual workers) in
    record {
      graph = λ z. (known z).graph;
      some = λ z. (known z).some;
      few = λ z. (known z).few;
      named = λ z. rounds_named (usual workers) (most_moves (graph_of offsets targets flags) (usual workers));
      leaves = is;
    }

module _ {offsets targets flags turns : List ℕ} {P number : ℕ} {l lasso : List ℕ} {t : Tally} {r : Result·std Outcome RunError} {l' lasso' : List ℕ} {t' : Tally}
    (call : Call offsets targets flags turns P number l lasso t r l' lasso' t') where
  abbrev g : Graph
  g = graph_of offsets targets flags

  abbrev end : Result
  end = run g P turns

  -- 1. "gets an answer or a numbered refusal, given exactly when the rules say, in their order": the number is `refusal_of`, the rules in their order;
  -- refused, nothing changes
  pub refused_so : number ≢ 0 → lent r l' lasso' t' ≡ refused_with number l lasso t
  refused_so ne = call.leaves ∙ unless_not number (left (length flags) P end l lasso) l lasso t ne

  pub answered_so : number ≡ 0 → lent r l' lasso' t' ≡ left (length flags) P end l lasso
  answered_so z = call.leaves ∙ unless_0 number (left (length flags) P end l lasso) l lasso t z

  -- an answer was told, so that nothing was refused
  module _ (answers : refuses (told r) ≡ 0) where
    pub not_refused : number ≡ 0
    not_refused = go (same? number 0)
      where
        go : (number ≡ 0) ⊎ (number ≢ 0) → number ≡ 0
        go (inl z) = z
        go (inr ne) =
            let one : refuses (told r) ≡ 1 = ap (λ k. refuses k.tells) (refused_so ne) in
            absurd (omega (arith, answers, one))

    is_graph_lem : is_graph offsets targets flags ≡ true
    is_graph_lem = call.graph not_refused

    some : 0 < P
    some = call.some not_refused

    pub workers_few : P ≤ most_workers
    workers_few = call.few not_refused

    named : Named P turns
    named = call.named not_refused

    sound : Sound g
    sound = graph_of_words offsets targets flags is_graph_lem

    tells_is : told r ≡ tells_of end.answer end.used
    unfolding left
    tells_is = ap (λ k. k.tells) (answered_so not_refused)

    -- what is told is the run's answer
    tells_as : (a : Answer) {says : Told} → end.answer ≡ a → told r ≡ says → tells_of a end.used ≡ says
    tells_as a q e = sym (tells_is ∙ ap (λ a. tells_of a end.used) q) ∙ e

    lasso_is : lasso' ≡ shown end.answer lasso
    unfolding left
    lasso_is = ap (λ k. k.lasso) (answered_so not_refused)

    -- 2. "Each turn does the one move that the rules give that worker": the room is the form of the machine that the turns lead to, and with one
    -- more turn, where there is no answer yet, of the machine after exactly that worker's move
    pub room_is : l' ≡ room (length flags) P end.machine ++ drop (room_size (length flags) P) l
    unfolding left
    room_is = ap (λ k. k.room) (answered_so not_refused)

    fits : AllFit (length flags) P end.machine
    unfolding graph_of graph
    fits = run_fits g P sound some turns named

    pub room_long : room_size (length flags) P ≤ length l'
    room_long = rw (room_is, length-append, machine_long (length flags) P end.machine fits) (omega arith)

    -- what four words of the room tell of worker q is its place and depths after the last move made
    pub worker_is : (q : ℕ) → q < P → own_in l' (stretch_at (length flags) q + 5 * length flags) ≡ own_of (end.machine.worker q)
    worker_is q h =
        own_seen (length flags) P q h end.machine (drop (room_size (length flags) P) l) l' (record { form = room_is; fits = fits })

    -- and its seed is a state
    pub seed_states : (q z : ℕ) → SeedAt (end.machine.worker q).place z → z < length flags
    unfolding graph_of graph
    seed_states = seeds_inside g P sound some turns named

    pub tally_is : t' ≡ end.tally
    unfolding left
    tally_is = ap (λ k. k.tally) (answered_so not_refused)

    pub one_turn_more : (p : ℕ) → end.answer ≡ undecided → run g P (turns ++ (p ∷ [])) ≡ next P p end (turn g p end.machine)
    one_turn_more p e = each_turn_moves g P turns p e

    -- 3. "no turn list holds more than P × (1 + 4N + 3E) such moves"
    pub moves_few : t'.moves ≤ P * (1 + 4 * length flags + 3 * length targets)
    moves_few = rw tally_is (words_moves_bounded offsets targets flags is_graph_lem P some turns named)

    -- "a list that can be cut into that many stretches, each naming every worker, ends in "cycle" or "none""
    pub cut_answers : Cut P (P * (1 + 4 * length flags + 3 * length targets)) turns → (used : ℕ) → told r ≢ told_undecided used
    cut_answers cut used e =
        go end.answer (words_cut_decides offsets targets flags is_graph_lem P some turns named cut) (sym tells_is ∙ e)
      where
        go : (a : Answer) → Decided a → tells_of a end.used ≡ told_undecided used → ⊥
        go (cycle stem loop) d q = let z = ap word_number q in omega (arith, z)
        go none d q = let z = ap word_number q in omega (arith, z)
        go undecided d q = d

    -- a told "cycle" is the run's, with the lengths of its stem and loop
    cycle_found : (stem loop used : ℕ) → told r ≡ told_cycle stem loop used
        → (xs : List ℕ) × (ys : List ℕ) × (end.answer ≡ cycle xs ys) × (length xs ≡ stem) × (length ys ≡ loop)
    cycle_found stem loop used e = go end.answer refl
      where
        go : (a : Answer) → end.answer ≡ a → (xs : List ℕ) × (ys : List ℕ) × (end.answer ≡ cycle xs ys) × (length xs ≡ stem) × (length ys ≡ loop)
        go (cycle xs ys) q =
            let same : told_cycle (length xs) (length ys) end.used ≡ told_cycle stem loop used = tells_as (cycle xs ys) q e in
            let stem_long : length xs ≡ stem = cc in
            let loop_long : length ys ≡ loop = cc in
            (xs, ys, q, stem_long, loop_long)
        go none q = let z = ap word_number (tells_as none q e) in absurd (omega (arith, z))
        go undecided q = let z = ap word_number (tells_as undecided q e) in absurd (omega (arith, z))

    -- 2. ""cycle" comes with a real path from the initial state and a real loop holding a marked state": stem and then loop, in the lasso room
    pub cycle_shown : (stem loop used : ℕ) → told r ≡ told_cycle stem loop used
        → (stem + loop ≤ length lasso') × Lasso g (take stem lasso') (take loop (drop stem lasso'))
    cycle_shown stem loop used e =
        let (xs, ys, q, stem_long, loop_long) = cycle_found stem loop used e in
        let words : lasso' ≡ xs ++ (ys ++ drop (length (xs ++ ys)) lasso) = lasso_is ∙ ap (λ a. shown a lasso) q ∙ append_assoc xs ys _ in
        rw (
          words,
          take_at xs (ys ++ drop (length (xs ++ ys)) lasso) stem stem_long,
          drop_at xs (ys ++ drop (length (xs ++ ys)) lasso) stem stem_long,
          take_at ys (drop (length (xs ++ ys)) lasso) loop loop_long,
          length-append xs,
          length-append ys,
        )
        (omega (arith, stem_long, loop_long), cycle_is_lasso g P sound some turns named xs ys q)

    -- no state stands twice in them
    pub cycle_few : (stem loop used : ℕ) → told r ≡ told_cycle stem loop used → stem + loop ≤ length flags
    unfolding graph_of graph
    cycle_few stem loop used e =
        let (xs, ys, q, stem_long, loop_long) = cycle_found stem loop used e in
        let lasso = cycle_is_lasso g P sound some turns named xs ys q in
        let few = once_bound (length flags) (xs ++ ys) (lasso_once g P sound some turns named xs ys q) (lasso_inside g sound xs ys lasso) in
        omega (arith, few, length-append xs ys, stem_long, loop_long)

    -- and all of it are states
    pub cycle_states : (stem loop used : ℕ) → told r ≡ told_cycle stem loop used
        → (s : ℕ) → Mem s (take stem lasso' ++ take loop (drop stem lasso')) → s < length flags
    unfolding graph_of graph
    cycle_states stem loop used e = lasso_inside g sound (take stem lasso') (take loop (drop stem lasso')) (cycle_shown stem loop used e).1

    -- ""none" is said only if no such loop can be reached"
    pub none_none : (used : ℕ) → told r ≡ told_none used → MarkedLoop g → ⊥
    none_none used e = go end.answer refl
      where
        go : (a : Answer) → end.answer ≡ a → MarkedLoop g → ⊥
        go none q = none_is_none g P sound some turns named q
        go (cycle xs ys) q = let z = ap word_number (tells_as (cycle xs ys) q e) in absurd (omega (arith, z))
        go undecided q = let z = ap word_number (tells_as undecided q e) in absurd (omega (arith, z))

    undecided_answer : (used : ℕ) → told r ≡ told_undecided used → end.answer ≡ undecided
    undecided_answer used e = go end.answer refl
      where
        go : (a : Answer) → end.answer ≡ a → a ≡ undecided
        go undecided q = refl
        go (cycle xs ys) q = let z = ap word_number (tells_as (cycle xs ys) q e) in absurd (omega (arith, z))
        go none q = let z = ap word_number (tells_as none q e) in absurd (omega (arith, z))

    -- ""undecided" only if the list ran out first"
    pub undecided_used_all : (used : ℕ) → told r ≡ told_undecided used → used ≡ length turns
    undecided_used_all used e =
        let open_end = undecided_answer used e in
        let same : told_undecided end.used ≡ told_undecided used = tells_as undecided open_end e in
        let k : end.used ≡ used = cc in
        sym k ∙ undecided_ran_out g P turns open_end

    -- 3. "at every point that turns can lead to without an answer, some worker can make a move that changes its state"
    pub some_worker_can : (used : ℕ) → told r ≡ told_undecided used → (p : ℕ) × (p < P) × CanMove g end.machine p
    some_worker_can used e =
        let (p, below, can, differs) = some_worker_moves g P sound some turns named (undecided_answer used e) in
        (p, below, can)

-- 3. ".. and in the same word as every other such list": two calls on the same words with as many workers
pub same_word : {offsets targets flags turns turns₂ : List ℕ} {P number number₂ : ℕ} {l lasso l₂ lasso₂ : List ℕ} {t t₂ : Tally} {r r₂ : Result·std Outcome RunError}
    {l' lasso' l₂' lasso₂' : List ℕ} {t' t₂' : Tally} (a : Call offsets targets flags turns P number l lasso t r l' lasso' t')
    (b : Call offsets targets flags turns₂ P number₂ l₂ lasso₂ t₂ r₂ l₂' lasso₂' t₂') → refuses (told r) ≡ 0 → refuses (told r₂) ≡ 0
    → Cut P (P * (1 + 4 * length flags + 3 * length targets)) turns → Cut P (P * (1 + 4 * length flags + 3 * length targets)) turns₂
    → word_number (told r) ≡ word_number (told r₂)
same_word {offsets} {targets} {flags} {turns} {turns₂} {P} {r} {r₂} a b x y c d =
    let most = words_most offsets targets flags (is_graph_lem a x) P in
    let g = graph_of offsets targets flags in
    let words = cut_same_word g P (sound a x) (some a x) turns turns₂ (named a x) (named b y) (rw most c) (rw most d) in
    ap word_number (tells_is a x) ∙ word_number_lem (run g P turns).answer (run g P turns₂).answer _ _ words ∙ sym (ap word_number (tells_is b y))
  where
    word_number_lem : (a b : Answer) (i j : ℕ) → word_of a ≡ word_of b → word_number (tells_of a i) ≡ word_number (tells_of b j)
    word_number_lem a b i j e = number_of a i ∙ ap number e ∙ sym (number_of b j)
      where
        number : Word → ℕ
        number word_cycle = 0
        number word_none = 1
        number word_undecided = 2

        number_of : (a : Answer) (i : ℕ) → word_number (tells_of a i) ≡ number (word_of a)
        number_of (cycle xs ys) i = refl
        number_of none i = refl
        number_of undecided i = refl

-- the rounds of the run to the end are such a list
pub end_cut : (offsets targets flags : List ℕ) (P : ℕ) → is_graph offsets targets flags ≡ true
    → Cut P (P * (1 + 4 * length flags + 3 * length targets)) (end_turns offsets targets flags P)
end_cut offsets targets flags P is =
    let most = most_moves (graph_of offsets targets flags) P in
    subst (λ k. Cut P k (end_turns offsets targets flags P)) (words_most offsets targets flags is P) (rounds_cut P most)

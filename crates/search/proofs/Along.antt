-- Where a run stands in the list of its turns, from the start through each turn to the end. `Along` says it before each turn: the turns used brought
-- no answer yet, and room and tally are those of the run over them.
use Prim.Native.Nat.{ℕ, ◌+◌, ◌*◌, ◌<◌, ◌≤◌, ◌^◌, ◌%◌}
use mathlib.Core.Path.{◌≡◌, refl, sym, ap, ◌∙◌}
use mathlib.Core.Bool.{true, false}
use mathlib.Core.List.{List, ◌++◌}
use mathlib.Core.Logic.{◌⊎◌, inl, inr}
use lib.ListN.{length, get_or, take, drop, replicate, take-append-drop}
use lib.Seq.{take-suc, take_all, drop-cons}
use native.Mathlib.Nat.{mul-le-mul_right}
use native.Mathlib.Omega.{arith}
use native.Mathlib.Numerals.{add-one}
use Rattle.std.specs.Prelude.{Option, None, Some, is_some}
use Rattle.std.proofs.lemmas.Option.{slice_get_within, get_or_from_slice_get, slice_get-get_or}
use Rattle.graphs.specs.Graph.{Graph, Sound}
use Rattle.graphs.specs.Words.{graph_of}
use Rattle.graphs.proofs.Words.{words_are}
use Rattle.graphs.proofs.Tests.{below?, clash}
use Rattle.graphs.proofs.Member.{mem_take, drop_mem}
use Rattle.moves.specs.declared.Tally.{Tally}
use Rattle.moves.specs.Moves.{turn}
use Rattle.moves.specs.Tally.{zeroes, Low}
use Rattle.moves.specs.Room.{room, room_size}
use Rattle.moves.specs.Run.{undecided, Result, begin, next, run_from, run}
use Rattle.theory.specs.Turns.{Named, Decided, Stands, most_moves}
use Rattle.theory.proofs.Run.{run_stands, begin_stands}
use Rattle.theory.proofs.Demands.{each_turn_moves, answer_stays, graph_of_words, words_most, end_decides}
use Rattle.theory.proofs.Ends.{rounds_named}
use Rattle.turn.specs.Turn.{Formed}
use Rattle.limits.specs.declared.Plan.{Plan}
use Rattle.limits.specs.declared.Plan.TheVariants.{Turns, Rounds}
use Rattle.limits.specs.Plans.{listed, next_in}
use Rattle.steps.specs.declared.Verdict.{Verdict}
use Rattle.steps.specs.Verdict.{answer_of}
use Rattle.steps.specs.Steps.{Held, Due, Stepped, Steps}
use Rattle.steps.proofs.Answered.{verdict_stands}
use Rattle.ends.proofs.Fresh.{fresh_room}
use Rattle.search.specs.Plans.{turns_of}
use Rattle.search.proofs.Rounds.{rounds_long, rounds_at}
use Rattle.search.proofs.Tallied.{tally_low}

-- the result after the first turns of the list
abbrev pub after : (offsets targets flags turns : List ℕ) (P used : ℕ) → Result
after offsets targets flags turns P used = run (graph_of offsets targets flags) P (take used turns)

pub record Along (offsets targets flags turns : List ℕ) (P : ℕ) (rest : List ℕ) (used : ℕ) (l : List ℕ) (t : Tally) : Type 0 where
  pub held : Held offsets targets flags P
  pub named : Named P turns
  pub few : length turns < 2 ^ 64
  pub inside : used ≤ length turns
  pub all_used : (after offsets targets flags turns P used).used ≡ used
  pub no_answer : (after offsets targets flags turns P used).answer ≡ undecided
  pub form : l ≡ room (length flags) P (after offsets targets flags turns P used).machine ++ rest
  pub tally : t ≡ (after offsets targets flags turns P used).tally

-- a turn of the list is left, and it is worker p's
pub record Left (turns : List ℕ) (used p : ℕ) : Type 0 where
  pub within : used < length turns
  pub is : p ≡ get_or turns used 0

module _ {offsets targets flags : List ℕ} {P : ℕ} (held : Held offsets targets flags P) where
  rounds_few : length (turns_of Rounds offsets targets flags P) < 2 ^ 64
  rounds_few =
      let is = words_are offsets targets flags held.graph in
      let most = words_most offsets targets flags held.graph P in
      let long = rounds_long P (most_moves (graph_of offsets targets flags) P) in
      let once = mul-le-mul_right (most_moves (graph_of offsets targets flags) P) held.few in
      let twice = mul-le-mul_right (1 + 4 * length flags + 3 * length targets) held.few in
      omega (arith, long, most, once, twice, is.few, is.short)

  plan_few : (plan : Plan) → length (listed plan) < 2 ^ 64 → length (turns_of plan offsets targets flags P) < 2 ^ 64
  plan_few (Turns turns) h = h
  plan_few Rounds h = rounds_few

  plan_named : (plan : Plan) → Named P (listed plan) → Named P (turns_of plan offsets targets flags P)
  plan_named (Turns turns) h = h
  plan_named Rounds h = rounds_named P (most_moves (graph_of offsets targets flags) P)

  -- before the first turn
  pub along_start : (plan : Plan) (rest : List ℕ) → Named P (listed plan) → length (listed plan) < 2 ^ 64
      → Along offsets targets flags (turns_of plan offsets targets flags P) P rest 0 (replicate (room_size (length flags) P) 0 ++ rest) zeroes
  unfolding run_from
  along_start plan rest named few =
      record {
        held = held;
        named = plan_named plan named;
        few = plan_few plan few;
        inside = omega arith;
        all_used = refl;
        no_answer = refl;
        form = rw (fresh_room (length flags) P);
        tally = refl;
      }

module _ {offsets targets flags turns : List ℕ} {P : ℕ} {rest : List ℕ} {used : ℕ} {l : List ℕ} {t : Tally}
    (x : Along offsets targets flags turns P rest used l t) where
  abbrev g : Graph
  g = graph_of offsets targets flags

  abbrev r : Result
  r = after offsets targets flags turns P used

  sound : Sound g
  sound = graph_of_words offsets targets flags x.held.graph

  stands : Stands g P r
  stands = run_stands g P sound x.held.some begin (take used turns) (λ p m. x.named p (mem_take p used turns m)) (begin_stands g P sound x.held.some)

  pub formed : Formed offsets targets flags P r.machine rest l
  formed = record { form = x.form; inv = (rw x.no_answer at stands).0 }

  module _ {p : ℕ} (left : Left turns used p) where
    pub named_next : p < P
    named_next = rw left.is (x.named (get_or turns used 0) (drop_mem used turns _ _ (drop-cons turns used 0 left.within)))

    low : Low t
    low =
        let counts = tally_low g P (take used turns) in
        rw x.tally
        (record {
          outer_low = omega (arith, counts.outer_low, x.all_used, left.within, x.few);
          inner_low = omega (arith, counts.inner_low, x.all_used, left.within, x.few);
          waits_low = omega (arith, counts.waits_low, x.all_used, left.within, x.few);
          moves_low = omega (arith, counts.moves_low, x.all_used, left.within, x.few);
        })

    pub due : Due offsets targets flags P p l t
    due = record { held = x.held; named = named_next; machine = r.machine; rest = rest; formed = formed; low = low }

    abbrev r' : Result
    r' = after offsets targets flags turns P (used + 1)

    pub one_turn : r' ≡ next P p r (turn g p r.machine)
    one_turn = rw (add-one, take-suc turns used 0 left.within, ← left.is) (each_turn_moves g P (take used turns) p x.no_answer)

    -- the turn was made
    module _ {v : Option Verdict} {l' : List ℕ} {t' : Tally} (steps : Steps offsets targets flags P p l t v l' t') where
      pub stepped : Stepped offsets targets flags P p r.machine rest t v l' t'
      stepped = steps r.machine rest formed

      pub used_after : r'.used ≡ used + 1
      used_after = rw one_turn (omega (arith, x.all_used))

      pub answer_after : r'.answer ≡ answer_of r'.machine p v
      answer_after =
          let made = turn g p r.machine in
          rw one_turn (sym (ap (answer_of made.machine p) stepped.verdict ∙ verdict_stands P p made.machine made.move))

      pub form_after : l' ≡ room (length flags) P r'.machine ++ rest
      form_after = rw one_turn stepped.form

      pub tally_after : t' ≡ r'.tally
      tally_after = rw one_turn (rw x.tally at stepped.tally)

      pub along_more : v ≡ None → Along offsets targets flags turns P rest (used + 1) l' t'
      along_more e =
          record {
            held = x.held;
            named = x.named;
            few = x.few;
            inside = omega (arith, left.within);
            all_used = used_after;
            no_answer = answer_after ∙ ap (answer_of r'.machine p) e;
            form = form_after;
            tally = tally_after;
          }

      -- an answer was found: the turns that are left are not run
      pub whole_after : Decided r'.answer → r' ≡ run g P turns
      whole_after d =
          sym (answer_stays g P (take (used + 1) turns) (drop (used + 1) turns) d) ∙ ap (run g P) (take-append-drop (used + 1) turns)

-- the plan's next turn is that of the list
module _ {offsets targets flags : List ℕ} {P : ℕ} {rest : List ℕ} {used : ℕ} {l : List ℕ} {t : Tally} where
  -- a run to the end has an answer before its rounds end
  rounds_left : Along offsets targets flags (turns_of Rounds offsets targets flags P) P rest used l t
      → used < length (turns_of Rounds offsets targets flags P)
  rounds_left x = go (below? used (length turns))
    where
      turns : List ℕ
      turns = turns_of Rounds offsets targets flags P

      go : (used < length turns) ⊎ (length turns ≤ used) → used < length turns
      go (inl h) = h
      go (inr h) =
          let all_made : after offsets targets flags turns P used ≡ run (graph_of offsets targets flags) P turns =
          ap (run (graph_of offsets targets flags) P) (take_all used turns h) in
          let d = end_decides (graph_of offsets targets flags) P (graph_of_words offsets targets flags x.held.graph) x.held.some in
          absurd (rw (← all_made, x.no_answer) at d)

  pub next_left : (plan : Plan) → Along offsets targets flags (turns_of plan offsets targets flags P) P rest used l t → {p : ℕ} {o : Option ℕ}
      → o ≡ next_in plan P used → o ≡ Some p → Left (turns_of plan offsets targets flags P) used p
  next_left plan x {p} a b = go plan x (sym a ∙ b)
    where
      go : (plan : Plan) → Along offsets targets flags (turns_of plan offsets targets flags P) P rest used l t → next_in plan P used ≡ Some p
          → Left (turns_of plan offsets targets flags P) used p
      go (Turns turns) x e =
          record { within = slice_get_within turns.now used p e; is = sym (get_or_from_slice_get turns.now used p 0 e) }
      go Rounds x e =
          let most = most_moves (graph_of offsets targets flags) P in
          let worker : used % P ≡ p = cc in
          let within = rounds_left x in
          record { within = within; is = sym worker ∙ sym (rounds_at P most used (omega (arith, within, rounds_long P most))) }

pub none_left : (offsets targets flags : List ℕ) (P used : ℕ) (plan : Plan) → next_in plan P used ≡ None
    → length (turns_of plan offsets targets flags P) ≤ used
none_left offsets targets flags P used (Turns turns) e = go (below? used (length turns.now))
  where
    go : (used < length turns.now) ⊎ (length turns.now ≤ used) → length turns.now ≤ used
    go (inl h) = let some : true ≡ false = ap is_some (sym (slice_get-get_or turns.now used 0 h) ∙ e) in absurd (clash refl some)
    go (inr h) = h
none_left offsets targets flags P used Rounds e = let some : true ≡ false = ap is_some e in absurd (clash refl some)

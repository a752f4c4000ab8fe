-- What holds of the records read so far: before the first line, and after a line that is read if before it. A line that is refused has a number
-- from 1 to 8.
use Prim.Native.Nat.{ℕ, suc, ◌+◌, ◌≤◌, ◌<◌}
use mathlib.Core.Path.{◌≡◌, refl, sym, ap, ◌∙◌}
use mathlib.Core.Bool.{Bool, true, false, cond, not, ◌&&◌, ◌||◌}
use mathlib.Core.List.{List, [], ◌∷◌, ◌++◌}
use mathlib.Core.Logic.{◌⊎◌, inl, inr, ◌≢◌}
use lib.Dec.{eqb, leb, ltb}
use lib.ListN.{length, get_or, take, drop, length-append, get_or-append}
use lib.Seq.{get_or-append_seam}
use native.Mathlib.Omega.{arith}
use borrow.Author.Tests.{not-false, leb-false, lt-ltb, eqb-true}
use Rattle.graphs.specs.Lists.{Mem, Once, all, any, same}
use Rattle.graphs.proofs.Tests.{either, clash, same?, and_cases, cond_ind}
use Rattle.graphs.proofs.Same.{eq_same, any_not_at, all_join}
use Rattle.graphs.proofs.Once.{once_join}
use Rattle.lines.specs.Line.{field, is_label, is_state, is_transition, flag_of}
use Rattle.lines.proofs.Records.{flag_low, state_label}
use Rattle.text.proofs.Nil.{is_nil_lem}
use Rattle.text.specs.Text.{State, Transition, Rooms, Seen, Meaning, reads, refused, is_nil, declared, number_of, transition_of, stood}
use Rattle.text.specs.Text.{with_state, with_transition, state_line, transition_line, one_line, nothing}
use Rattle.text.specs.Lists.{targets_from}
use Rattle.text.proofs.Targets.{target_stood, targets_more}

-- what a list of states gives beyond its end
abbrev pub absent : State
absent = record { label = []; start = 0; flag = 0 }

-- the label of state i
abbrev pub label_in : List State → ℕ → List ℕ
label_in states i = (get_or states i absent).label

-- the label of a state stands at its start
abbrev pub stands : List ℕ → State → Bool
stands text s = same (take (length s.label) (drop s.start text)) s.label

pub record Good (rooms : Rooms) (text : List ℕ) (seen : Seen) : Type 0 where
  pub states_fit : length seen.states ≤ rooms.for_states
  pub transitions_fit : length seen.transitions ≤ rooms.for_transitions
  pub flags_below : all (λ s. ltb s.flag 2) seen.states ≡ true
  pub labels_formed : all (λ s. is_label s.label) seen.states ≡ true
  pub labels_stand : all (stands text) seen.states ≡ true
  pub labels_apart : (i j : ℕ) → i < j → j < length seen.states → label_in seen.states i ≢ label_in seen.states j
  pub sources_below : all (λ t. ltb t.from (length seen.states)) seen.transitions ≡ true
  pub ends_below : all (λ t. ltb t.to (length seen.states)) seen.transitions ≡ true
  pub once : (s : ℕ) → Once (targets_from s seen.transitions)
  pub numbered : seen.line ≡ suc (length seen.states + length seen.transitions)

-- what is read has Q; what is refused has a number from 1 to 8, and its line is at most one more than the records that the rooms hold
abbrev pub Either : Rooms → (Seen → Type 0) → Meaning → Type 0
Either rooms Q (reads seen) = Q seen
Either rooms Q (refused number line) = (1 ≤ number) × (number ≤ 8) × (line ≤ suc (rooms.for_states + rooms.for_transitions))

all_more : {A : Type 0} (f : A → Bool) (l : List A) (x : A) → all f l ≡ true → f x ≡ true → all f (l ++ (x ∷ [])) ≡ true
unfolding all
all_more f l x e h = rw (all_join f l (x ∷ []), e, h)

-- a label that was declared has the number of a state
number_below : (label : List ℕ) (states : List State) → declared label states ≡ true → number_of label states < length states
unfolding declared any number_of
number_below label [] e = absurd (clash e refl)
number_below label (s ∷ states) e = go (same label s.label) (number_below label states) e
  where
    go : (b : Bool) → (declared label states ≡ true → number_of label states < length states) → (b || declared label states) ≡ true
        → cond b 0 (suc (number_of label states)) < suc (length states)
    go true rest h = omega arith
    go false rest h = omega (arith, rest h)

-- one state more, at the end, with a label that none has
module _ (states : List State) (s : State) where
  more_apart : declared s.label states ≡ false
      → ((i j : ℕ) → i < j → j < length states → label_in states i ≢ label_in states j)
      → (i j : ℕ) → i < j → j < length (states ++ (s ∷ [])) → label_in (states ++ (s ∷ [])) i ≢ label_in (states ++ (s ∷ [])) j
  unfolding declared
  more_apart new before i j h k e =
      let long = length-append states (s ∷ []) in
      go (omega arith) (same? j (length states))
    where
      joined : List State
      joined = states ++ (s ∷ [])

      old : (v : ℕ) → v < length states → label_in joined v ≡ label_in states v
      old v l = ap (λ u. u.label) (get_or-append states (s ∷ []) absent v l)

      last : label_in joined (length states) ≡ s.label
      last = ap (λ u. u.label) (get_or-append_seam states s [] absent)

      go : j ≤ length states → (j ≡ length states) ⊎ (j ≢ length states) → ⊥
      go le (inl q) =
          let f : State → Bool = λ u. same s.label u.label in
          let both : label_in states i ≡ s.label = sym (old i (omega arith)) ∙ e ∙ ap (label_in joined) q ∙ last in
          clash (eq_same s.label (label_in states i) (sym both)) (any_not_at f states new i absent (omega arith))
      go le (inr ne) = before i j h (omega arith) (sym (old i (omega arith)) ∙ e ∙ old j (omega arith))

-- one transition more, at the end, of a pair that did not stand
more_once : (t : Transition) (ts : List Transition) → stood t ts ≡ false → ((s : ℕ) → Once (targets_from s ts))
    → (s : ℕ) → Once (targets_from s (ts ++ (t ∷ [])))
more_once t ts new before s = rw (targets_more s t ts) (go (either (eqb t.from s)))
  where
    go : (eqb t.from s ≡ true) ⊎ (eqb t.from s ≡ false) → Once (targets_from s ts ++ cond (eqb t.from s) (t.to ∷ []) [])
    go (inl e) = rw e (once_join (targets_from s ts) (t.to ∷ []) (before s) (λ m. m, tt) apart)
      where
        apart : (x : ℕ) → Mem x (targets_from s ts) → Mem x (t.to ∷ []) → ⊥
        apart x m (inl q) = clash (target_stood t.from t.to ts (rw (eqb-true t.from s e, sym q) m)) new
        apart x m (inr k) = k
    go (inr e) = rw e (once_join (targets_from s ts) [] (before s) tt (λ x m k. k))

module _ (rooms : Rooms) (text : List ℕ) where
  pub nothing_good : Good rooms text nothing
  unfolding all targets_from
  nothing_good =
      record {
        states_fit = omega arith;
        transitions_fit = omega arith;
        flags_below = refl;
        labels_formed = refl;
        labels_stand = refl;
        labels_apart = λ i j h k e. omega arith;
        sources_below = refl;
        ends_below = refl;
        once = λ s. tt;
        numbered = refl;
      }

  module _ (line : List ℕ) (seen : Seen) (good : Good rooms text seen) where
    -- what is read once a line was: all of it, and the next line stands after this one
    abbrev pub After : Seen → Type 0
    After s = Good rooms text s × (s.at ≡ seen.at + length line + 1)

    state_good : seen.transitions ≡ [] → declared (field 1 line) seen.states ≡ false → length seen.states < rooms.for_states
        → is_label (field 1 line) ≡ true → take (length (field 1 line)) (drop (seen.at + 2) text) ≡ field 1 line
        → Good rooms text (with_state line seen)
    unfolding with_state all targets_from
    state_good none new room formed here =
        let state : State = record { label = field 1 line; start = seen.at + 2; flag = flag_of line } in
        record {
          states_fit = simp length-append (omega arith);
          transitions_fit = good.transitions_fit;
          flags_below = all_more (λ s. ltb s.flag 2) seen.states state good.flags_below (lt-ltb (flag_of line) 2 (flag_low line));
          labels_formed = all_more (λ s. is_label s.label) seen.states state good.labels_formed formed;
          labels_stand = all_more (stands text) seen.states state good.labels_stand (eq_same _ _ here);
          labels_apart = more_apart seen.states state new good.labels_apart;
          sources_below = rw none;
          ends_below = rw none;
          once = good.once;
          numbered = rw (length-append seen.states (state ∷ [])) (omega (arith, good.numbered));
        }

    transition_good : declared (field 1 line) seen.states ≡ true → declared (field 2 line) seen.states ≡ true
        → stood (transition_of line seen.states) seen.transitions ≡ false → length seen.transitions < rooms.for_transitions
        → Good rooms text (with_transition line seen)
    unfolding with_transition transition_of
    transition_good from to new room =
        let n = length seen.states in
        let t = transition_of line seen.states in
        record {
          states_fit = good.states_fit;
          transitions_fit = simp length-append (omega arith);
          flags_below = good.flags_below;
          labels_formed = good.labels_formed;
          labels_stand = good.labels_stand;
          labels_apart = good.labels_apart;
          sources_below = all_more (λ u. ltb u.from n) seen.transitions t good.sources_below (known (field 1 line) from);
          ends_below = all_more (λ u. ltb u.to n) seen.transitions t good.ends_below (known (field 2 line) to);
          once = more_once t seen.transitions new good.once;
          numbered = rw (length-append seen.transitions (t ∷ [])) (omega (arith, good.numbered));
        }
      where
        known : (label : List ℕ) → declared label seen.states ≡ true → ltb (number_of label seen.states) (length seen.states) ≡ true
        known label e = lt-ltb _ _ (number_below label seen.states e)

    low : (number : ℕ) → 1 ≤ number → number ≤ 8 → Either rooms After (refused number seen.line)
    low number h k = (h, k, omega (arith, good.numbered, good.states_fit, good.transitions_fit))

    state_line_good : is_label (field 1 line) ≡ true → take (length (field 1 line)) (drop (seen.at + 2) text) ≡ field 1 line
        → Either rooms After (state_line rooms line seen)
    unfolding state_line with_state
    state_line_good formed here =
        cond_ind (Either rooms After) (not (is_nil seen.transitions)) (λ e. low 2 (omega arith) (omega arith)) (λ none.
        cond_ind (Either rooms After) (declared (field 1 line) seen.states) (λ e. low 3 (omega arith) (omega arith)) (λ new.
        cond_ind (Either rooms After) (leb rooms.for_states (length seen.states)) (λ e. low 6 (omega arith) (omega arith)) (λ room.
        (state_good (is_nil_lem seen.transitions (not-false _ none)) new (leb-false _ _ room) formed here, refl))))

    transition_line_good : Either rooms After (transition_line rooms line seen)
    unfolding transition_line with_transition
    transition_line_good =
        let from = declared (field 1 line) seen.states in
        let to = declared (field 2 line) seen.states in
        cond_ind (Either rooms After) (not (from && to)) (λ e. low 4 (omega arith) (omega arith)) (λ known.
        cond_ind (Either rooms After) (stood (transition_of line seen.states) seen.transitions) (λ e. low 5 (omega arith) (omega arith)) (λ new.
        cond_ind (Either rooms After) (leb rooms.for_transitions (length seen.transitions)) (λ e. low 7 (omega arith) (omega arith)) (λ room.
        let both = and_cases from to (not-false (from && to) known) in
        (transition_good both.0 both.1 new (leb-false _ _ room), refl))))

    pub line_good : (is_state line ≡ true → take (length (field 1 line)) (drop (seen.at + 2) text) ≡ field 1 line)
        → Either rooms After (one_line rooms line seen)
    unfolding one_line
    line_good here =
        cond_ind (Either rooms After) (is_state line) (λ e. state_line_good (state_label line e) (here e)) (λ e.
        cond_ind (Either rooms After) (is_transition line) (λ k. transition_line_good) (λ k. low 2 (omega arith) (omega arith)))

-- What a run on a graph that was read has told can be printed: each state of stem and loop, and each seed, has a label of at most 16 bytes.
use Prim.Native.Nat.{ℕ, ◌+◌, ◌*◌, ◌≤◌, ◌<◌}
use mathlib.Core.Path.{◌≡◌, refl, ap, subst}
use mathlib.Core.List.{List}
use lib.ListN.{length, get_or, take, drop, length-take}
use native.Mathlib.Omega.{arith}
use Rattle.graphs.proofs.Member.{mem_left, mem_right}
use Rattle.moves.specs.declared.Place.{Place}
use Rattle.moves.specs.declared.Place.TheVariants.{Fresh, Outer, Inner, Waiting, Done}
use Rattle.moves.specs.declared.Tally.{Tally}
use Rattle.theory.specs.Invariant.{SeedAt}
use Rattle.ends.specs.declared.Outcome.{Outcome}
use Rattle.ends.specs.Told.{Told, told_cycle, told_none, told_undecided, told_refusal, told}
use Rattle.text.specs.Labels.{label_at}
use Rattle.limits.specs.declared.RunError.{RunError}
use Rattle.std.specs.Prelude.{Result}
use Rattle.search.proofs.Promises.{Call, refuses, cycle_shown, cycle_states, room_long, workers_few, worker_is, seed_states}
use Rattle.moves.specs.Own.{own_at}
use Rattle.report.specs.Report.{end_lines}
use Rattle.report.specs.declared.labels.Labels.{Labels}
use Rattle.report.specs.Shows.{label_of, Shows, Seeded, ShowsWorkers, ShowsEnd}
use Rattle.programs.specs.Given.{Given}
use Rattle.programs.proofs.Lines.{ShortShown, used_long}

module _ {labels : Labels} {flags : List ℕ} (given : Given flags labels) where
  abbrev n : ℕ
  n = length flags

  short : (s : ℕ) → s < n → length (label_of labels s) ≤ 16
  unfolding label_at
  short s h =
      let part = length-take (get_or labels.places.now (2 * s + 1) 0) (drop (get_or labels.places.now (2 * s) 0) labels.text.now) in
      omega (arith, part, given.short s h)

  seeded : (p : Place) → ((z : ℕ) → SeedAt p z → z < n) → Seeded labels p
  seeded Fresh h = tt
  seeded Outer h = tt
  seeded (Inner z) h = given.labelled z (h z refl)
  seeded (Waiting z) h = given.labelled z (h z refl)
  seeded Done h = tt

  module _ {offsets targets turns : List ℕ} {P number : ℕ} {l lasso : List ℕ} {t : Tally} {r : Result Outcome RunError} {l' lasso' : List ℕ} {t' : Tally}
      (call : Call offsets targets flags turns P number l lasso t r l' lasso' t') where
    pub shows : Shows labels lasso' (told r)
    shows = go (told r) refl
      where
        go : (x : Told) → told r ≡ x → Shows labels lasso' x
        go (told_cycle stem loop used) e =
            let states = cycle_states call (ap refuses e) stem loop used e in (
              (cycle_shown call (ap refuses e) stem loop used e).0,
              record { each = λ s m. given.labelled s (states s (mem_left s (take stem lasso') (take loop (drop stem lasso')) m)) },
              record { each = λ s m. given.labelled s (states s (mem_right s (take stem lasso') (take loop (drop stem lasso')) m)) },
            )
        go (told_none used) e = tt
        go (told_undecided used) e = tt
        go (told_refusal k line) e = tt

    pub short_shown : ShortShown (label_of labels) lasso' (told r)
    short_shown = go (told r) refl
      where
        go : (x : Told) → told r ≡ x → ShortShown (label_of labels) lasso' x
        go (told_cycle stem loop used) e = λ s m. short s (cycle_states call (ap refuses e) stem loop used e s m)
        go (told_none used) e = tt
        go (told_undecided used) e = tt
        go (told_refusal k line) e = tt

    module _ (answers : refuses (told r) ≡ 0) where
      seed_below : (q : ℕ) → q < P → (z : ℕ) → SeedAt (own_at l' n q).place z → z < n
      seed_below q h z s = seed_states call answers q z (subst (λ o. SeedAt o.place z) (worker_is call answers q h) s)

      shows_workers : ShowsWorkers labels l' n P
      shows_workers = record { room_long = room_long call answers; seeds = λ q h. seeded (own_at l' n q).place (seed_below q h) }

      workers_long : (used : ℕ) → length (end_lines (label_of labels) l' n P (told_none used)) ≤ 900
      workers_long used = used_long (label_of labels) l' n P (workers_few call answers) (λ q h z s. short z (seed_below q h z s)) used

    pub shows_end : ShowsEnd labels l' n P (told r)
    shows_end = go (told r) refl
      where
        go : (x : Told) → told r ≡ x → ShowsEnd labels l' n P x
        go (told_cycle stem loop used) e = shows_workers (ap refuses e)
        go (told_none used) e = shows_workers (ap refuses e)
        go (told_undecided used) e = shows_workers (ap refuses e)
        go (told_refusal k line) e = tt

    pub end_long : length (end_lines (label_of labels) l' n P (told r)) ≤ 900
    end_long = go (told r) refl
      where
        go : (x : Told) → told r ≡ x → length (end_lines (label_of labels) l' n P x) ≤ 900
        go (told_cycle stem loop used) e = workers_long (ap refuses e) used
        go (told_none used) e = workers_long (ap refuses e) used
        go (told_undecided used) e = workers_long (ap refuses e) used
        go (told_refusal k line) e = omega arith

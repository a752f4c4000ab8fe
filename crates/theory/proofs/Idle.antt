-- The two kinds of move: one that changes something is counted; one that is not counted leaves the machine as it is, and its worker waits for a
-- state that is not red or is done.
use Rattle.std.proofs.Common.{ℕ, ◌+◌, ◌≡◌, refl, true, false, ◌⊎◌, inl, inr}
use Rattle.graphs.specs.Graph.{Graph}
use Rattle.graphs.proofs.Tests.{clash}
use Rattle.moves.specs.declared.Place.{Place}
use Rattle.moves.specs.declared.Place.TheVariants.{Fresh, Outer, Inner, Waiting, Done}
use Rattle.moves.specs.Place.{is_done}
use Rattle.moves.specs.declared.Tally.{Tally}
use Rattle.moves.specs.Machine.{Machine}
use Rattle.moves.specs.Moves.{Made, others_red}
use Rattle.moves.specs.Tally.{raised, changes}
use Rattle.theory.specs.Rules.{Rule}
use Rattle.theory.specs.Rules.{by_start, by_skip, by_enter, by_leave, by_seed, by_hit, by_pass, by_join, by_back, by_paint, by_wait, by_rest}

-- worker p waits with its seed for a state that is not red
pub record Waits (g : Graph) (m : Machine) (p : ℕ) : Type 0 where
  pub seed : ℕ
  pub waits : (m.worker p).place ≡ Waiting seed
  pub blocked : others_red g p m seed ≡ false

-- worker p waits, or is done
abbrev pub Idle : Graph → Machine → ℕ → Type 0
Idle g m p = Waits g m p ⊎ ((m.worker p).place ≡ Done)

pub data Kind (g : Graph) (p : ℕ) (m : Machine) (a : Made) : Type 0 where
  counted : changes a.move ≡ true → ((t : Tally) → (raised t a.move).moves ≡ t.moves + 1) → Kind g p m a
  passed_over : changes a.move ≡ false → ((t : Tally) → (raised t a.move).moves ≡ t.moves) → a.machine ≡ m → Idle g m p → Kind g p m a

module _ {g : Graph} {p : ℕ} {m : Machine} where
  pub kind : (a : Made) → Rule g p m a → Kind g p m a
  kind _ (by_start ep) = counted refl (λ t. refl)
  kind _ (by_skip ep eo er c) = counted refl (λ t. refl)
  kind _ (by_enter ep eo er c) = counted refl (λ t. refl)
  kind _ (by_leave ep eo er c) = counted refl (λ t. refl)
  kind _ (by_seed ep eo er c) = counted refl (λ t. refl)
  kind _ (by_hit ep ei er c) = counted refl (λ t. refl)
  kind _ (by_pass ep ei er c r) = counted refl (λ t. refl)
  kind _ (by_join ep ei er c r) = counted refl (λ t. refl)
  kind _ (by_back ep ei er) = counted refl (λ t. refl)
  kind _ (by_paint ep eo c) = counted refl (λ t. refl)
  kind _ (by_wait {z} ep c) = passed_over refl (λ t. refl) refl (inl (record { seed = z; waits = ep; blocked = c }))
  kind _ (by_rest ep) = passed_over refl (λ t. refl) refl (inr ep)

  pub still : (a : Made) → Rule g p m a → changes a.move ≡ false → (a.machine ≡ m) × Idle g m p
  still a r e = go (kind a r)
    where
      go : Kind g p m a → (a.machine ≡ m) × Idle g m p
      go (counted c up) = absurd (clash c e)
      go (passed_over c same stays idle) = (stays, idle)

-- a place that passes the test is `Done`
pub is_done_lem : (q : Place) → is_done q ≡ true → q ≡ Done
is_done_lem Fresh e = absurd (clash e refl)
is_done_lem Outer e = absurd (clash e refl)
is_done_lem (Inner z) e = absurd (clash e refl)
is_done_lem (Waiting z) e = absurd (clash e refl)
is_done_lem Done e = refl

-- The total of what is left: it is P × (1 + 4N + 3E) at the start, falls with every move that changes something, and rises with none. So the tally
-- of a run never counts more such moves than that.
use Rattle.std.proofs.Common.{ℕ, zero, suc, ◌+◌, ◌*◌, ◌≤◌, ◌<◌, ◌≡◌, refl, ap, ◌∙◌, Bool, true, false, cond, not, ◌&&◌, eqb, length, arith, le_of_lt}
use Rattle.std.proofs.Common.{le_of_eq}
use Rattle.graphs.specs.Lists.{upd, sum, elem}
use Rattle.graphs.specs.Graph.{Graph, Sound, edges}
use Rattle.graphs.proofs.Tests.{clash, or_inl}
use Rattle.graphs.proofs.Change.{upd_same, upd_ind, upd_up}
use Rattle.graphs.proofs.Sum.{sum_lt, sum_same}
use Rattle.moves.specs.declared.Tally.{Tally}
use Rattle.moves.specs.Machine.{Worker, Machine, empty, fresh, start}
use Rattle.moves.specs.Changes.{put, put_blue, dyed}
use Rattle.moves.specs.Moves.{Made}
use Rattle.moves.specs.Tally.{raised, changes}
use Rattle.theory.specs.Rules.{Rule}
use Rattle.theory.specs.Rules.{by_start, by_skip, by_enter, by_leave, by_seed, by_hit, by_pass, by_join, by_back, by_paint, by_wait, by_rest}
use Rattle.theory.specs.Invariant.{Invariant, Local, Dead}
use Rattle.theory.specs.Turns.{most_moves}
use Rattle.theory.specs.Cost.{cell, work_left, total}
use Rattle.theory.proofs.Idle.{Kind, counted, passed_over, kind}
use Rattle.theory.proofs.Cost.{work_more, start_lowers, skip_lowers, enter_lowers, leave_lowers, seed_lowers}
use Rattle.theory.proofs.Cost.{pass_lowers, join_lowers, back_lowers, paint_lowers}

module _ {g : Graph} (sound : Sound g) {P : ℕ} {m : Machine} (inv : Invariant g P m) {p : ℕ} (named : p < P) where
  l : Local g m.blue (Dead m) p (m.worker p)
  l = inv.local p

  -- what is left for p falls, and with more blue and red nobody's rises
  falls_with : (blue red : ℕ → Bool) → ((t : ℕ) → m.blue t ≡ true → blue t ≡ true) → ((t : ℕ) → m.red t ≡ true → red t ≡ true)
      → (w : Worker) → work_left g blue red w < work_left g m.blue m.red (m.worker p)
      → total g P (record { blue = blue; red = red; worker = upd m.worker p w }) < total g P m
  unfolding total
  falls_with blue red blues reds w lt =
      sum_lt P (λ q. work_left g blue red (upd m.worker p w q)) (λ q. work_left g m.blue m.red (m.worker q))
      (λ q k. le q) p named (rw (upd_same m.worker p w) lt)
    where
      le : (q : ℕ) → work_left g blue red (upd m.worker p w q) ≤ work_left g m.blue m.red (m.worker q)
      le =
          upd_ind (λ q a. work_left g blue red a ≤ work_left g m.blue m.red (m.worker q)) m.worker p w (le_of_lt lt)
          (λ q ne. work_more g m.blue blue m.red red blues reds (m.worker q))

  put_falls : (w : Worker) → work_left g m.blue m.red w < work_left g m.blue m.red (m.worker p) → total g P (put m p w) < total g P m
  put_falls = falls_with m.blue m.red (λ t e. e) (λ t e. e)

  blue_falls : (s : ℕ) (w : Worker) → work_left g (upd m.blue s true) m.red w < work_left g m.blue m.red (m.worker p)
      → total g P (put_blue m p w s) < total g P m
  blue_falls s = falls_with (upd m.blue s true) m.red (upd_up m.blue s) (λ t e. e)

  pub falls : (a : Made) → Rule g p m a → changes a.move ≡ true → total g P a.machine < total g P m
  falls _ (by_start ep) e = put_falls _ (start_lowers sound l m.red ep)
  falls _ (by_skip ep eo er ex) e = put_falls _ (skip_lowers sound l m.red ep eo er)
  falls _ (by_enter ep eo er ex) e = put_falls _ (enter_lowers sound l m.red ep eo er ex)
  falls _ (by_leave {s} ep eo er ea) e = blue_falls s _ (leave_lowers sound l m.red ep eo)
  falls _ (by_seed {s} ep eo er ea) e = blue_falls s _ (seed_lowers sound l m.red ep eo er)
  falls _ (by_hit ep ei er cx) e = put_falls _ (pass_lowers sound l m.red ep ei er)
  falls _ (by_pass ep ei er cx ex) e = put_falls _ (pass_lowers sound l m.red ep ei er)
  falls _ (by_join ep ei er cx ex) e = put_falls _ (join_lowers sound l m.red ep ei er cx ex)
  falls _ (by_back ep ei er) e = put_falls _ (back_lowers sound l m.red ep ei)
  falls _ (by_paint ep eo reds) e =
      falls_with m.blue (dyed m p) (λ t b. b) (λ t r. or_inl (m.red t) ((m.worker p).R t) r) _ (paint_lowers sound l m.red ep eo)
  falls _ (by_wait ep reds) e = absurd (clash e refl)
  falls _ (by_rest ep) e = absurd (clash e refl)

  pub paid : (a : Made) → Rule g p m a → (t : Tally) → (raised t a.move).moves + total g P a.machine ≤ t.moves + total g P m
  paid a r t = go (kind a r)
    where
      go : Kind g p m a → (raised t a.move).moves + total g P a.machine ≤ t.moves + total g P m
      go (counted c up) = omega (arith, up t, falls a r c)
      go (passed_over c same stays idle) = omega (arith, same t, ap (total g P) stays)

  pub no_more : (a : Made) → Rule g p m a → total g P a.machine ≤ total g P m
  no_more a r = go (kind a r)
    where
      go : Kind g p m a → total g P a.machine ≤ total g P m
      go (counted c up) = le_of_lt (falls a r c)
      go (passed_over c same stays idle) = le_of_eq (ap (total g P) stays)

-- At the start each state has both parts in full, 2d + 3 and d + 1.
start_cell : (g : Graph) (t : ℕ) → cell g empty empty fresh t ≡ 3 * length (g.next t) + 4
unfolding elem
start_cell g t = go (eqb t 0)
  where
    go : (b : Bool) → cond (not b && false) 0 (2 * length (g.next t) + 3) + (length (g.next t) + 1) ≡ 3 * length (g.next t) + 4
    go true = omega arith
    go false = omega arith

start_sum : (g : Graph) (n : ℕ) → sum n (cell g empty empty fresh) ≡ 4 * n + 3 * sum n (λ s. length (g.next s))
unfolding sum
start_sum g zero = refl
start_sum g (suc n) = omega (arith, start_cell g n, start_sum g n)

pub start_total : (g : Graph) (P : ℕ) → total g P start ≡ most_moves g P
unfolding total most_moves edges work_left
start_total g P = sum_same P (work_left g empty empty fresh) ∙ ap (λ n. P * n) (omega (arith, start_sum g g.size))

-- `read` meets its contract: too long, a graph, or refused and cleared.
use mathlib.Core.Path.{◌≡◌}
use native.Mathlib.Omega.{arith}
use lib.ListN.{length}
use Rattle.statelist.proofs.Ends.{comes_long, comes_graph, comes_refused}
use Rattle.statelist.proofs.read.Goals as goal

pub returns-then-text-gt-MOST_TEXT : goal.returns-then-text-gt-MOST_TEXT
returns-then-text-gt-MOST_TEXT c =
    let z = c.clear.ensures in
    rw (z.offsets, z.targets, z.flags, z.places) (comes_long _ _ _ _ _ c.if-text-gt-MOST_TEXT.true)

pub returns-in-Err : goal.returns-in-Err
returns-in-Err c =
    let z = c.clear-in-Err.ensures in
    let o : length c.clear.new.offsets ≡ length c.args.offsets.now = omega arith in
    let t : length c.clear.new.targets ≡ length c.args.targets.now = omega arith in
    let f : length c.clear.new.flags ≡ length c.args.flags.now = omega arith in
    let p : length c.clear.new.places ≡ length c.args.places.now = omega arith in
    let o' : length c.fill.new.offsets ≡ length c.args.offsets.now = omega arith in
    let t' : length c.fill.new.targets ≡ length c.args.targets.now = omega arith in
    let f' : length c.fill.new.flags ≡ length c.args.flags.now = omega arith in
    let p' : length c.fill.new.places ≡ length c.args.places.now = omega arith in
    rw (z.offsets, z.targets, z.flags, z.places, o', t', f', p')
    (comes_refused _ _ _ _ _ _ _ _ _ c.if-text-gt-MOST_TEXT.false _ (rw (o, t, f, p) at c.in-Err.ensures))

pub returns-in-Ok : goal.returns-in-Ok
returns-in-Ok c =
    let o : length c.clear.new.offsets ≡ length c.args.offsets.now = omega arith in
    let t : length c.clear.new.targets ≡ length c.args.targets.now = omega arith in
    let f : length c.clear.new.flags ≡ length c.args.flags.now = omega arith in
    let p : length c.clear.new.places ≡ length c.args.places.now = omega arith in
    comes_graph _ _ _ _ _ _ _ _ _ c.if-text-gt-MOST_TEXT.false _ _ (omega arith) (omega arith) (omega arith) (omega arith)
    (rw (o, t, f, p) at c.in-Ok.ensures)

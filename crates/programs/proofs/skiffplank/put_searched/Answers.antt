-- `put_searched` writes what is printed of a text: too long, refused, or the lines of its graph's run.
use Rattle.std.proofs.Common.{◌≤◌, length, arith, sym, subst}
use Rattle.page.specs.Page.{Adds}
use Rattle.programs.specs.Skiffplank.{most_input}
use Rattle.programs.proofs.Lines.{refused_long}
use Rattle.std.specs.Prelude.{Err}
use Rattle.statelist.specs.Told.{told}
use Rattle.programs.proofs.Reading.{reading_long, search_refused, search_graph}
use Rattle.programs.proofs.Searched.{searched_long}
use Rattle.programs.proofs.skiffplank.put_searched.Goals as goal

pub put_reading-requires : goal.put_reading-requires
put_reading-requires c = omega (arith, refused_long 1 0)

pub returns-then-text-gt-MOST_INPUT : goal.returns-then-text-gt-MOST_INPUT
returns-then-text-gt-MOST_INPUT c = subst (Adds _ _) (sym (searched_long c.args.text.now c.if-text-gt-MOST_INPUT.true)) c.put_reading.ensures

pub put_reading-requires-in-Err : goal.put_reading-requires-in-Err
put_reading-requires-in-Err c = omega (arith, reading_long (told (Err c.in-Err.error)))

pub returns-in-Ok : goal.returns-in-Ok
returns-in-Ok c =
    let short : length c.args.text.now ≤ most_input = omega (arith, c.if-text-gt-MOST_INPUT.false) in
    let cut = c.new-list.ensures in
    subst (Adds _ _) (search_graph c.args.text.now short c.in-Ok.size _ _ _ _ c.in-Ok.ensures)
    (rw (cut.offsets, cut.targets, cut.flags, cut.places, cut.text) at c.put_search_lines.ensures)

pub returns-in-Err : goal.returns-in-Err
returns-in-Err c =
    let short : length c.args.text.now ≤ most_input = omega (arith, c.if-text-gt-MOST_INPUT.false) in
    subst (Adds _ _) (search_refused c.args.text.now short c.in-Err.error _ _ _ _ c.in-Err.ensures) c.put_reading-in-Err.ensures

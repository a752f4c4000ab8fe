-- What `main` prints is the front of its page.
use Rattle.std.proofs.Common.{sym}
use Rattle.std.proofs.lemmas.List.{length-take-le}
use Rattle.page.proofs.Written.{written_within}
use Rattle.replay.proofs.main.Goals as goal

pub slice_bounds-page-end : goal.slice_bounds-page-end
slice_bounds-page-end c = written_within _ _ c.replay_page-k.ensures

pub slice_bounds-print-end-2 : goal.slice_bounds-print-end-2
slice_bounds-print-end-2 c = sym (length-take-le _ _ (written_within _ _ c.replay_page-k.ensures))

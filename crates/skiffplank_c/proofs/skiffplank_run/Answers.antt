-- A run over a turn list: the lengths that are told fit 32 bits.
use Rattle.skiffplank_c.proofs.Told.{run_fits}
use Rattle.skiffplank_c.proofs.skiffplank_run.Goals as goal

pub run_answer-requires : goal.run_answer-requires
run_answer-requires c = run_fits _ _ _ _ _ _ _ _ _ _ _ _ c.run-outcome.ensures

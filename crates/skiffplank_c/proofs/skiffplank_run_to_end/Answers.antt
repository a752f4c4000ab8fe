-- The run to the end: the lengths that are told fit 32 bits.
use Rattle.skiffplank_c.proofs.Told.{end_fits}
use Rattle.skiffplank_c.proofs.skiffplank_run_to_end.Goals as goal

pub run_answer-requires : goal.run_answer-requires
run_answer-requires c = end_fits _ _ _ _ _ _ _ _ _ _ _ c.run_to_end-outcome.ensures.0

-- A reading: its numbers fit 32 bits.
use Rattle.skiffplank_c.proofs.Told.{read_fits}
use Rattle.skiffplank_c.proofs.skiffplank_read.Goals as goal

pub read_answer-requires : goal.read_answer-requires
read_answer-requires c = read_fits _ _ _ _ _ _ _ _ _ _ c.read.ensures

-- The turns stand at the front of the second word, and so at that of its buffer.
use Rattle.std.proofs.Common.{rules}
use Rattle.asked.proofs.Within.{turns_within, within_longer}
use Rattle.replay.proofs.words.Goals as goal

pub returns-in-Err-NotPresent : goal.returns-in-Err-NotPresent
returns-in-Err-NotPresent g c = within_longer _ _ _ (turns_within _ _ _ _ c.ask.ensures) (search rules)

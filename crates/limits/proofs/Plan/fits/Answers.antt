-- `Plan::fits` meets its contract: by `fits_is`, from what the iterator finds.
use Rattle.std.proofs.Common.{rules}
use Rattle.limits.proofs.Refused.{fits_is}
use Rattle.limits.proofs.Plan.fits.Goals as goal

pub returns-in-Turns : goal.returns-in-Turns
returns-in-Turns c = fits_is _ _ _ (search rules)

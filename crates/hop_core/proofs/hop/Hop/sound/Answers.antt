use Rattle.hop_core.proofs.Fits.{fits_room}
use Rattle.hop_core.proofs.hop.Hop.sound.Goals as goal

pub returns-clause-fits : goal.returns-clause-fits
returns-clause-fits c = rw c.self.view_is at (fits_room _ c.self.invariant.sound)

use Rattle.board_api.proofs.AddedSteps.{quiet_steps_stay}
use Rattle.board_api.proofs.own_laws.quiet_steps_stay.Goals as goal

pub returns : goal.returns
returns c = quiet_steps_stay

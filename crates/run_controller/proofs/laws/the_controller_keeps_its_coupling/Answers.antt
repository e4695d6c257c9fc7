use Rattle.run_controller.proofs.ControllerLaws.{controller_keeps_coupling}
use Rattle.run_controller.proofs.laws.the_controller_keeps_its_coupling.Goals as goal

pub returns : goal.returns
returns c = controller_keeps_coupling c.gated_tries_keep_their_coupling.ensures

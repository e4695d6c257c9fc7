use Rattle.run_controller.proofs.GatedLaws.{gated_tries_keep}
use Rattle.run_controller.proofs.laws.gated_tries_keep_their_coupling.Goals as goal

pub returns : goal.returns
returns c = gated_tries_keep

use Rattle.history.proofs.PlaceLemmas.{in-reach}
use Rattle.history.proofs.laws.few_lanes_are_in_reach.Goals as goal

pub returns : goal.returns
returns c h x lanes inboxes = in-reach h x lanes inboxes

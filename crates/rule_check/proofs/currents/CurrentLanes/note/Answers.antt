use Rattle.rule_check.specs.Currents.{lane_in}
use Rattle.rule_check.proofs.CurrentsLemmas.{current-noted}
use Rattle.rule_check.proofs.currents.CurrentLanes.note.Goals as goal

pub returns-in-Ok : goal.returns-in-Ok
returns-in-Ok c = λ cs h class.
    current-noted class c.in-Some.class cs c.args.chosen.now (lane_in c.args.self.now class)
    _ c.in-Some.is (c.in-Ok.ensures.updates.0 class) (h class)

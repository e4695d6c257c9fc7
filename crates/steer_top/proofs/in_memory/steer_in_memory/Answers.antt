use Rattle.steer_top.proofs.MemoryCalls.{called_from}
use Rattle.steer_top.proofs.in_memory.steer_in_memory.Goals as goal

pub returns : goal.returns
returns g c =
    called_from _ _ _ _ _ _ _ _ _ _ c.make-desk.ensures.held c.make-desk.ensures.fresh.faults
    c.in_ok-out.ensures.fresh.faults c.in_ok-err.ensures.fresh.faults c.in_ok-out.ensures.empty
    c.in_ok-err.ensures.empty c.steer-status.ensures.call c.steer-status.ensures.sent

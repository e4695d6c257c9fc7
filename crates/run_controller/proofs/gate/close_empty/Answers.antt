use Rattle.run_controller.proofs.Names.{[], ◌∷◌, ◌++◌, ap, gate_steps, closed, BoardSeatView}
use Rattle.run_controller.proofs.GateLemmas.{looks_leave_closed}
use Rattle.run_controller.proofs.gate.close_empty.Goals as goal

pub open_gate-requires-clause-closed : goal.open_gate-requires-clause-closed
open_gate-requires-clause-closed g c =
    let found = c.in-NotEmpty.ensures in
    looks_leave_closed (found.looked ++ found.last ∷ []) c.try_close.new.seat c.emptied.new.seat
    (ap (λ (s : BoardSeatView). closed (gate_steps s.steps)) c.in-Ok.ensures)
    (ap (λ (s : BoardSeatView). s.steps) found.step)

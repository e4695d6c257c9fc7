use Rattle.run_controller.proofs.Names.{ap, gate_steps, closed, BoardSeatView}
use Rattle.run_controller.proofs.GateLemmas.{looks_leave_closed}
use Rattle.run_controller.proofs.sockets.try_socket_size.Goals as goal

pub clear_sockets-requires-clause-closed : goal.clear_sockets-requires-clause-closed
clear_sockets-requires-clause-closed g c =
    let closes = c.in-None.ensures in
    looks_leave_closed closes.2.looked closes.0 c.close_empty.new.seat
    (ap (λ (s : BoardSeatView). closed (gate_steps s.steps)) closes.1)
    (ap (λ (s : BoardSeatView). s.steps) closes.2.step)

pub set_and_open-requires-clause-closed : goal.set_and_open-requires-clause-closed
set_and_open-requires-clause-closed g c =
    let closes = c.in-None.ensures in
    looks_leave_closed closes.2.looked closes.0 c.close_empty.new.seat
    (ap (λ (s : BoardSeatView). closed (gate_steps s.steps)) closes.1)
    (ap (λ (s : BoardSeatView). s.steps) closes.2.step)

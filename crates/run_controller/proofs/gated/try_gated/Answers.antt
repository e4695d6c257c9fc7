use Rattle.run_controller.proofs.Names.{ap, gate_steps, closed, BoardSeatView}
use Rattle.run_controller.proofs.GateLemmas.{looks_leave_closed}
use Rattle.steer_base.specs.declared.command.Answer.TheVariants as says
use Rattle.run_controller.proofs.GatedLaws.{gated_outside}
use Rattle.run_controller.proofs.gated.try_gated.Goals as goal

pub set_and_open-requires-clause-closed : goal.set_and_open-requires-clause-closed
set_and_open-requires-clause-closed g c =
    let closes = c.in-None.ensures in
    looks_leave_closed closes.2.looked closes.0 c.close_empty.new.seat
    (ap (λ (s : BoardSeatView). closed (gate_steps s.steps)) closes.1)
    (ap (λ (s : BoardSeatView). s.steps) closes.2.step)

pub returns-in-Some-clause-outside : goal.returns-in-Some-clause-outside
returns-in-Some-clause-outside g c =
    gated_outside _ c.args.lanes c.args.number c.args.value (says.Busy c.in-Some.busy)
    c.args.seat.now c.close_empty.new.seat c.requires.outside c.in-Some.ensures

pub returns-in-None-clause-outside : goal.returns-in-None-clause-outside
returns-in-None-clause-outside g c =
    gated_outside _ c.args.lanes c.args.number c.args.value says.Done c.args.seat.now
    c.set_and_open.new.seat c.requires.outside
    (c.close_empty.new.seat, c.in-None.ensures, c.set_and_open.ensures)

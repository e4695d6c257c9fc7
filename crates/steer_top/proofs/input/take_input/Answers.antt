use Rattle.std.proofs.Common.{inl, inr}
use Rattle.plan_reader.specs.PlanTexts.{settings_of}
use Rattle.steer_top.specs.declared.ending.Role.TheVariants as role
use Rattle.steer_top.proofs.Commands.{stops_later, told_bytes}
use Rattle.steer_top.proofs.input.take_input.Goals as goal

pub returns-in-Err-clause-ends : goal.returns-in-Err-clause-ends
returns-in-Err-clause-ends g c =
    let at = c.in-Err.ensures.ends in
    let name = c.args.command.now.capture.now in
    let (capture, told) = told_bytes (g.D.Desk.held c.args.desk.now name) in
    record {
      plan = at.bytes;
      capture = capture;
      gave_plan = at.gave;
      gave_capture = told;
      at = inl at.stops;
    }

pub returns-in-Err-take_packets-clause-ends : goal.returns-in-Err-take_packets-clause-ends
returns-in-Err-take_packets-clause-ends g c =
    let name = c.args.command.now.capture.now in
    let old = c.args.desk.now in
    let mid = c.take_plan.new.desk in
    let new = c.take_packets.new.desk in
    let plan = c.in-Ok.plan in
    let taken = c.in-Ok.ensures.taken in
    let at = c.in-Err-take_packets.ensures.ends in
    record {
      plan = taken.bytes;
      capture = at.bytes;
      gave_plan = taken.whole;
      gave_capture = rw c.take_plan.ensures.held at at.gave;
      at = inr (
        (taken.few, (settings_of plan, taken.has)),
        stops_later c.in-Err-take_packets.ending role.Capture name at.bytes
            (g.D.Desk.faults old) (g.D.Desk.faults mid) (g.D.Desk.faults new)
            (g.D.Desk.asked new) c.take_plan.ensures.later at.stops,
      );
    }

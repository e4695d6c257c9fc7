use Rattle.steer_top.specs.declared.ending.Role.TheVariants as role
use Rattle.steer_top.proofs.Commands.{stops_unread}
use Rattle.steer_top.proofs.file.take_plan.Goals as goal

pub returns-in-Err-clause-ends : goal.returns-in-Err-clause-ends
returns-in-Err-clause-ends g c =
    let old = c.args.desk.now in
    let new = c.read_file.new.desk in
    let name = c.args.name.now in
    stops_unread c.in-Err.ending role.Plan name (g.D.Desk.held old name) (g.D.Desk.faults old)
    (g.D.Desk.faults new) (g.D.Desk.asked new) c.in-Err.ensures.unread

use Rattle.steer_top.specs.declared.ending.Role.TheVariants as role
use Rattle.steer_top.proofs.Commands.{stops_all_unread}
use Rattle.steer_top.proofs.file.take_report.Goals as goal

pub returns-clause-ends : goal.returns-clause-ends
returns-clause-ends g c =
    let old = c.args.desk.now in
    let new = c.read_file.new.desk in
    let name = c.args.name.now in
    stops_all_unread c.read_file.result role.Report name (g.D.Desk.held old name)
    (g.D.Desk.faults old) (g.D.Desk.faults new) (g.D.Desk.asked new) c.read_file.ensures.unread

use Rattle.workers.proofs.Names.{ap, refl}
use Rattle.workers.proofs.StartLemmas.{is_start}
use Rattle.workers.proofs.start.Run.make.Goals as goal

pub returns : goal.returns
returns c =
    let b = c.in_ok-boards in
    let seats = c.in_ok-workers.field-0 in
    let a = c.in_ok-rings in
    let s = c.in_ok-stage_of.ensures in
    let w = c.in_ok-wire_of.ensures in
    let o = c.in_ok-make.ensures in
    is_start c.args.plan.now c.args.packets.now c.args.cut b.boards b.seats seats a.rings.items
    a.actors c.in_ok-crew_of.field-0.items b.ensures.boards b.ensures.seats
    c.in_ok-workers.ensures a.ensures.first a.ensures.rings c.in_ok-crew_of.ensures
    c.crews_begin.ensures _ s.rx s.tx s.shared s.late refl refl
    (ap (λ rings. rings.items) w.rings) w.arrivals w.reta refl o.known o.commands

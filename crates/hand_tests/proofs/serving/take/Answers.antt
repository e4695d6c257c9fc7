use Rattle.hand_tests.proofs.serving.Clerks.{took}
use Rattle.hand_tests.proofs.serving.take.Goals as goal

pub invariant_of-office : goal.invariant_of-office
invariant_of-office c =
    let o = c.office.inside in
    took o.shared o.hint o.server o.receive o.receive_seat o.receive_closer o.transmit
    o.transmit_seat o.transmit_closer o.openings c.office.invariant c.take.new.self
    c.take.result c.take.new.seat c.take.new.hint c.take.ensures.takes c.take.ensures.is

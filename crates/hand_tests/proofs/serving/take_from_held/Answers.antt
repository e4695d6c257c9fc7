use Rattle.hand_tests.proofs.serving.Clerks.{given_back, took}
use Rattle.hand_tests.proofs.serving.take_from_held.Goals as goal

pub invariant_of-office : goal.invariant_of-office
invariant_of-office g c =
    let o = c.office.inside in
    let t = c.take-took.new in
    given_back o.shared t.hint t.self o.receive t.seat o.receive_closer o.transmit
    o.transmit_seat o.transmit_closer o.openings
    (took o.shared o.hint o.server o.receive o.receive_seat o.receive_closer o.transmit
    o.transmit_seat o.transmit_closer o.openings c.office.invariant t.self c.take-took.result
    t.seat t.hint c.take-took.ensures.takes c.take-took.ensures.is)
    o.server.app c.in-Ok.held c.try_hold.new.seat c.give_back.new.seat c.in-Ok.ensures.0
    c.give_back.ensures

use Rattle.run_workers.specs.Hands.Deltas.{no_lane}
use Rattle.hand_tests.proofs.serving.Clerks.{receive_opened, took}
use Rattle.hand_tests.proofs.hands.Closing.{made_closed}
use Rattle.hand_tests.proofs.serving.take_at_closed.Goals as goal

pub set_and_open-requires-clause-closed : goal.set_and_open-requires-clause-closed
set_and_open-requires-clause-closed g c =
    let o = c.office.inside in
    made_closed no_lane o.receive 3 o.receive.sizes (record { 0 = 0 }) o.receive_closer
    c.close_empty.new.seat c.in-None.ensures

pub invariant_of-office : goal.invariant_of-office
invariant_of-office g c =
    let o = c.office.inside in
    let t = c.take-took.new in
    receive_opened o.shared t.hint t.self o.receive t.seat o.receive_closer o.transmit
    o.transmit_seat o.transmit_closer o.openings
    (took o.shared o.hint o.server o.receive o.receive_seat o.receive_closer o.transmit
    o.transmit_seat o.transmit_closer o.openings c.office.invariant t.self c.take-took.result
    t.seat t.hint c.take-took.ensures.takes c.take-took.ensures.is)
    (record { 0 = 0 }) c.close_empty.new.seat c.set_and_open.new.seat 0 1 c.in-None.ensures
    c.set_and_open.ensures

use Rattle.run_workers.specs.Hands.Deltas.{no_lane}
use Rattle.hand_tests.proofs.serving.Clerks.{replied, transmit_opened}
use Rattle.hand_tests.proofs.hands.Closing.{made_closed}
use Rattle.hand_tests.proofs.serving.reply_at_closed.Goals as goal

pub set_and_open-requires-clause-closed : goal.set_and_open-requires-clause-closed
set_and_open-requires-clause-closed g c =
    let o = c.office.inside in
    made_closed no_lane o.transmit 1 o.transmit.sizes (record { 0 = 0 }) o.transmit_closer
    c.close_empty.new.seat c.in-None.ensures

pub invariant_of-office : goal.invariant_of-office
invariant_of-office g c =
    let o = c.office.inside in
    let t = c.reply-sent.new in
    let e = c.reply-sent.ensures in
    transmit_opened o.shared t.hint t.self o.receive o.receive_seat o.receive_closer o.transmit
    t.seat o.transmit_closer o.openings
    (replied o.shared o.hint o.server o.receive o.receive_seat o.receive_closer o.transmit
    o.transmit_seat o.transmit_closer o.openings c.office.invariant c.args.late.now t.self
    c.reply-sent.result t.seat t.hint e.replies e.is e.kept e.outside.0 e.outside.1)
    (record { 0 = 0 }) c.close_empty.new.seat c.set_and_open.new.seat 0 1 c.in-None.ensures
    c.set_and_open.ensures

use Rattle.hand_tests.proofs.serving.Clerks.{replied}
use Rattle.hand_tests.proofs.serving.reply.Goals as goal

pub invariant_of-office : goal.invariant_of-office
invariant_of-office g c =
    let o = c.office.inside in
    replied o.shared o.hint o.server o.receive o.receive_seat o.receive_closer o.transmit
    o.transmit_seat o.transmit_closer o.openings c.office.invariant c.args.late.now
    c.reply.new.self c.reply.result c.reply.new.seat c.reply.new.hint c.reply.ensures.replies
    c.reply.ensures.is c.reply.ensures.kept c.reply.ensures.outside.0 c.reply.ensures.outside.1

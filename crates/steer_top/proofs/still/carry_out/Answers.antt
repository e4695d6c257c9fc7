use Rattle.steer_top.specs.Commands.{words_of}
use Rattle.steer_top.proofs.Commands.{ends_flushed}
use Rattle.steer_top.proofs.still.carry_out.Goals as goal

pub returns-in-Some-clause-ends : goal.returns-in-Some-clause-ends
returns-in-Some-clause-ends g c =
    let out = c.args.out.now in
    rw (← c.in-Some.ensures)
    (ends_flushed (words_of c.in-Some.command) _ (g.K.Sink.faults c.flush.new.out)
    (g.K.Sink.written c.flush.new.out) (g.K.Sink.unsent c.flush.new.out)
    c.perform-ending.result c.flush.result c.perform-ending.ensures.out_later
    c.perform-ending.ensures.ends c.flush.ensures)

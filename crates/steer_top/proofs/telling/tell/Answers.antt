use Rattle.steer_top.specs.Endings.{line_of}
use Rattle.steer_top.proofs.Tellings.{Told-kept}
use Rattle.steer_top.proofs.telling.tell.Goals as goal

pub returns-clause-line : goal.returns-clause-line
returns-clause-line g c =
    Told-kept (g.E.Sink.faults c.args.err.now) _ _ (g.E.Sink.written c.args.err.now) _ _
    (line_of c.args.ending.now) c.tell_ending.ensures c.flush.ensures.later c.flush.ensures.kept

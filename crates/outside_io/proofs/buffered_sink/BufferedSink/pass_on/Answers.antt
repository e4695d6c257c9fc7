use Rattle.outside_io.proofs.Pieces.{Keeps-next}
use Rattle.outside_io.proofs.buffered_sink.BufferedSink.pass_on.Goals as goal

pub loop-self-preserved : goal.loop-self-preserved
loop-self-preserved g c =
    let bytes = c.loop-self.self.buffer.items in
    let seen = c.deref.result.now in
    let done = c.loop-self.self.passed in
    record {
      written = Keeps-next _ _ _ bytes seen done c.in-Bytes.count c.deref.ensures.value
          c.loop-self.invariant.written c.in-Bytes.ensures.written.2;
      unsent = Keeps-next _ _ _ bytes seen done c.in-Bytes.count c.deref.ensures.value
          c.loop-self.invariant.unsent c.in-Bytes.ensures.unsent.2;
      closed = c.loop-self.invariant.closed;
      faults = c.loop-self.invariant.faults;
    }

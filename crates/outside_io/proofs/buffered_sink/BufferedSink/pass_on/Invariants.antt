use Rattle.std.proofs.Common.{◌≡◌, ◌-◌, vec_len}
use Rattle.std.specs.Io.KnownBytes.{Keeps}
use Rattle.outside_io.specs.BufferedSink.{and_held_back, buffered_sink_faults, is_closed}
use Rattle.outside_io.proofs.buffered_sink.BufferedSink.pass_on.Given as goal

-- what is observed with the bytes held back stays
abbrev pub invariant-loop-self : goal.invariant-loop-self
invariant-loop-self g l = record {
  written : Keeps (and_held_back g.K.Sink.written l.initial.self)
      (and_held_back g.K.Sink.written l.self);
  unsent : Keeps (and_held_back g.K.Sink.unsent l.initial.self)
      (and_held_back g.K.Sink.unsent l.self);
  closed : is_closed l.self ≡ is_closed l.initial.self;
  faults : buffered_sink_faults l.self ≡ buffered_sink_faults l.initial.self;
}

abbrev pub decreases-loop-self : goal.decreases-loop-self
decreases-loop-self g l = vec_len l.self.buffer - l.self.passed

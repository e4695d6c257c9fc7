use Rattle.std.proofs.Common.{◌≡◌}
use Rattle.cap_gen.specs.Packets.{frames_of}
use Rattle.cap_gen.proofs.Words.{generator_at}
use Rattle.cap_gen.proofs.frames.generate_frames.Given as goal

-- the sink has taken the frames before this one
abbrev pub invariant-loop-i : goal.invariant-loop-i
invariant-loop-i g l = (l.words ≡ generator_at l.seed l.i)
    × g.F.FrameSink.takes l.initial.sink (frames_of l.seed l.flows l.i) l.sink

use Rattle.std.proofs.Common.{arith, subst, sym}
use Rattle.cap_gen.specs.Packets.{frames_of}
use Rattle.cap_gen.proofs.Captures.{frames-many, frames-more}
use Rattle.cap_gen.proofs.Words.{generator_at-new, generator_at-more, word_at}
use Rattle.cap_gen.proofs.frames.generate_frames.Goals as goal

pub loop-i-init : goal.loop-i-init
loop-i-init g c = (generator_at-new c.args.seed _ c.new-words.ensures, c.requires.began)

pub take-requires-clause-room : goal.take-requires-clause-room
take-requires-clause-room g c = (
  c.args.sink.now,
  frames_of c.args.seed c.args.flows c.loop-i.i,
  c.loop-i.invariant.1,
  omega (
    arith,
    frames-many c.args.seed c.args.flows c.loop-i.i,
    c.loop-i-test.true,
    c.requires.few_packets,
  ),
)

pub loop-i-preserved : goal.loop-i-preserved
loop-i-preserved g c =
    let seed = c.args.seed in
    let flows = c.args.flows in
    let i = c.loop-i.i in
    let step = c.next_word.ensures in
    let word = word_at seed i _ _ _ step c.loop-i.invariant.0 in
    let more = frames-more seed flows i _ _ _ word c.remainder-flow.ensures c.frame_of.ensures in (
      generator_at-more seed i _ _ _ step c.loop-i.invariant.0,
      subst (λ frames. g.F.FrameSink.takes c.args.sink.now frames c.take.new.self) (sym more)
          (c.in_ok-take.ensures c.args.sink.now (frames_of seed flows i) c.loop-i.invariant.1),
    )

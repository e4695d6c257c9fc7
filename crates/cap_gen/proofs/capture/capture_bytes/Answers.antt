use Rattle.std.proofs.Common.{sym, ◌∙◌}
use Rattle.cap_gen.proofs.Captures.{one_more}
use Rattle.cap_gen.proofs.Words.{generator_at-new, generator_at-more, word_at}
use Rattle.cap_gen.proofs.capture.capture_bytes.Goals as goal

pub loop-i-init : goal.loop-i-init
loop-i-init c = (
  generator_at-new c.args.seed _ c.new-words.ensures,
  (rw c.in_ok-bytes.ensures.items at c.in_ok-put_header.ensures.ok)
      ∙ sym c.captures_read_back.ensures.header,
)

pub loop-i-preserved : goal.loop-i-preserved
loop-i-preserved c =
    let step = c.next_word-word.ensures in
    let word = word_at c.args.seed c.loop-i.i _ _ _ step c.loop-i.invariant.0 in (
      generator_at-more c.args.seed c.loop-i.i _ _ _ step c.loop-i.invariant.0,
      one_more c.args.seed c.args.flows c.loop-i.i _ _ _ _ c.captures_read_back.ensures.packet
          c.loop-i.invariant.1 word
          c.frame_of.ensures c.in_ok-put_packet.ensures.ok,
    )

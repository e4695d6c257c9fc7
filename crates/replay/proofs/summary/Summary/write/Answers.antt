use Rattle.replay.proofs.WrittenLemmas.{part_next}
use Rattle.replay.proofs.summary.Summary.write.Goals as goal

pub returns-clause-part : goal.returns-clause-part
returns-clause-part g c =
    let before = g.K.Sink.written c.args.out.now in
    let between = g.K.Sink.written c.write.new.out in
    let after = g.K.Sink.written c.write-2.new.out in
    let first = rw c.push_input.ensures at c.in_ok-write.ensures.whole in
    let second = rw c.push_counts.ensures at c.write-2.ensures.part in
    part_next c.write-2.result before between after _ _ first second

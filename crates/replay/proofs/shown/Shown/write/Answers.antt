use Rattle.replay.proofs.WrittenLemmas.{part_of_shown}
use Rattle.replay.proofs.shown.Shown.write.Goals as goal

pub returns-clause-part : goal.returns-clause-part
returns-clause-part g c =
    let before = g.K.Sink.written c.args.out.now in
    let after = g.K.Sink.written c.render.new.out in
    let is = c.self.inside in
    part_of_shown c.render.result before after is.history.now is.lines is.texts.items _ _
    c.deref.ensures.value c.self.view_is c.render.ensures.part

use Rattle.steer_invariant.proofs.Recorded.CommandLemmas.{text-answer}
use Rattle.steer_core.proofs.actors.Actors.give.Goals as goal

pub list-requires-clause-text : goal.list-requires-clause-text
list-requires-clause-text c = rw c.answer_to-answer.ensures.answer
    (text-answer c.args.self.now.machine c.args.command)

use Rattle.std.proofs.Common.{◌∙◌}
use Rattle.good_check.proofs.RepliesLemmas.{queue-among}
use Rattle.good_check.proofs.replies.Sender.queue_of.Goals as goal

pub returns : goal.returns
returns c =
    let sender = c.args.self.now in
    c.queue_at.ensures
    ∙ queue-among sender.h.now.arrivals sender.queues.now c.args.id sender.are_queues

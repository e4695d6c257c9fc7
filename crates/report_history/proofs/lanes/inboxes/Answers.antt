use Rattle.std.proofs.Common.{arith}
use Rattle.history.specs.Lists.{list_at}
use Rattle.report_history.proofs.LoopsLemmas.{same-by-number}
use Rattle.report_history.proofs.lanes.inboxes.Goals as goal

pub returns : goal.returns
returns c = λ lists s.
    same-by-number c.in_ok-lists.lists.items lists c.args.apps c.in_ok-lists.ensures.lists s.long
    (λ n k. c.in_ok-lists.ensures.each n (list_at lists n) (omega (arith, k, s.long))
    (s.each n k))

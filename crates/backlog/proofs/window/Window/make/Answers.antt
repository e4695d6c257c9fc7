use Rattle.backlog.proofs.WindowLemmas.{IsWindow-empty}
use Rattle.backlog.proofs.window.Window.make.Goals as goal

pub invariant_of-result : goal.invariant_of-result
invariant_of-result c =
    rw c.in_ok-last.ensures (IsWindow-empty c.in_ok-counts.counts.items c.in_ok-counts.ensures)

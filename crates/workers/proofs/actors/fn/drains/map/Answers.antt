use Rattle.workers.proofs.DrainLemmas.{first_by_new}
use Rattle.workers.proofs.actors.fn.drains.map.Goals as goal

pub returns : goal.returns
returns c =
    first_by_new _ _ _ _ c.new.ensures.lane c.new.ensures.exit c.new.ensures.start
    c.new.ensures.is

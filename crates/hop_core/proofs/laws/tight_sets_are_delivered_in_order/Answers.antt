use Rattle.hop_model.specs.Events.{run}
use Rattle.hop_model.specs.Shape.{new_hop}
use Rattle.hop_core.proofs.New.{Sound-new, Ordered-new}
use Rattle.hop_core.proofs.Order.{Ordered-run, InOrder-from}
use Rattle.hop_core.proofs.laws.tight_sets_are_delivered_in_order.Goals as goal

pub returns : goal.returns
returns c = λ shape es set p o is may tight. InOrder-from set p o (run es (new_hop shape))
    (Ordered-run set p o es (new_hop shape) may tight (Sound-new shape is)
    (Ordered-new shape set p o))

-- A history of which the laws hold is as it should be, and so that of every replay.
use Rattle.std.proofs.Common.{length}
use Rattle.history.specs.declared.history.History.{History}
use Rattle.steer_properties.specs.Histories.Always.{Always}
use Rattle.steer_properties.specs.Choices.Clear.{NothingIsOutstanding}
use Rattle.steer_properties.specs.Choices.ByTheRule.{AreChosen, AreReplied}
use Rattle.steer_properties.specs.Delivery.DeliveryLaws.{DeliversInOrder, ReplaysDeliverInOrder}
use Rattle.steer_properties.specs.Delivery.DeliveryLaws.{RunsDeliverInOrder}
use Rattle.steer_model.specs.Good.Inputs.{Input}
use Rattle.steer_model.specs.State.Machine.{history_of}
use Rattle.steer_model.specs.State.Start.{new_machine, replayed}
use Rattle.steer_model.specs.Steps.CompoundSteps.{after}
use Rattle.headline.specs.Headline.{IsRight}
use Rattle.headline.proofs.Places.{stands-at_one}
use Rattle.headline.proofs.Rules.{dropped-for, processors-chosen, queues-picked}

pub right-of : (i : Input) (h : History) → AreChosen i h → AreReplied i h → NothingIsOutstanding h
    → DeliversInOrder i h → IsRight i h
right-of i h chosen replied clear delivers =
    let steered = delivers.steered in
    record {
      once = steered.places;
      places = λ x has. stands-at_one i.packets (length i.plan.apps) h steered.regular
          steered.places x;
      drops = dropped-for i h delivers.drops;
      drops_rise = delivers.drops.counts;
      inboxes = steered.order;
      port = delivers.leave.end_to_end;
      at = chosen.at;
      processors = processors-chosen i h chosen;
      tx_at = replied.at;
      queues = queues-picked i h replied;
      clear = clear;
    }

pub replays-right : Always AreChosen → Always AreReplied
    → Always (λ i h. NothingIsOutstanding h) → RunsDeliverInOrder → ReplaysDeliverInOrder
    → Always IsRight
replays-right chosen replied clear runs replays =
    record {
      runs = λ i ss may named. right-of i
          (history_of (after ss (new_machine i.plan i.packets i.cut)))
          (chosen.runs i ss may named) (replied.runs i ss may named) (clear.runs i ss may named)
          (runs i ss may named);
      replays = λ i may. right-of i (replayed i.plan i.packets i.cut) (chosen.replays i may)
          (replied.replays i may) (clear.replays i may) (replays i may);
    }

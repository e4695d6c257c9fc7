use Rattle.steer_properties.proofs.Delivery.DeliveryLemmas.{replays_deliver, runs_deliver}
use Rattle.steer_properties.proofs.delivery_laws.every_replay_delivers_in_order.Goals as goal

pub returns : goal.returns
returns c = record { runs = runs_deliver; replays = replays_deliver }

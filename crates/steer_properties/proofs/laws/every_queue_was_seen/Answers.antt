use Rattle.steer_properties.proofs.Histories.HistoryInvariant.{queues_always_seen}
use Rattle.steer_properties.proofs.laws.every_queue_was_seen.Goals as goal

pub returns : goal.returns
returns c = queues_always_seen

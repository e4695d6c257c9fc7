use Rattle.steer_properties.proofs.Histories.HistoryInvariant.{writes_always_made}
use Rattle.steer_properties.proofs.laws.every_write_is_of_a_packet.Goals as goal

pub returns : goal.returns
returns c = writes_always_made

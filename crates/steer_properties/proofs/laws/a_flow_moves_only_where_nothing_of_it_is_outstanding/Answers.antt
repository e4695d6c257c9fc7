use Rattle.steer_properties.proofs.Histories.HistoryInvariant.{moves_always_clear}
use Rattle.steer_properties.proofs.laws.a_flow_moves_only_where_nothing_of_it_is_outstanding.Goals
    as goal

pub returns : goal.returns
returns c = moves_always_clear

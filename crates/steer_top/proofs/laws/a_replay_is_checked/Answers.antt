use Rattle.steer_top.proofs.CheckedReplays.{replays_are_checked}
use Rattle.steer_top.proofs.laws.a_replay_is_checked.Goals as goal

pub returns : goal.returns
returns c =
    replays_are_checked c.replays_are_judged.ensures.judged
    c.a_capture_has_one_list_of_packets.ensures c.packets_are_of_flows.ensures

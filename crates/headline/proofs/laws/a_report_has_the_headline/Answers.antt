use Rattle.headline.proofs.Reports.{headline-of}
use Rattle.headline.proofs.laws.a_report_has_the_headline.Goals as goal

pub returns : goal.returns
returns c =
    headline-of c.every_replay_is_right.ensures c.every_replay_can_be_reported.ensures.replays
    c.every_replay_is_of_its_run.ensures c.a_report_has_one_history.ensures
    c.a_capture_has_one_list_of_packets.ensures

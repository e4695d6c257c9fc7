use Rattle.headline.proofs.Reports.{headlines-of-runs}
use Rattle.headline.proofs.laws.a_headline_is_of_the_run.Goals as goal

pub returns : goal.returns
returns c =
    headlines-of-runs c.every_replay_is_of_its_run.ensures
    c.a_capture_has_one_list_of_packets.ensures

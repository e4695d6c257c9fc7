use Rattle.headline.proofs.LiveReports.{live-headline-of}
use Rattle.headline.proofs.laws.a_run_report_has_the_headline.Goals as goal

pub returns : goal.returns
returns c =
    let good = c.good_histories_are_right.ensures in
    live-headline-of good.right good.whole c.a_report_has_one_history.ensures
    c.a_capture_has_one_list_of_packets.ensures c.packets_are_of_flows.ensures

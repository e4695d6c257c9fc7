use Rattle.headline.proofs.Rights.{replays-right}
use Rattle.headline.proofs.laws.every_replay_is_right.Goals as goal

pub returns : goal.returns
returns c =
    let orders = c.every_replay_delivers_in_order.ensures in
    replays-right c.every_choice_is_by_the_rule.ensures c.every_reply_is_by_the_rule.ensures
    c.a_flow_moves_only_where_nothing_of_it_is_outstanding.ensures orders.runs orders.replays

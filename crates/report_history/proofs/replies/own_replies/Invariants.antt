use Rattle.std.proofs.Common.{◌≡◌, ◌++◌, ◌≤◌, drop}
use Rattle.std.specs.List.{filter_map}
use Rattle.report_history.specs.Ahead.{AreAhead}
use Rattle.report_history.specs.Shown.{shown_sent, shown_tx_choice}
use Rattle.report_history.proofs.replies.own_replies.Given as goal

abbrev pub invariant-loop-x : goal.invariant-loop-x
invariant-loop-x l = record {
  near : l.first ≤ l.x;
  ahead : AreAhead l.seen l.packets l.ids l.first l.known l.ahead;
  sent : l.replies.items ++ filter_map (shown_sent l.seen) (drop l.x l.ids)
      ≡ filter_map (shown_sent l.seen) l.ids;
  choices : l.choices.items
      ++ filter_map (shown_tx_choice l.seen l.packets)
      (filter_map (shown_sent l.seen) (drop l.x l.ids))
      ≡ filter_map (shown_tx_choice l.seen l.packets) (filter_map (shown_sent l.seen) l.ids);
}

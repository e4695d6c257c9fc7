use Rattle.std.proofs.Common.{◌≡◌, ◌++◌, drop, map}
use Rattle.std.specs.List.{filter_map}
use Rattle.report_history.specs.Shown.{shown_sent, shown_tx_choice}
use Rattle.report_history.proofs.replies.all_replies.Given as goal

abbrev pub invariant-loop-inbox : goal.invariant-loop-inbox
invariant-loop-inbox l = record {
  sent : l.all_sent.items ++ map (filter_map (shown_sent l.seen)) (drop l.inbox-index l.inboxes)
      ≡ map (filter_map (shown_sent l.seen)) l.inboxes;
  tx_choices : l.all_choices.items
      ++ map (λ ids. filter_map (shown_tx_choice l.seen l.packets)
      (filter_map (shown_sent l.seen) ids)) (drop l.inbox-index l.inboxes)
      ≡ map (λ ids. filter_map (shown_tx_choice l.seen l.packets)
      (filter_map (shown_sent l.seen) ids)) l.inboxes;
}

use Rattle.std.proofs.Common.{◌≡◌, ◌<◌, ◌≤◌, ◌+◌, ◌-◌, ◌++◌, ◌∙◌, [], length}
use Rattle.std.proofs.Common.{ap, arith, drop, rules, sym}
use Rattle.std.proofs.lemmas.List.{drop_more, get_or_default}
use Rattle.std.specs.Prelude.{slice_index_or}
use Rattle.std.specs.List.{cons_option, filter_map}
use Rattle.history.specs.Lists.{packet_at}
use Rattle.report_history.specs.Ahead.{AreAhead}
use Rattle.report_history.specs.Shown.{choice_with, shown_sent, shown_tx_choice}
use Rattle.report_history.specs.declared.replies.Ahead.{Ahead}
use Rattle.report_history.proofs.AheadLemmas.{choice-first, found-ahead, one-picked}
use Rattle.report_history.proofs.replies.own_replies.Goals as goal

pub loop-x-preserved : goal.loop-x-preserved
loop-x-preserved c =
    let seen = c.args.seen.now in
    let packets = c.args.packets.now in
    let ids = c.args.ids.now in
    let x = c.loop-x.x in
    let first = c.if-x-first.first in
    let known = c.if-x-first.known in
    let id = slice_index_or ids x 0 in
    let picked = filter_map (shown_sent seen) (drop (x + 1) ids) in
    let here : x < length ids = search rules in
    let are : AreAhead seen packets ids first known c.if-x-first.ahead = search rules in
    let near : first ≤ x = search rules in
    let below : x - first < known = search rules in
    let found = λ (d : Ahead). found-ahead seen packets ids first known x c.if-x-first.ahead d are
    near below in
    let read = c.index-ahead-x-in-loop-x.result in
    let flow_read = (slice_index_or c.if-x-first.ahead (x - first) read).flow in
    let sent : c.index-ahead-x.result.sent ≡ shown_sent seen id =
    ap (λ a. a.sent) (c.index-ahead-x.is ∙ found _) in
    let flow : flow_read ≡ (packet_at packets id).flow_number = ap (λ a. a.flow) (found read) in
    let replies : c.match-sent.replies.items
    ≡ c.loop-x.replies.items ++ cons_option c.index-ahead-x.result.sent [] = search rules in
    let choices : c.match-choice.choices.items
    ≡ c.loop-x.choices.items ++ cons_option c.choice_with-choice.result [] = search rules in
    let at : c.index-ids-x.result ≡ id =
    c.index-ids-x.is ∙ get_or_default ids x c.index-ids-x.result 0 here in
    let choice : c.choice_with-choice.result
    ≡ choice_with seen (packet_at packets id).flow_number id =
    c.choice_with-choice.ensures ∙ ap (choice_with seen flow_read) at
    ∙ ap (λ n. choice_with seen n id) flow in
    let more = ap (filter_map (shown_sent seen)) (drop_more ids x 0 here) in
    record {
      near = omega (arith, near);
      ahead = are;
      sent = one-picked c.loop-x.replies.items c.match-sent.replies.items _ picked _ _
          (more ∙ ap (λ o. cons_option o picked) (sym sent)) c.loop-x.invariant.sent replies;
      choices = one-picked c.loop-x.choices.items c.match-choice.choices.items _ _ _ _
          (ap (filter_map (shown_tx_choice seen packets)) more ∙ choice-first seen packets id picked
          ∙ ap (λ o. cons_option o (filter_map (shown_tx_choice seen packets) picked))
          (sym choice)) c.loop-x.invariant.choices choices;
    }

use Rattle.std.proofs.Common.{◌∙◌, ap, map, refl, subst, subst₂, sym}
use Rattle.std.specs.List.{filter_map, range_with_len}
use Rattle.report_history.specs.Lists.{AreChoices, AreLanes, IsBacklog, IsTxQueue}
use Rattle.report_history.specs.Shown.{shown_sent, shown_tx_choice, own_write}
use Rattle.report_history.proofs.PickedLemmas.{map-map}
use Rattle.report_history.proofs.printed.built.Goals as goal

pub returns-clause-history : goal.returns-clause-history
returns-clause-history c =
    let seen = c.args.seen.now in
    let start = c.args.start in
    record {
      arrivals = c.from_vec.ensures ∙ c.in_ok-arrivals.ensures;
      taken = c.from_vec-2.ensures;
      choices = λ lists a. c.from_vec-3.ensures ∙ c.in_ok-choices.ensures lists
          (subst₂ (λ way n. AreChoices seen way n lists)
          (c.from_vec.ensures ∙ sym c.deref.ensures.value)
          (sym (c.len.ensures ∙ c.args.parts.taken.ok.0)) a);
      lanes = λ lanes a. c.from_vec-4.ensures ∙ c.in_ok-lanes.ensures lanes
          (subst (λ sums. AreLanes (IsBacklog start seen) sums lanes)
          (sym c.deref-3.ensures.value) a);
      inboxes = λ lists a. c.from_vec-5.ensures ∙ c.in_ok-inboxes.ensures lists a;
      sent = c.from_vec-6.ensures ∙ c.in_ok-sent.ensures.sent
          ∙ ap (map (filter_map (shown_sent seen)))
          (c.deref-2.ensures.value ∙ sym c.from_vec-5.ensures);
      tx_choices = c.from_vec-7.ensures ∙ c.in_ok-sent.ensures.tx_choices
          ∙ sym (map-map (filter_map (shown_sent seen))
          (filter_map (shown_tx_choice seen c.args.packets.now)) c.deref-2.result.now)
          ∙ ap (map (filter_map (shown_tx_choice seen c.args.packets.now)))
          (sym (c.from_vec-6.ensures ∙ c.in_ok-sent.ensures.sent));
      tx_lanes = λ lanes a. c.from_vec-8.ensures ∙ c.in_ok-tx_lanes.ensures lanes
          (subst (λ sums. AreLanes (IsTxQueue start seen) sums lanes)
          (sym c.deref-4.ensures.value) a);
      port = λ list a. c.from_vec-9.ensures ∙ c.in_ok-shelf.ensures list a;
      writes = c.from_vec-10.ensures ∙ c.in_ok-all_writes.ensures
          ∙ ap (λ ws. map (λ a. filter_map (own_write a) ws) (range_with_len 0 c.args.apps))
          c.deref-5.ensures.value;
      commands = c.from_vec-11.ensures;
      total = refl;
      cut = refl;
      starts = refl;
    }

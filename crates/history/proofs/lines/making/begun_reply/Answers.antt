use Rattle.std.proofs.Common.{◌≡◌, Some, sym, ◌∙◌, ap, get_or}
use Rattle.std.specs.Prelude.{slice_get}
use Rattle.std.specs.Option.{option_and_then, option_map}
use Rattle.steer_base.specs.Apps.{app_of}
use Rattle.steer_base.specs.declared.packet.Packet.{Packet}
use Rattle.history.specs.InOrder.{begun_of}
use Rattle.history.specs.Lines.{first_reply_to, line_of_sent, tx_choice_of}
use Rattle.history.specs.Lists.{app_at, list_at}
use Rattle.history.specs.Slots.{index_before}
use Rattle.history.proofs.RegularLemmas.{packet-at}
use Rattle.history.proofs.SlotLemmas.{no-reply, reply-from, tx_choice-at}
use Rattle.history.proofs.lines.making.begun_reply.Goals as goal

pub returns-in_err-index : goal.returns-in_err-index
returns-in_err-index c =
    let packets = c.args.packets.now in
    let h = c.args.h.now in
    let x = c.args.id in
    let inbox = c.get.ensures ∙ c.requires.slots.inboxes.slot x c.requires.arrived in
    let index = c.index_of.ensures ∙ ap (option_and_then index_before) inbox in
    let none = no-reply packets c.args.apps h c.requires.regular x
    (sym index ∙ c.in_err-index.was) in
    c.from_residual.ensures
    ∙ sym (ap (λ o. option_map begun_of (option_map (line_of_sent packets c.args.apps h x) o)) none)

pub returns-in_err-sent : goal.returns-in_err-sent
returns-in_err-sent c =
    let packets = c.args.packets.now in
    let apps = c.args.apps in
    let h = c.args.h.now in
    let x = c.args.id in
    let r = c.in_ok-index.index in
    let inbox = c.get.ensures ∙ c.requires.slots.inboxes.slot x c.requires.arrived in
    let index = c.index_of.ensures ∙ ap (option_and_then index_before) inbox in
    let packet = packet-at packets apps h c.requires.regular x c.index-packets-id.result
    c.requires.arrived
    (c.index-packets-id.is
    ∙ ap (λ i. get_or packets i c.index-packets-id.result) c.id.view_is) in
    let app = c.app.view_is ∙ c.app_of.ensures.value
    ∙ ap (λ (p : Packet). app_of p.hash apps) packet in
    let reply = reply-from packets apps h c.requires.regular x r (sym index ∙ c.in_ok-index.was) in
    let none = reply ∙ sym (ap (λ a. slice_get (list_at h.sent a) r) app) ∙ sym c.sent_at.ensures
    ∙ c.in_err-sent.was in
    c.from_residual-in_err-sent.ensures
    ∙ sym (ap (λ o. option_map begun_of (option_map (line_of_sent packets apps h x) o)) none)

pub returns : goal.returns
returns c =
    let packets = c.args.packets.now in
    let apps = c.args.apps in
    let h = c.args.h.now in
    let x = c.args.id in
    let here = c.requires.arrived in
    let slots = c.requires.slots in
    let r = c.in_ok-index.index in
    let inbox = c.get.ensures ∙ slots.inboxes.slot x here in
    let index = c.index_of.ensures ∙ ap (option_and_then index_before) inbox in
    let is = sym index ∙ c.in_ok-index.was in
    let packet = packet-at packets apps h c.requires.regular x c.index-packets-id.result here
    (c.index-packets-id.is
    ∙ ap (λ i. get_or packets i c.index-packets-id.result) c.id.view_is) in
    let app : c.app_of.result ≡ app_at packets apps x = c.app_of.ensures.value
    ∙ ap (λ (p : Packet). app_of p.hash apps) packet in
    let reply : first_reply_to h x ≡ Some c.in_ok-sent.sent =
    reply-from packets apps h c.requires.regular x r is
    ∙ sym (ap (λ a. slice_get (list_at h.sent a) r) (c.app.view_is ∙ app)) ∙ sym c.sent_at.ensures
    ∙ c.in_ok-sent.was in
    let choice : c.choice_at.result ≡ tx_choice_of h x = c.choice_at.ensures
    ∙ ap (λ a. option_map (λ d. d.choice) (slice_get (list_at h.tx_choices a) r))
    (c.app.view_is ∙ app)
    ∙ sym (tx_choice-at packets apps h c.requires.regular x r is) in
    (λ w. Some (record {
      rxq = c.in_ok-sent.sent.rxq;
      cpu = c.in_ok-sent.sent.cpu;
      choice = choice w;
    }))
    ∙ sym (ap (λ o. option_map begun_of (option_map (line_of_sent packets apps h x) o)) reply)

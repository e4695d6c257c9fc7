use Rattle.std.proofs.Common.{◌≡◌, sym, ◌∙◌, ap, get_or}
use Rattle.std.specs.Prelude.{nat_lt, slice_get, slice_index}
use Rattle.std.specs.Option.{option_map, option_or}
use Rattle.std.proofs.lemmas.List.{get_or_default}
use Rattle.steer_base.specs.Apps.{app_of}
use Rattle.steer_base.specs.Counters.{number}
use Rattle.steer_base.specs.declared.packet.Packet.{Packet}
use Rattle.steer_base.specs.declared.put.Put.TheVariants.{At}
use Rattle.history.specs.Lines.{accepted_place, choice_of, inbox_place_of, put_of, via_of}
use Rattle.history.specs.Lists.{arrival_of, app_at, list_at, no_arrival}
use Rattle.history.specs.Places.{place_of, was_taken}
use Rattle.history.proofs.PlaceLemmas.{place-by}
use Rattle.history.proofs.RegularLemmas.{arrival-at, packet-at}
use Rattle.history.proofs.SlotLemmas.{choice-at, taken-at}
use Rattle.history.proofs.lines.making.packet_line.Goals as goal

pub returns : goal.returns
returns c =
    let x = c.args.id in
    let h = c.args.h.now in
    let packets = c.args.packets.now in
    let apps = c.args.apps in
    let rank = c.args.rank in
    let regular = c.requires.regular in
    let slots = c.requires.slots in
    let here = c.requires.arrived in
    let arrival : c.get-arrival.result.now ≡ arrival_of h.arrivals x =
    c.get-arrival.ensures ∙ ap (λ i. get_or h.arrivals i c.get-arrival.result.now) c.id.view_is
    ∙ get_or_default h.arrivals x c.get-arrival.result.now no_arrival here
    ∙ sym (arrival-at x h.arrivals regular.arrived.numbered here) in
    let queue = ap (λ a. a.queue) (c.arrival.view_is ∙ arrival) in
    let via : c.via_of.result ≡ via_of (arrival_of h.arrivals x) = c.via_of.ensures
    ∙ ap via_of arrival in
    let choice : c.choice_at-choice.result ≡ choice_of h x = c.choice_at-choice.ensures
    ∙ ap (λ q. option_map (λ d. d.choice) (slice_get (list_at h.choices q) rank)) queue
    ∙ ap (λ r. option_map (λ d. d.choice)
    (slice_get (list_at h.choices (arrival_of h.arrivals x).queue) r)) c.requires.rank
    ∙ sym (choice-at packets apps h regular x here) in
    let taken : c.is_taken-taken.result ≡ was_taken h x = c.is_taken-taken.ensures
    ∙ ap (λ q. nat_lt rank (slice_index h.taken q)) queue
    ∙ ap (λ r. nat_lt r (slice_index h.taken (arrival_of h.arrivals x).queue)) c.requires.rank
    ∙ taken-at packets apps h regular x here in
    let accepted = c.get.ensures ∙ slots.accepted.slot x here in
    let drop = c.get-2.ensures ∙ slots.drops x here in
    let put : c.put_of.result ≡ put_of h x =
    c.put_of.ensures ∙ ap (λ o. option_or (option_map (λ n. At n) (option_map (number h.start) o))
    c.get-2.result) accepted
    ∙ ap (λ o. option_or (option_map (λ n. At n) (option_map (number h.start)
    (accepted_place h.lanes x))) o) drop in
    let packet = packet-at packets apps h regular x c.index-packets-id.result here
    (c.index-packets-id.is
    ∙ ap (λ i. get_or packets i c.index-packets-id.result) c.id.view_is) in
    let app : c.app_of-app.result ≡ app_at packets apps x = c.app_of-app.ensures.value
    ∙ ap (λ (p : Packet). app_of p.hash apps) packet in
    let inbox : c.get-3.result ≡ inbox_place_of h x = c.get-3.ensures ∙ slots.inboxes.slot x here in
    let place : c.place_of.result ≡ place_of h x = c.place_of.ensures
    ∙ place-by packets apps h regular x c.args.lane c.app_of-app.result
    c.is_taken-taken.result c.requires.lane app taken in
    λ w. record {
      id = x;
      queue = (arrival w).queue;
      via = via w;
      choice = choice w;
      put = put w;
      app = app w;
      inbox = inbox w;
      place = place w;
      flow_number = ap (λ (p : Packet). p.flow_number) packet w;
    }

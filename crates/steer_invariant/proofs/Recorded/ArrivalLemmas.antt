-- An arrival keeps what the machine's lists say of each other.
use Rattle.std.proofs.Common.{ℕ, ◌<◌, ◌≡◌, List, [], ◌∷◌, ◌++◌, Option, map, length, refl, ap, ◌∙◌}
use Rattle.std.proofs.Common.{sym, arith, get_or}
use Rattle.std.specs.Prelude.{nat_lt}
use Rattle.std.proofs.Math.ListN.{length-map}
use Rattle.std.proofs.lemmas.List.{get_or-map}
use Rattle.std.proofs.lemmas.List.Elements.{All-push}
use Rattle.steer_base.specs.Arrivals.{IsRoute}
use Rattle.steer_base.specs.declared.command.Answer.TheVariants as says
use Rattle.steer_base.specs.declared.idle.Idle.TheVariants as idle
use Rattle.steer_base.specs.declared.packet.Packet.{Packet}
use Rattle.hop_model.specs.Hop.{out_at}
use Rattle.rss_table.specs.Redirection.{queue_of}
use Rattle.history.specs.Finding.{is_in}
use Rattle.history.specs.Lists.{list_at, packet_at}
use Rattle.history.specs.Regular.{route_of}
use Rattle.history.specs.declared.arrival.Arrival.{Arrival}
use Rattle.history.specs.declared.sent.Sent.{Sent}
use Rattle.history.proofs.BoundLemmas.{in-index}
use Rattle.history.proofs.RegularLemmas.{arrived-inbox, is_in-prefix}
use Rattle.steer_model.specs.State.Machine.{Machine, history_of}
use Rattle.steer_model.specs.Steps.Outcomes.{idle_step}
use Rattle.steer_model.specs.Steps.Pollers.{arrive, arrives, filter_seen}
use Rattle.steer_model.specs.State.Setup.{packet_hash}
use Rattle.steer_invariant.specs.StepInvariant.{StepInvariant}
use Rattle.steer_invariant.specs.RecordedLists.{IsRecorded, KeepQueues}
use Rattle.steer_invariant.proofs.EitherLemmas.{either}
use Rattle.steer_invariant.proofs.StepInvariant.ArrivalLemmas.{arrival-stays, next_arrival}
use Rattle.steer_invariant.proofs.RegularLemmas.{Regular-of}

-- a packet that is replied to has arrived
pub sent-arrived : (m : Machine) (a j : ℕ) (d : Sent) → StepInvariant m → IsRecorded m
    → j < length (list_at m.sent a) → (get_or (list_at m.sent a) j d).id < length m.arrivals
sent-arrived m a j d k r lt =
    let x : ℕ = (get_or (list_at m.sent a) j d).id in
    let ids : List ℕ = map (λ s. s.id) (list_at m.sent a) in
    let long : length ids ≡ length (list_at m.sent a) = length-map (list_at m.sent a) (λ s. s.id) in
    let is : get_or ids j 0 ≡ x = get_or-map (λ s. s.id) (list_at m.sent a) j d 0 lt in
    arrived-inbox m.setup.packets m.setup.apps (history_of m) (Regular-of m k r) a x
    (is_in-prefix x ids (out_at m.rx.bare a) (k.replied.first a)
    (ap (λ y. is_in y ids) (sym is) ∙ in-index ids j (omega (arith, lt, long))))

queues-stay : (m : Machine) (a : Arrival) → a.id ≡ length m.arrivals → StepInvariant m
    → IsRecorded m
    → KeepQueues (m.arrivals ++ a ∷ []) (list_at m.sent)
queues-stay m a is k r b j d lt =
    let x : ℕ = (get_or (list_at m.sent b) j d).id in
    r.queues b j d lt
    ∙ ap (λ c. c.queue)
    (sym (arrival-stays m.arrivals a x is k.came.numbered (sent-arrived m b j d k r lt)))

pub recorded-arrives : (m : Machine) → StepInvariant m → IsRecorded m
    → IsRecorded (arrives m (next_arrival m))
recorded-arrives m k r =
    let hash : Option ℕ = packet_hash m.setup (length m.arrivals) in
    let packets : List Packet = m.setup.packets in
    let entry : ℕ = queue_of m.settings.reta hash in
    assumption (
      All-push (λ b. IsRoute (packet_at packets b.id).hash (route_of b)) m.arrivals
          (next_arrival m) r.routed (filter_seen m.filters hash, entry, refl),
      queues-stay m (next_arrival m) refl k r,
    )

pub recorded-arrive : (m : Machine) → StepInvariant m → IsRecorded m → IsRecorded (arrive m).0
recorded-arrive m k r =
    either (λ o. IsRecorded o.0) (nat_lt (length m.arrivals) (length m.setup.packets))
    (arrives m (next_arrival m), says.Done) (idle_step m idle.NothingLeft)
    (λ _. recorded-arrives m k r) (λ _. r)

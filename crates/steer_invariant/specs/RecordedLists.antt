-- What the machine's lists say of each other after any steps, beyond what its steps rest on: with
-- that its history is regular.
use Rattle.std.specs.Prelude.{ℕ, ◌≡◌, true, List, Some, IsSome}
use Rattle.std.specs.List.{All}
use Rattle.steer_base.specs.Arrivals.{IsRoute}
use Rattle.steer_base.specs.declared.choice.Chosen.{Chosen}
use Rattle.steer_base.specs.declared.packet.Packet.{Packet}
use Rattle.hop_model.specs.Hop.{choices_of, out_at}
use Rattle.history.specs.Lists.{app_at, arrival_of, list_at, packet_at}
use Rattle.history.specs.Regular.{has_text, route_of}
use Rattle.history.specs.declared.arrival.Arrival.{Arrival}
use Rattle.history.specs.declared.commanded.Commanded.{Commanded}
use Rattle.history.specs.declared.sent.Sent.{Sent}
use Rattle.steer_model.specs.State.Machine.{Machine}

-- Each arrival is at the queue to which the values that it kept lead.
abbrev pub AreRouted : List Packet → List Arrival → Type 0
AreRouted packets arrivals =
    All (λ a. IsRoute (packet_at packets a.id).hash (route_of a)) arrivals

-- An inbox has packets of its own application.
abbrev pub AreOwn : List Packet → ℕ → (ℕ → List ℕ) → Type 0
AreOwn packets apps inbox = (a : ℕ) → All (λ x. app_at packets apps x ≡ a) (inbox a)

-- Each reply keeps the queue at which its packet arrived.
abbrev pub KeepQueues : List Arrival → (ℕ → List Sent) → Type 0
KeepQueues arrivals sent =
    (a : ℕ) → All (λ s. s.rxq ≡ (arrival_of arrivals s.id).queue) (sent a)

-- Each transmit choice has the flow number of its packet as class, and a want.
pub record AreWeighed (packets : List Packet) (choices : ℕ → List Chosen) : Type 0 where
  pub class : (a : ℕ)
      → All (λ c. c.choice.class ≡ Some (packet_at packets c.id).flow_number) (choices a)
  pub want : (a : ℕ) → All (λ c. IsSome c.choice.want) (choices a)

-- The answer to each command can be printed in a report.
abbrev pub AreTold : List Commanded → Type 0
AreTold commands = All (λ c. has_text c.answer ≡ true) commands

-- The lists of a history agree with each other: queues of arrivals and replies, applications of
-- inboxes, classes of transmit choices, and answers that can be printed.
pub record Recorded (packets : List Packet) (apps : ℕ) (arrivals : List Arrival)
    (inbox : ℕ → List ℕ) (sent : ℕ → List Sent) (choices : ℕ → List Chosen)
    (commands : List Commanded) : Type 0 where
  pub routed : AreRouted packets arrivals
  pub own : AreOwn packets apps inbox
  pub queues : KeepQueues arrivals sent
  pub weighed : AreWeighed packets choices
  pub told : AreTold commands

-- The lists of a machine agree with each other.
abbrev pub IsRecorded : Machine → Type 0
IsRecorded m =
    Recorded m.setup.packets m.setup.apps m.arrivals (out_at m.rx.bare) (list_at m.sent)
    (choices_of m.tx) m.commands

-- Which histories are regular, for the packets of a capture and a number of applications; and when
-- each arrival is at the queue that its values lead to.
use Rattle.std.specs.Prelude.{ℕ, ◌≡◌, ◌≤◌, ◌++◌, Bool, true, false, List, [], Some, IsSome, length}
use Rattle.std.specs.Prelude.{map, slice_index}
use Rattle.std.specs.List.{All, range_with_len}
use Rattle.steer_base.specs.Arrivals.{Route, IsRoute}
use Rattle.steer_base.specs.Orders.{Apart, IsPrefix}
use Rattle.steer_base.specs.declared.choice.Choice.{Choice}
use Rattle.steer_base.specs.declared.choice.Chosen.{Chosen}
use Rattle.steer_base.specs.declared.command.Answer.{Answer}
use Rattle.steer_base.specs.declared.command.Answer.TheVariants as answer
use Rattle.steer_base.specs.declared.idle.Idle.{Idle}
use Rattle.steer_base.specs.declared.idle.Idle.TheVariants as idle
use Rattle.steer_base.specs.declared.packet.Packet.{Packet}
use Rattle.history.specs.Finding.{is_in, Once}
use Rattle.history.specs.Lines.{choice_in}
use Rattle.history.specs.Lists.{packet_at, app_at, list_at, lane_at, drop_ids, accepted_lists}
use Rattle.history.specs.Lists.{dropped_lists, arrival_of, arrivals_at}
use Rattle.history.specs.declared.arrival.Arrival.{Arrival}
use Rattle.history.specs.declared.history.History.{History}

-- The lists per receive queue are equal in number, and those per application are as many as the
-- applications.
pub record AreMatched (apps : ℕ) (h : History) : Type 0 where
  pub choices : length h.choices ≡ length h.taken
  pub inboxes : length h.inboxes ≡ apps
  pub sent : length h.sent ≡ apps
  pub tx_choices : length h.tx_choices ≡ apps
  pub writes : length h.writes ≡ apps

-- The arrivals are the packets 0, 1, 2 and so on; no more are taken than arrived; and the choices
-- of a queue are for its first arrivals, in order, and no more than were taken.
pub record HaveArrived (packets : List Packet) (h : History) : Type 0 where
  pub numbered : map (λ a. a.id) h.arrivals ≡ range_with_len 0 (length h.arrivals)
  pub of_the_capture : length h.arrivals ≤ length packets
  pub taken : (q : ℕ) → slice_index h.taken q ≤ length (arrivals_at h.arrivals q)
  pub chosen : (q : ℕ) → IsPrefix (map (λ c. c.id) (list_at h.choices q)) (arrivals_at h.arrivals q)
  pub chosen_taken : (q : ℕ) → length (list_at h.choices q) ≤ slice_index h.taken q

-- some choice for a packet is this lane
abbrev pub HasChoice : List (List Chosen) → ℕ → ℕ → Type 0
HasChoice choices x lane =
    (q : ℕ) × (c : Choice) × (choice_in x (list_at choices q) ≡ Some c) × (c.lane ≡ lane)

-- Each packet that a processor accepted or dropped has a choice of this processor, and no packet
-- occurs twice in all these lists.
pub record AreSteered (h : History) : Type 0 where
  pub accepted : (c x : ℕ) → is_in x (lane_at h.lanes c).accepted ≡ true → HasChoice h.choices x c
  pub dropped : (c x : ℕ) → is_in x (drop_ids (lane_at h.lanes c)) ≡ true → HasChoice h.choices x c
  pub once : Apart (accepted_lists h.lanes ++ dropped_lists h.lanes)

-- an inbox has accepted packets of its own application, each once
pub record AreDelivered (packets : List Packet) (apps : ℕ) (h : History) : Type 0 where
  pub accepted : (a x : ℕ) → is_in x (list_at h.inboxes a) ≡ true
      → (c : ℕ) × (is_in x (lane_at h.lanes c).accepted ≡ true)
  pub own : (a x : ℕ) → is_in x (list_at h.inboxes a) ≡ true → app_at packets apps x ≡ a
  pub once : (a : ℕ) → Once (list_at h.inboxes a)

-- An application replied to the first packets of its inbox, in order, each with the queue of its
-- arrival; its transmit choices are for its first replies, in order, each with the flow number as
-- class and a desired queue.
pub record AreReplies (packets : List Packet) (h : History) : Type 0 where
  pub sent : (a : ℕ) → IsPrefix (map (λ s. s.id) (list_at h.sent a)) (list_at h.inboxes a)
  pub queue : (a : ℕ) → All (λ s. s.rxq ≡ (arrival_of h.arrivals s.id).queue) (list_at h.sent a)
  pub chosen : (a : ℕ)
      → IsPrefix (map (λ c. c.id) (list_at h.tx_choices a)) (map (λ s. s.id) (list_at h.sent a))
  pub class : (a : ℕ)
      → All (λ c. c.choice.class ≡ Some (packet_at packets c.id).flow_number)
      (list_at h.tx_choices a)
  pub want : (a : ℕ) → All (λ c. IsSome c.choice.want) (list_at h.tx_choices a)

-- Each reply that a transmit queue accepted has a choice of this queue, and none occurs twice;
-- transmit queues drop nothing; and the port has replies that a transmit queue accepted, each once.
pub record AreShipped (h : History) : Type 0 where
  pub accepted : (t x : ℕ) → is_in x (lane_at h.tx_lanes t).accepted ≡ true
      → HasChoice h.tx_choices x t
  pub once : Apart (accepted_lists h.tx_lanes)
  pub no_drops : (t : ℕ) → (lane_at h.tx_lanes t).drops ≡ []
  pub port : (x : ℕ) → is_in x h.port ≡ true
      → (t : ℕ) × (is_in x (lane_at h.tx_lanes t).accepted ≡ true)
  pub port_once : Once h.port

-- whether the reason why a command did nothing is that the processor is already online
abbrev pub is_online : Idle → Bool
is_online idle.AlreadyOnline = true
is_online _ = false

-- whether an answer has a text in a report: of the idle ones only that the processor is already
-- online
abbrev pub has_text : Answer → Bool
has_text answer.Done = true
has_text (answer.Idle why) = is_online why
has_text (answer.Busy busy) = true
has_text (answer.CpuInUse user) = true
has_text answer.CpuOffline = true
has_text (answer.Expired n) = true

-- A history is regular for the packets of a capture and a number of applications: its lists agree
-- with one another as those of every run do.
pub record Regular (packets : List Packet) (apps : ℕ) (h : History) : Type 0 where
  pub matched : AreMatched apps h
  pub arrived : HaveArrived packets h
  pub steered : AreSteered h
  pub delivered : AreDelivered packets apps h
  pub replies : AreReplies packets h
  pub shipped : AreShipped h
  pub answers : All (λ c. has_text c.answer ≡ true) h.commands

-- an arrival as a receive queue with what led to it
abbrev pub route_of : Arrival → Route
route_of a = record { queue = a.queue; filter = a.filter; entry = a.entry }

-- each arrival is at the queue that its filter and its table entry lead to
abbrev pub AreQueued : List Packet → History → Type 0
AreQueued packets h = All (λ a. IsRoute (packet_at packets a.id).hash (route_of a)) h.arrivals

-- A good history's replies (kernel scaling chapter, section XPS).
use Rattle.std.specs.Prelude.{ℕ, ◌<◌, ◌≡◌, Bool, true, ◌&&◌, ◌==◌, List, [], Some, length, take}
use Rattle.std.specs.Prelude.{map}
use Rattle.std.specs.Prelude.{slice_get, unwrap_or}
use Rattle.std.specs.List.{All}
use Rattle.steer_base.specs.Choices.{migrate}
use Rattle.steer_base.specs.Entries.{entry}
use Rattle.steer_base.specs.Orders.{Apart, InOrder, IsPrefix}
use Rattle.steer_base.specs.Sets.{has}
use Rattle.steer_base.specs.declared.choice.Chosen.{Chosen}
use Rattle.hop_model.specs.Hop.{chosen_at}
use Rattle.xps_map.specs.Maps.{picked}
use Rattle.history.specs.Finding.{is_among, is_in, Once}
use Rattle.history.specs.Lists.{accepted_lists, arrival_of, arrivals_at, lane_at, list_at}
use Rattle.history.specs.declared.history.History.{History}
use Rattle.history.specs.declared.sent.Sent.{Sent}
use Rattle.steer_model.specs.Steps.Applications.{everyone}
use Rattle.steer_model.specs.Good.Choices.{accepted_in}
use Rattle.steer_model.specs.Good.Deliveries.{of_flow}
use Rattle.steer_model.specs.Good.Writes.{StoodAt}
use Rattle.steer_model.specs.Good.Inputs.{Input, Prefixes, settings_at, setup_in}
use Rattle.steer_model.specs.State.Settings.{Settings}
use Rattle.steer_model.specs.State.Setup.{flow_number_of, packet_hash}

-- ---- clause 11

-- Transmit choice k of an application is of its reply k. It is the migration rule with the flow
-- number as class, the pick of the maps as want and as desired queue, and all queues online.
abbrev pub IsReplyByRule : Input → History → ℕ → ℕ → Settings → Type 0
IsReplyByRule i h a k s =
    let c : Chosen = chosen_at (list_at h.tx_choices a) k in
    (r : Sent) × (slice_get (list_at h.sent a) k ≡ Some r) × (c.id ≡ r.id)
    × (let pick : ℕ = picked s.maps r.rxq r.cpu (packet_hash (setup_in i) r.id) in
    c.choice ≡ migrate (Some (flow_number_of (setup_in i) r.id)) (Some pick) pick
    (entry h.start (accepted_in h.tx_lanes) (take k (list_at h.tx_choices a)))
    (λ lane. unwrap_or c.choice.head 0) (has everyone))

-- the packets to which an application replied
abbrev pub replies_of : History → ℕ → List ℕ
replies_of h a = map (λ s. s.id) (list_at h.sent a)

-- whether a packet has the flow of packet x and this application replied to it
abbrev pub of_reply : Input → History → (app packet other : ℕ) → Bool
of_reply i h a x y =
    is_in y (replies_of h a) && flow_number_of (setup_in i) y == flow_number_of (setup_in i) x

-- Each reply keeps the queue of its packet and a processor where its application stood.
pub record AreSent (i : Input) (h : History) (a : ℕ) : Type 0 where
  pub first : IsPrefix (replies_of h a) (list_at h.inboxes a)
  pub queue : All (λ s. s.rxq ≡ (arrival_of h.arrivals s.id).queue) (list_at h.sent a)
  pub stood : All (λ s. StoodAt i h a s.cpu) (list_at h.sent a)

-- Each reply is at one place: in one transmit queue at most, on the port at most once, and there
-- only where its queue delivered it. None is dropped.
pub record AreInOneTxPlace (h : History) : Type 0 where
  pub lanes : Apart (accepted_lists h.tx_lanes)
  pub once : Once h.port
  pub delivered : (x : ℕ) → is_in x h.port ≡ true
      → (t : ℕ)
      × (is_among (lane_at h.tx_lanes t).delivered x (lane_at h.tx_lanes t).accepted ≡ true)
  pub no_drops : (t : ℕ) → (lane_at h.tx_lanes t).drops ≡ []

-- The replies of each application to each flow leave in the order in which they were sent; and
-- from end to end each flow leaves in the order of its arrivals at each receive queue.
pub record LeaveInOrder (i : Input) (h : History) : Type 0 where
  pub order : (a x : ℕ) → x < length i.packets
      → InOrder (of_reply i h a x) (replies_of h a) (map (λ lane. lane.drops) h.tx_lanes) h.port
  pub end_to_end : (q x : ℕ) → x < length i.packets
      → InOrder (of_flow i h q x) (arrivals_at h.arrivals q) (map (λ lane. lane.drops) h.lanes)
      h.port

-- The replies of each application are those of its inbox, their choices are by the rule, each is in
-- one place, and they leave in order.
pub record RepliesAreByRule (i : Input) (h : History) (at : ℕ → ℕ → ℕ) : Type 0 where
  pub sent : (a : ℕ) → AreSent i h a
  pub prefixes : (a : ℕ) → Prefixes (length (list_at h.tx_choices a)) (length h.commands) (at a)
  pub each : (a k : ℕ) → k < length (list_at h.tx_choices a)
      → IsReplyByRule i h a k (settings_at i h (at a k))
  pub places : AreInOneTxPlace h
  pub leave : LeaveInOrder i h

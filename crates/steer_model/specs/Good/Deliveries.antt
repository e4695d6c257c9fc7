-- A good history's deliveries: regular, in one place, in order; and all done in the end.
use Rattle.std.specs.Prelude.{ℕ, ◌<◌, ◌≡◌, ◌⊎◌, Bool, true, ◌&&◌, ◌==◌, length, map}
use Rattle.std.specs.List.{All}
use Rattle.steer_base.specs.Orders.{InOrder}
use Rattle.history.specs.Finding.{is_in}
use Rattle.history.specs.Lists.{arrivals_at, drop_ids, lane_at, list_at}
use Rattle.history.specs.Places.{AreInOnePlace, has_arrived}
use Rattle.history.specs.Regular.{Regular}
use Rattle.history.specs.declared.history.History.{History}
use Rattle.history.specs.declared.lane_list.LaneList.{LaneList}
use Rattle.steer_model.specs.Good.Inputs.{Input, setup_in}
use Rattle.steer_model.specs.State.Setup.{app_for, flow_number_of}

-- ---- clause 7

-- whether a packet arrived at this queue and has the flow of packet x
abbrev pub of_flow : Input → History → (queue packet other : ℕ) → Bool
of_flow i h q x y =
    is_in y (arrivals_at h.arrivals q) && flow_number_of (setup_in i) y == flow_number_of
    (setup_in i) x

-- The packets of each flow from each receive queue are in the inbox in the order of their arrivals,
-- without the dropped ones.
abbrev pub IsDeliveredInOrder : Input → History → Type 0
IsDeliveredInOrder i h =
    (q x : ℕ) → x < length i.packets
    → InOrder (of_flow i h q x) (arrivals_at h.arrivals q) (map (λ lane. lane.drops) h.lanes)
    (list_at h.inboxes (app_for (setup_in i) x))

-- The history is regular, each packet is in one place, and each inbox is in order.
pub record IsSteered (i : Input) (h : History) : Type 0 where
  pub regular : Regular i.packets (length i.plan.apps) h
  pub places : AreInOnePlace h
  pub order : IsDeliveredInOrder i h

-- ---- clause 8

-- A lane has pulled, delivered and retired all that it accepted.
pub record IsDone (l : LaneList) : Type 0 where
  pub pulled : l.pulled ≡ length l.accepted
  pub delivered : l.delivered ≡ length l.accepted
  pub retired : l.retired ≡ length l.accepted

-- Each packet that arrived is in an inbox or was dropped, all lanes are done, and each packet of
-- an inbox was replied to and has its reply on the port.
pub record IsSwept (h : History) : Type 0 where
  pub ended : (x : ℕ) → has_arrived h x ≡ true
      → ((a : ℕ) × (is_in x (list_at h.inboxes a) ≡ true))
      ⊎ ((c : ℕ) × (is_in x (drop_ids (lane_at h.lanes c)) ≡ true))
  pub lanes : All IsDone h.lanes
  pub tx_lanes : All IsDone h.tx_lanes
  pub sent : (a x : ℕ) → is_in x (list_at h.inboxes a) ≡ true
      → is_in x (map (λ s. s.id) (list_at h.sent a)) ≡ true
  pub shipped : (a x : ℕ) → is_in x (list_at h.inboxes a) ≡ true → is_in x h.port ≡ true

-- What the passes over the lists of a history say about each packet.
use Rattle.std.specs.Prelude.{ℕ, ◌≡◌, ◌<◌, ◌^◌, ◌&&◌, List, Option, Some, None, length, nat_lt}
use Rattle.std.specs.Prelude.{if◌then◌else◌, nat_le, slice_index_or}
use Rattle.std.specs.Option.{option_map}
use Rattle.steer_base.specs.Entries.{place_in}
use Rattle.history.specs.Finding.{first_some}
use Rattle.history.specs.Index.{IsIndex}
use Rattle.history.specs.Lines.{accepted_place, choice_of, drop_in, inbox_place_of, first_reply_to}
use Rattle.history.specs.Lines.{tx_choice_of}
use Rattle.history.specs.Lists.{list_at, lane_at}
use Rattle.history.specs.declared.history.History.{History}
use Rattle.history.specs.declared.known.Known.{Known}
use Rattle.history.specs.declared.lane_list.LaneList.{LaneList}

-- The lists of a history are so short that each place in them has 32 bits.
pub record HasShortLists (h : History) : Type 0 where
  pub accepted : (c : ℕ) → length (lane_at h.lanes c).accepted < 2 ^ 32
  pub dropped : (c : ℕ) → length (lane_at h.lanes c).drops < 2 ^ 32
  pub inboxes : (a : ℕ) → length (list_at h.inboxes a) < 2 ^ 32
  pub shipped : (t : ℕ) → length (lane_at h.tx_lanes t).accepted < 2 ^ 32
  pub port : length h.port < 2 ^ 32

-- the index of a history has for each packet that arrived what its lines show
pub record IsKnown (h : History) (k : Known) : Type 0 where
  pub lanes : IsIndex (length h.arrivals) k.lanes (λ x. option_map (λ c. c.lane) (choice_of h x))
  pub accepted : IsIndex (length h.arrivals) k.accepted (accepted_place h.lanes)
  pub drops : (x : ℕ) → x < length h.arrivals
      → slice_index_or k.drops x None ≡ first_some (drop_in x) h.lanes
  pub inboxes : IsIndex (length h.arrivals) k.inboxes (inbox_place_of h)
  pub senders : IsIndex (length h.arrivals) k.senders
      (λ x. option_map (λ s. s.cpu) (first_reply_to h x))
  pub tx_lanes : IsIndex (length h.arrivals) k.tx_lanes
      (λ x. option_map (λ c. c.lane) (tx_choice_of h x))
  pub tx_accepted : IsIndex (length h.arrivals) k.tx_accepted (accepted_place h.tx_lanes)
  pub port : IsIndex (length h.arrivals) k.port (λ x. place_in x h.port)

-- the lane that accepted a packet, if the packet is among those that were pulled there
abbrev pub pulled_lane : List LaneList → Option ℕ → Option ℕ → Option ℕ
pulled_lane lanes (Some c) (Some n) =
    if nat_lt c (length lanes) && nat_le n (lane_at lanes c).pulled then Some c else None
pulled_lane lanes (Some c) None = None
pulled_lane lanes None place = None

-- The lists of a history, read by index; past its last list a history has empty ones.
use Rattle.std.specs.Prelude.{ℕ, List, [], None, ◌==◌, map, slice_index_or}
use Rattle.std.specs.List.{filter}
use Rattle.std.specs.Option.{unwrap_or}
use Rattle.steer_base.specs.Apps.{app_of}
use Rattle.steer_base.specs.Packets.{flow_shown}
use Rattle.steer_base.specs.declared.flow.Flow.TheVariants.{Bare}
use Rattle.steer_base.specs.declared.packet.Packet.{Packet}
use Rattle.history.specs.Finding.{found}
use Rattle.history.specs.declared.arrival.Arrival.{Arrival}
use Rattle.history.specs.declared.lane_list.LaneList.{LaneList}

-- the default for a packet beyond the capture: it has no hash
abbrev pub no_packet : Packet
no_packet = record { flow = flow_shown Bare; hash = None; len = 0; flow_number = 0 }

-- the default for the arrival of a packet that did not arrive
abbrev pub no_arrival : Arrival
no_arrival = record { id = 0; queue = 0; filter = None; entry = None }

-- the lane to which no packet was put
abbrev pub no_lane : LaneList
no_lane = record { accepted = []; drops = []; pulled = 0; delivered = 0; retired = 0 }

-- the packet of the capture with this number
abbrev pub packet_at : List Packet → ℕ → Packet
packet_at packets x = slice_index_or packets x no_packet

-- the application that a packet's hash leads to
abbrev pub app_at : List Packet → ℕ → ℕ → ℕ
app_at packets apps x = app_of (packet_at packets x).hash apps

-- the list of a queue or of an application
abbrev pub list_at : {A : Type 0} → List (List A) → ℕ → List A
list_at lists i = slice_index_or lists i []

-- the lane with this number
abbrev pub lane_at : List LaneList → ℕ → LaneList
lane_at lanes c = slice_index_or lanes c no_lane

-- the packets that a lane dropped, in order
abbrev pub drop_ids : LaneList → List ℕ
drop_ids lane = map (λ d. d.id) lane.drops

-- for each lane, the packets that it accepted
abbrev pub accepted_lists : List LaneList → List (List ℕ)
accepted_lists lanes = map (λ lane. lane.accepted) lanes

-- for each lane, the packets that it dropped
abbrev pub dropped_lists : List LaneList → List (List ℕ)
dropped_lists lanes = map drop_ids lanes

-- the arrival of a packet
abbrev pub arrival_of : List Arrival → ℕ → Arrival
arrival_of arrivals x = unwrap_or (found (λ a. a.id) x arrivals) no_arrival

-- the packets that arrived at a queue, in order
abbrev pub arrivals_at : List Arrival → ℕ → List ℕ
arrivals_at arrivals q = map (λ a. a.id) (filter (λ a. a.queue == q) arrivals)

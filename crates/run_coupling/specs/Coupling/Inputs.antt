-- What a run is given, as the producers of its boards, and settings as the words of its boards.
use Rattle.std.specs.Prelude.{◌≡◌, ℕ, ◌+◌, ◌*◌, ◌^◌, ◌<◌, Option, None, length, slice_index}
use Rattle.std.specs.Prelude.{slice_index_or}
use Rattle.std.specs.Option.{unwrap_or}
use Rattle.steer_base.specs.Apps.{app_of}
use Rattle.steer_base.specs.Counters.{rounded_up}
use Rattle.steer_base.specs.declared.command.Command.{Command}
use Rattle.steer_base.specs.declared.command.Command.TheVariants as give
use Rattle.xps_map.specs.Maps.{no_cpus}
use Rattle.hop_delivery.specs.Orders.ReceiveSettings.{Queues, flows_word, mask_word, online_word}
use Rattle.hop_delivery.specs.Orders.ReceiveSettings.{queues, socket_word}
use Rattle.steer_model.specs.Good.Inputs.{Input, setup_in}
use Rattle.steer_model.specs.State.Settings.{Settings, mask_of}
use Rattle.steer_model.specs.State.Setup.{flow_hash, flow_number_of, packet_hash}

-- The hash of the packets of a flow; none if there is no such flow.
abbrev pub hash_of_flow : Input → ℕ → Option ℕ
hash_of_flow i flow = unwrap_or (flow_hash (setup_in i) flow) None

-- The receive queues of an input, as the producers of a receive board.
abbrev pub receive_queues : Input → Queues
receive_queues i =
    record {
      homes = (setup_in i).homes;
      flow = flow_number_of (setup_in i);
      hash = hash_of_flow i;
      app = λ flow. app_of (hash_of_flow i flow) (setup_in i).apps;
    }

-- All packets of a flow have one hash.
abbrev pub FlowsHaveOneHash : Input → Type 0
FlowsHaveOneHash i =
    (x : ℕ) → x < length i.packets
    → hash_of_flow i (flow_number_of (setup_in i) x) ≡ packet_hash (setup_in i) x

-- The words of a receive board are these settings. The word of a flow count has above it how often
-- the count was set, by queue.
pub record AreReceiveWords (q : Queues) (s : Settings) (resized : ℕ → ℕ) (w : ℕ → ℕ) : Type 0 where
  pub masks : length s.masks ≡ queues q
  pub counts : length s.counts ≡ queues q
  pub mask : (p : ℕ) → p < queues q → w (mask_word q p) ≡ (mask_of s p).0
  pub flows : (p : ℕ) → p < queues q
      → w (flows_word q p) ≡ slice_index s.counts p + 2 ^ 32 * resized p
  pub small : (p : ℕ) → p < queues q → slice_index s.counts p < 2 ^ 32
  pub sock : w (socket_word q) ≡ s.sock
  pub online : w (online_word q) ≡ s.online.0

-- The words of a transmit board with this number of queues are the maps of these settings.
pub record AreTransmitWords (count : ℕ) (s : Settings) (w : ℕ → ℕ) : Type 0 where
  pub many : s.maps.count ≡ count
  pub cpu_maps : length s.maps.cpus ≡ count
  pub queue_maps : length s.maps.queues ≡ count
  pub cpus : (tx : ℕ) → tx < count → w tx ≡ (slice_index_or s.maps.cpus tx no_cpus).0
  pub queues : (tx : ℕ) → tx < count → w (count + tx) ≡ slice_index s.maps.queues tx

-- The command names only receive queues that there are, with flow counts in range.
abbrev pub NamesReceiveQueues : ℕ → Command → Type 0
NamesReceiveQueues count (give.Mask q mask) = q < count
NamesReceiveQueues count (give.Flows q flows) = (q < count) × (rounded_up flows < 2 ^ 32)
NamesReceiveQueues count _ = Unit {0}

-- The command names only transmit queues that there are.
abbrev pub NamesTransmitQueues : ℕ → Command → Type 0
NamesTransmitQueues count (give.XCpus tx cpus) = tx < count
NamesTransmitQueues count (give.XQueues tx rxqs) = tx < count
NamesTransmitQueues count _ = Unit {0}

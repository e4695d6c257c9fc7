-- The ranges of what the plan and the capture fix, and the hashes of flows.
use Rattle.std.specs.Prelude.{ℕ, ◌<◌, ◌≤◌, ◌≡◌, List, Option, Some, None, length}
use Rattle.std.specs.Prelude.{slice_index_or, slice_set}
use Rattle.std.specs.List.{All}
use Rattle.steer_base.specs.declared.packet.Packet.{Packet}
use Rattle.steer_base.specs.declared.limits.TheConstants.{MAX_PACKETS}
use Rattle.history.specs.Lists.{packet_at}
use Rattle.steer_model.specs.State.Setup.{Setup, hash_of_flow_number}

-- Each packet is of a flow whose number is below the number of packets, and all packets of a flow
-- have one hash.
pub record AreOfFlows (packets : List Packet) : Type 0 where
  pub below : (x : ℕ) → x < length packets → (packet_at packets x).flow_number < length packets
  pub one_hash : (x y : ℕ) → x < length packets → y < length packets
      → (packet_at packets x).flow_number ≡ (packet_at packets y).flow_number
      → (packet_at packets x).hash ≡ (packet_at packets y).hash

-- What the plan and the capture fix is within the ranges of a plan, with at most MAX_PACKETS
-- packets.
pub record IsGiven (p : Setup) : Type 0 where
  pub some_queue : 1 ≤ length p.homes
  pub few_queues : length p.homes ≤ 16
  pub homes : All (λ home. home < p.cpus) p.homes
  pub some_cpu : 1 ≤ p.cpus
  pub few_cpus : p.cpus ≤ 32
  pub some_tx : 1 ≤ p.txs
  pub few_txs : p.txs ≤ 32
  pub some_app : 1 ≤ p.apps
  pub few_apps : p.apps ≤ 32
  pub few_packets : length p.packets ≤ MAX_PACKETS
  pub flows : AreOfFlows p.packets

-- a table has the hash of each flow of these packets, and nothing for other numbers
abbrev pub AreFlowHashes : List Packet → List (Option (Option ℕ)) → Type 0
AreFlowHashes packets hashes =
    (flow : ℕ) → slice_index_or hashes flow None ≡ hash_of_flow_number packets flow

-- the hash in a table, or another one if there is none
abbrev pub hash_or : Option (Option ℕ) → Option ℕ → Option (Option ℕ)
hash_or (Some hash) other = Some hash
hash_or None other = Some other

-- the table of hashes with that of a packet for its flow, unless it has one
abbrev pub with_hash : List (Option (Option ℕ)) → Packet → List (Option (Option ℕ))
with_hash hashes packet =
    slice_set hashes packet.flow_number
    (hash_or (slice_index_or hashes packet.flow_number None) packet.hash)

-- What the plan and the capture fix for a whole run.
use Rattle.std.specs.Prelude.{ℕ, List, Option}
use Rattle.std.specs.Option.{option_map}
use Rattle.steer_base.specs.declared.packet.Packet.{Packet}
use Rattle.history.specs.Finding.{found}
use Rattle.history.specs.Lists.{packet_at, app_at}

-- What the plan and the capture fix: the home processor of each receive queue, the numbers of
-- processors, transmit queues and applications, the packets, and the length of the cut record.
pub record Setup : Type 0 where
  pub homes : List ℕ
  pub cpus : ℕ
  pub txs : ℕ
  pub apps : ℕ
  pub packets : List Packet
  pub cut : Option ℕ

-- the hash of a packet, if it has one
abbrev pub packet_hash : Setup → ℕ → Option ℕ
packet_hash p x = (packet_at p.packets x).hash

-- the number of a packet's flow
abbrev pub flow_number_of : Setup → ℕ → ℕ
flow_number_of p x = (packet_at p.packets x).flow_number

-- the application of a packet
abbrev pub app_for : Setup → ℕ → ℕ
app_for p x = app_at p.packets p.apps x

-- the hash of a flow, which is that of its first packet; nothing if there is no such flow
abbrev pub hash_of_flow_number : List Packet → ℕ → Option (Option ℕ)
hash_of_flow_number packets flow =
    option_map (λ packet. packet.hash) (found (λ packet. packet.flow_number) flow packets)

-- the hash of a flow of the capture; nothing if there is no such flow
abbrev pub flow_hash : Setup → ℕ → Option (Option ℕ)
flow_hash p flow = hash_of_flow_number p.packets flow

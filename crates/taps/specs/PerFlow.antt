-- The text of a per-flow tap that has counted some packets.
use Rattle.std.specs.Prelude.{ℕ, ◌+◌, List, [], ◌∷◌, nat_eq, unwrap_or}
use Rattle.std.specs.List.{flat_map}
use Rattle.std.specs.Map.{lookup}
use Rattle.indexmap.specs.IndexMap.{insert_entry}
use Rattle.history.specs.declared.packet_line.PacketLine.{PacketLine}
use Rattle.taps.specs.Flows.{flow_row, flows_of}
use Rattle.taps.specs.declared.per_flow.PerFlow.{PerFlow}

-- the counts by flow after one more packet of a flow
abbrev pub counted : List (ℕ × ℕ) → ℕ → List (ℕ × ℕ)
counted counts flow =
    insert_entry nat_eq counts flow (unwrap_or (lookup (nat_eq flow) counts) 0 + 1)

-- the counts by flow after these packets
abbrev pub counts_after : List (ℕ × ℕ) → List ℕ → List (ℕ × ℕ)
counts_after counts [] = counts
counts_after counts (flow ∷ flows) = counts_after (counted counts flow) flows

-- one text line for each count
abbrev pub rows_of_counts : List (ℕ × ℕ) → List ℕ
rows_of_counts counts = flat_map (λ count. flow_row count.0 count.1) counts

-- the text of a per-flow tap after these further lines
abbrev pub flows_after : PerFlow → List PacketLine → List ℕ
flows_after tap lines = rows_of_counts (counts_after tap.counts.entries (flows_of lines))

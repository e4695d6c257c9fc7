-- The text of a tap that counts the packets of each flow.
use Rattle.std.specs.Prelude.{ℕ, ◌==◌, List, [], ◌∷◌, codes, count_by, filter, map, not}
use Rattle.std.specs.List.{flat_map}
use Rattle.history.specs.declared.packet_line.PacketLine.{PacketLine}
use Rattle.taps.specs.Rows.{row}

-- the flow numbers of these lines
abbrev pub flows_of : List PacketLine → List ℕ
flows_of lines = map (λ line. line.flow_number) lines

-- how often a flow occurs among these
abbrev pub times : ℕ → List ℕ → ℕ
times flow flows = count_by (λ other. other == flow) flows

-- these flows without one of them
abbrev pub without : ℕ → List ℕ → List ℕ
without flow flows = filter (λ other. not (other == flow)) flows

-- each flow once, in the order of first occurrence
abbrev pub once_each : List ℕ → List ℕ
once_each [] = []
once_each (flow ∷ flows) = flow ∷ without flow (once_each flows)

-- the text line of a flow with `count` packets
abbrev pub flow_row : ℕ → ℕ → List ℕ
flow_row flow count = row (codes "flow ") flow (codes " packets ") count

-- the text of a per-flow tap: for each flow, in the order of first occurrence, its number of lines
abbrev pub per_flow_text : List PacketLine → List ℕ
per_flow_text lines =
    flat_map (λ flow. flow_row flow (times flow (flows_of lines))) (once_each (flows_of lines))

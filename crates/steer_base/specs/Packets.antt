-- The flow of a packet, which is there for clauses alone.
use Rattle.std.specs.declared.snapshot.Snapshot.{Snapshot}
use Rattle.steer_base.specs.declared.flow.Flow.{Flow}

-- a flow as a packet has it
abbrev pub flow_shown : Flow → Snapshot Flow
flow_shown flow = record { marker = record {}; value = flow }

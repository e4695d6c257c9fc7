-- The machine that a plan starts, and the history of its steps.
use Rattle.std.specs.Prelude.{ℕ, ◌+◌, false, true, List, [], Option, length, map, max, replicate}
use Rattle.std.specs.List.{filter_map, range_with_len}
use Rattle.steer_base.specs.Counters.{rounded_up}
use Rattle.steer_base.specs.Sets.{first_cpus}
use Rattle.steer_base.specs.declared.packet.Packet.{Packet}
use Rattle.steer_base.specs.declared.step.Step.{Step}
use Rattle.hop_model.specs.declared.shape.TheConstants.{MAX_HOP_ROOM}
use Rattle.hop_model.specs.Hop.{HopState}
use Rattle.hop_model.specs.Shape.{fresh_hop}
use Rattle.sock_flow_table.specs.Sockets as sockets
use Rattle.accel_filter.specs.Table as filters
use Rattle.history.specs.declared.history.History.{History}
use Rattle.plan_reader.specs.Plans.{nth_step, step_count}
use Rattle.plan_reader.specs.declared.plan.Plan.{Plan}
use Rattle.plan_reader.specs.declared.plan.TxPlan.{TxPlan}
use Rattle.xps_map.specs.Maps.{Maps}
use Rattle.steer_model.specs.Capture.FlowCounts.{flow_count}
use Rattle.steer_model.specs.State.Machine.{Machine, history_of}
use Rattle.steer_model.specs.State.Settings.{Settings}
use Rattle.steer_model.specs.State.Setup.{Setup}
use Rattle.steer_model.specs.Steps.CompoundSteps.{after}
use Rattle.steer_model.specs.declared.note.Note.TheVariants as note

-- what a plan and the packets of a capture fix
abbrev pub setup_of : Plan → List Packet → Option ℕ → Setup
setup_of plan packets cut =
    record {
      homes = map (λ queue. queue.home) plan.queues;
      cpus = plan.cpus;
      txs = length plan.tx;
      apps = length plan.apps;
      packets = packets;
      cut = cut;
    }

-- the maps of a plan's transmit queues
abbrev pub maps_of : List TxPlan → Maps
maps_of tx =
    record {
      count = length tx;
      cpus = map (λ queue. queue.cpus) tx;
      queues = map (λ queue. queue.queues) tx;
    }

-- the plan's settings, with all its processors online
abbrev pub initial_settings : Plan → Settings
initial_settings plan =
    record {
      masks = map (λ queue. queue.mask) plan.queues;
      counts = map (λ queue. rounded_up queue.flows) plan.queues;
      sock = rounded_up plan.sock;
      online = first_cpus plan.cpus;
      maps = maps_of plan.tx;
      reta = record { queues = length plan.queues; entries = plan.reta };
      stands = plan.apps;
    }

-- the receive hop of a plan: a class for each flow entry of a queue, and the applications and a
-- controller as guests
abbrev pub fresh_rx : Plan → List Packet → HopState
fresh_rx plan packets =
    fresh_hop
    (record {
      limit = plan.backlog;
      room = length packets;
      start = plan.start;
      exact = false;
      limited = plan.limited;
    })
    (initial_settings plan).counts (length plan.apps + 1) plan.cpus (length plan.apps)

-- the transmit hop of a plan: a class for each flow number, at least one, and lanes that are never
-- full
abbrev pub fresh_tx : Plan → List Packet → HopState
fresh_tx plan packets =
    fresh_hop
    (record {
      limit = MAX_HOP_ROOM;
      room = length packets;
      start = plan.start;
      exact = true;
      limited = record { 0 = 0 };
    })
    (replicate (length plan.apps) (max 1 (flow_count packets))) 0 (length plan.tx) 1

-- the machine before its first step: the plan's settings, open gates and empty lists
abbrev pub new_machine : Plan → List Packet → Option ℕ → Machine
new_machine plan packets cut =
    record {
      setup = setup_of plan packets cut;
      settings = initial_settings plan;
      socket = sockets.unset (initial_settings plan).sock;
      filters = filters.unset plan.filters;
      notes = replicate (length plan.queues) note.Nothing;
      rx = fresh_rx plan packets;
      tx = fresh_tx plan packets;
      arrivals = [];
      sent = replicate (length plan.apps) [];
      writes = replicate (length plan.apps) [];
      commands = [];
    }

-- the steps of a plan: its list, or the seeded ones and a sweep
abbrev pub steps_of : Plan → List Step
steps_of plan = filter_map (nth_step plan) (range_with_len 0 (step_count plan))

-- the history of a plan over the packets of a capture
abbrev pub replayed : Plan → List Packet → Option ℕ → History
replayed plan packets cut = history_of (after (steps_of plan) (new_machine plan packets cut))

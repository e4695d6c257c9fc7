-- Laws of the machine and of the histories that it makes.
use Rattle.std.specs.Prelude.{ℕ, ◌^◌, ◌<◌, ◌≤◌, ◌≡◌, true, List, Option, length}
use Rattle.std.specs.List.{AllPass}
use Rattle.steer_base.specs.declared.command.Command.{Command}
use Rattle.steer_base.specs.declared.packet.Packet.{Packet}
use Rattle.steer_base.specs.declared.step.Step.{Step}
use Rattle.steer_base.specs.declared.limits.TheConstants.{MAX_PACKETS}
use Rattle.history.specs.Places.{AreInOnePlace, InboxesAreDelivered, IsInReach}
use Rattle.history.specs.Regular.{AreQueued, Regular}
use Rattle.history.specs.declared.history.History.{History}
use Rattle.plan_reader.specs.Plans.{sizes_of}
use Rattle.plan_reader.specs.Ranges.{step_is_within}
use Rattle.plan_reader.specs.declared.plan.Plan.{Plan}
use Rattle.steer_model.specs.Steps.Commands.{answer_to, is_done, listed, set_by}
use Rattle.steer_model.specs.State.Ranges.{AreOfFlows}
use Rattle.steer_model.specs.State.Machine.{Machine, history_of}
use Rattle.steer_model.specs.State.Start.{new_machine, replayed}
use Rattle.steer_model.specs.Steps.CompoundSteps.{after, step}
use Rattle.steer_invariant.specs.EventPremises.{AreSeated, AsksRx, AsksTx}
use Rattle.steer_invariant.specs.Invariant.{Invariant}
use Rattle.steer_invariant.specs.StepInvariant.{AreNamed, IsCommandNamed, IsNamed}

-- The lines and the report of a history can be made: it is regular for these packets and
-- applications, its arrivals are at the queues that their kept values lead to, each packet is in
-- one place, and the numbers of packets, arrivals and applications are in range.
pub record IsReportable (packets : List Packet) (apps : ℕ) (h : History) : Type 0 where
  pub regular : Regular packets apps h
  pub queued : AreQueued packets h
  pub delivered : InboxesAreDelivered h
  pub places : AreInOnePlace h
  pub in_reach : (x : ℕ) → IsInReach h x
  pub some_app : 1 ≤ apps
  pub few_apps : apps ≤ 32
  pub few_packets : length packets ≤ MAX_PACKETS
  pub few_arrivals : length h.arrivals ≤ MAX_PACKETS

-- The history of a machine with the invariant can be reported.
abbrev pub InvariantIsReportable : Type 0
InvariantIsReportable =
    (m : Machine) → Invariant m → IsReportable m.setup.packets m.setup.apps (history_of m)

-- A machine with the invariant may ask its receive hop for the events of its steps.
abbrev pub RxPremisesHold : Type 0
RxPremisesHold = (m : Machine) → Invariant m → AsksRx m

-- A machine with the invariant may ask its transmit hop for the events of its steps.
abbrev pub TxPremisesHold : Type 0
TxPremisesHold = (m : Machine) → Invariant m → AsksTx m

-- In a machine with the invariant an expiry can read what it needs for each filter.
abbrev pub FiltersAreSeated : Type 0
FiltersAreSeated = (m : Machine) → Invariant m → AreSeated m

-- ---- every state

-- The premise on a plan and packets: counters begin within 32 bits, and there are at most
-- MAX_PACKETS packets, each of a flow with a number below theirs and with one hash.
pub record MayStart (plan : Plan) (packets : List Packet) : Type 0 where
  pub start : plan.start < 2 ^ 32
  pub few : length packets ≤ MAX_PACKETS
  pub flows : AreOfFlows packets

-- The machine that a plan starts has the invariant.
abbrev pub StartHasInvariant : Type 0
StartHasInvariant =
    (plan : Plan) (packets : List Packet) (cut : Option ℕ) → MayStart plan packets
    → Invariant (new_machine plan packets cut)

-- Each step that names what the machine has preserves the invariant.
abbrev pub StepsKeepInvariant : Type 0
StepsKeepInvariant = (m : Machine) (s : Step) → IsNamed m.setup s → Invariant m → Invariant
    (step m s).0

-- Each list of steps that name what the machine has preserves the invariant.
abbrev pub RunsKeepInvariant : Type 0
RunsKeepInvariant =
    (m : Machine) (ss : List Step) → AreNamed m.setup ss → Invariant m → Invariant (after ss m)

-- A command that is done preserves the invariant, before it is listed.
abbrev pub CommandsKeepInvariant : Type 0
CommandsKeepInvariant =
    (m : Machine) (c : Command) → IsCommandNamed m.setup c → is_done (answer_to m c) ≡ true
    → Invariant m → Invariant (set_by m c)

-- Listing a command with its answer preserves the invariant.
abbrev pub ListingKeepsInvariant : Type 0
ListingKeepsInvariant = (m n : Machine) (c : Command) → Invariant n → Invariant
    (listed n c (answer_to m c))

-- ---- every history

-- The history after any steps that name what the plan has can be reported.
abbrev pub RunsAreReportable : Type 0
RunsAreReportable =
    (plan : Plan) (packets : List Packet) (cut : Option ℕ) (ss : List Step) → MayStart plan packets
    → AllPass (step_is_within (sizes_of plan)) ss
    → IsReportable packets (length plan.apps) (history_of (after ss (new_machine plan packets cut)))

-- The history after all steps of a plan can be reported.
abbrev pub ReplaysAreReportable : Type 0
ReplaysAreReportable =
    (plan : Plan) (packets : List Packet) (cut : Option ℕ) → MayStart plan packets
    → IsReportable packets (length plan.apps) (replayed plan packets cut)

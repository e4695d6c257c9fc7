-- Forged reports: what a history could show that no run of the plan makes, on an example of two
-- packets of one flow. The flow is steered to processor 1; its application is on processor 0 and
-- records that between the two packets. So the second packet goes to processor 0, unless the first
-- one is still outstanding when it is weighed.
use Rattle.std.specs.Prelude.{ℕ, ◌≡◌, refl, List, [], ◌∷◌, ◌++◌, Some, None, replicate, slice_get}
use Rattle.history.specs.Lists.{lane_at, list_at}
use Rattle.history.specs.declared.arrival.Arrival.{Arrival}
use Rattle.history.specs.declared.history.History.{History}
use Rattle.history.specs.declared.sock_write.SockWrite.{SockWrite}
use Rattle.pcap_reader.specs.declared.capture.Capture.{Capture}
use Rattle.plan_reader.specs.Ranges.{commands_of}
use Rattle.plan_reader.specs.Settings.{IsWithin, PlanSettings}
use Rattle.plan_reader.specs.declared.plan.Plan.{Plan}
use Rattle.plan_reader.specs.declared.plan.Steps.TheVariants as steps
use Rattle.steer_base.specs.Packets.{flow_shown}
use Rattle.steer_base.specs.declared.choice.Chosen.{Chosen}
use Rattle.steer_base.specs.declared.choice.Why.TheVariants.{Kept, Passed}
use Rattle.steer_base.specs.declared.flow.Flow.TheVariants.{Bare}
use Rattle.steer_base.specs.declared.packet.Packet.{Packet}
use Rattle.steer_base.specs.declared.put.LaneDrop.{LaneDrop}
use Rattle.steer_base.specs.declared.step.Step.{Step}
use Rattle.steer_base.specs.declared.step.Step.TheVariants as act
use Rattle.steer_invariant.specs.InvariantLaws.{MayStart}
use Rattle.steer_model.specs.Good.Inputs.{Input}
use Rattle.headline.specs.Headline.{Headline, IsOfTheRun, Reports, Says}
use Rattle.headline.specs.Moments.{HaveMomentsOfTheRun}

-- The plan with these settings, which are within their ranges.
abbrev pub plan_with : (s : PlanSettings) → IsWithin s → Plan
plan_with s within =
    record {
      cpus = s.cpus;
      queues = s.queues;
      key = s.key;
      kinds = s.kinds;
      reta = s.reta;
      sock = s.sock;
      filters = s.filters;
      backlog = s.backlog;
      start = s.start;
      limited = s.limited;
      apps = s.apps;
      tx = s.tx;
      workers = s.workers;
      tries = s.tries;
      detach = s.detach;
      steps = s.steps;
      commands = commands_of s.steps;
      commands_are = refl;
      within = within;
    }

-- ---- the example

-- The first packet arrives, is put to its processor, and the application records the flow.
abbrev pub first_steps : List Step
first_steps =
    act.Arrive ∷ act.Enter 0 ∷ act.Take 0 ∷ act.Look 0 ∷ act.Weigh 0 ∷ act.Put 0 ∷ act.Record 0 ∷ []

-- The second packet arrives and is weighed.
abbrev pub second_steps : List Step
second_steps = act.Arrive ∷ act.Take 0 ∷ act.Look 0 ∷ act.Weigh 0 ∷ []

-- The first packet goes through its processor.
abbrev pub drain_steps : List Step
drain_steps = act.Pull 1 ∷ act.Deliver 1 ∷ act.Retire 1 ∷ []

-- Two processors and two receive queues; all hashes lead to queue 0, and its packets to processor
-- 1. There is one flow entry, one socket entry, one application on processor 0, and a backlog of so
-- many packets.
abbrev pub settings_with : ℕ → List Step → PlanSettings
settings_with backlog list =
    record {
      cpus = 2;
      queues =
          record { home = 0; mask = record { 0 = 2 }; flows = 1 }
          ∷ record { home = 1; mask = record { 0 = 2 }; flows = 1 } ∷ [];
      key = replicate 40 0;
      kinds = 63;
      reta = replicate 128 0;
      sock = 1;
      filters = 0;
      backlog = backlog;
      start = 0;
      limited = record { 0 = 0 };
      apps = 0 ∷ [];
      tx = record { cpus = record { 0 = 0 }; queues = 0 } ∷ [];
      workers = 1;
      tries = 1;
      detach = [];
      steps = steps.List list;
    }

-- The same with a backlog of four packets.
abbrev pub example_settings : List Step → PlanSettings
example_settings list = settings_with 4 list

-- A packet of the one flow of the examples.
abbrev pub example_packet : Packet
example_packet = record { flow = flow_shown Bare; hash = Some 5; len = 60; flow_number = 0 }

-- A plan with two packets of the flow.
abbrev pub input_with : (s : PlanSettings) → IsWithin s → Input
input_with s within =
    record {
      plan = plan_with s within;
      packets = example_packet ∷ example_packet ∷ [];
      cut = None;
    }

-- The example with these steps.
abbrev pub example_of : (list : List Step) → IsWithin (example_settings list) → Input
example_of list within = input_with (example_settings list) within

-- The steps of the first run, in which the first packet is retired before the second one is
-- weighed.
abbrev pub drained_steps : List Step
drained_steps = first_steps ++ (drain_steps ++ second_steps)

-- The steps of the second run, in which the first packet still waits then.
abbrev pub waiting_steps : List Step
waiting_steps = first_steps ++ second_steps

-- The steps of a third run: the second packet is put to processor 1 while the first one still waits
-- there. With a backlog of one packet it is dropped.
abbrev pub full_steps : List Step
full_steps = waiting_steps ++ act.Put 0 ∷ []

abbrev pub full_settings : PlanSettings
full_settings = settings_with 1 full_steps

-- The settings of all examples are within the ranges of a plan.
pub record ExamplesAreWithin : Type 0 where
  pub drained : IsWithin (example_settings drained_steps)
  pub waiting : IsWithin (example_settings waiting_steps)
  pub full : IsWithin full_settings

-- ---- what is forged

-- No history of the first run is one of no packets.
abbrev pub EmptyIsForged : Type 0
EmptyIsForged =
    (within : IsWithin (example_settings drained_steps)) (h : History) → h.total ≡ 0
    → IsOfTheRun (example_of drained_steps within) h → ⊥

-- In the first run the flow moves; no history of it shows that it stays.
abbrev pub NeverMovingIsForged : Type 0
NeverMovingIsForged =
    (within : IsWithin (example_settings drained_steps)) (h : History) (c : Chosen)
    → slice_get (list_at h.choices 0) 1 ≡ Some c → c.choice.why ≡ Kept
    → IsOfTheRun (example_of drained_steps within) h → ⊥

-- In the second run the flow stays; no history of it shows that it moves at once.
abbrev pub MovingAtOnceIsForged : Type 0
MovingAtOnceIsForged =
    (within : IsWithin (example_settings waiting_steps)) (h : History) (c : Chosen)
    → slice_get (list_at h.choices 0) 1 ≡ Some c → c.choice.why ≡ Passed
    → IsOfTheRun (example_of waiting_steps within) h → ⊥

-- No history of the first run shows a packet in the queue that no entry names.
abbrev pub AnotherQueueIsForged : Type 0
AnotherQueueIsForged =
    (within : IsWithin (example_settings drained_steps)) (h : History) (k : ℕ) (a : Arrival)
    → slice_get h.arrivals k ≡ Some a → a.queue ≡ 1
    → IsOfTheRun (example_of drained_steps within) h → ⊥

-- No history of the first run shows that the second packet found no want.
abbrev pub NoWantIsForged : Type 0
NoWantIsForged =
    (within : IsWithin (example_settings drained_steps)) (h : History) (c : Chosen)
    → slice_get (list_at h.choices 0) 1 ≡ Some c → c.choice.want ≡ None
    → IsOfTheRun (example_of drained_steps within) h → ⊥

-- No history of the first run shows a write of a processor where the application was not.
abbrev pub AnotherWriteIsForged : Type 0
AnotherWriteIsForged =
    (within : IsWithin (example_settings drained_steps)) (h : History) (a k : ℕ) (w : SockWrite)
    → slice_get (list_at h.writes a) k ≡ Some w → w.cpu ≡ 1
    → IsOfTheRun (example_of drained_steps within) h → ⊥

-- No history of the first run shows a command that the plan has not.
abbrev pub AnotherCommandIsForged : Type 0
AnotherCommandIsForged =
    (within : IsWithin (example_settings drained_steps)) (h : History)
    → (h.commands ≡ [] → ⊥) → IsOfTheRun (example_of drained_steps within) h → ⊥

-- ---- what has no moment in the run

-- In the third run the backlog of processor 1 is full when the second packet is put there: no
-- history whose moments are of it shows that the processor accepted it.
abbrev pub AcceptingAtFullIsForged : Type 0
AcceptingAtFullIsForged =
    (within : IsWithin full_settings) (h : History) (x : ℕ)
    → slice_get (lane_at h.lanes 1).accepted 1 ≡ Some x
    → HaveMomentsOfTheRun (input_with full_settings within) h → ⊥

-- Processor 1 had pulled nothing when it dropped the second packet: no history whose moments are of
-- the third run has a drop of it that keeps another count.
abbrev pub AnotherDropIsForged : Type 0
AnotherDropIsForged =
    (within : IsWithin full_settings) (h : History) (j : ℕ) (d : LaneDrop)
    → slice_get (lane_at h.lanes 1).drops j ≡ Some d → (d.pulled ≡ 0 → ⊥)
    → HaveMomentsOfTheRun (input_with full_settings within) h → ⊥

-- ---- what a text is refused for

-- A text with the headline is the report of no other history than the one of the run: where the
-- same bytes say what was to be done, each history whose report it is is that one.
abbrev pub HeadlinesAreOfTheRun : Type 0
HeadlinesAreOfTheRun =
    (plan_bytes capture_bytes : List ℕ) (capture : Capture) (text : List ℕ) (i : Input)
    (h : History)
    → Headline plan_bytes capture_bytes capture text → Says plan_bytes capture_bytes capture i
    → MayStart i.plan i.packets → Reports i h text → IsOfTheRun i h

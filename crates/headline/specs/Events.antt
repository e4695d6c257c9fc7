-- The events of the steps of a plan. A step of one event, and a command, is itself; a step of many
-- events tries these, one after the other, each in the state that the ones before it leave.
use Rattle.std.specs.Prelude.{ℕ, ◌≡◌, List, [], ◌∷◌, ◌++◌, Option, Some, None, length, suc, zero}
use Rattle.std.specs.Prelude.{if◌then◌else◌, false}
use Rattle.steer_base.specs.declared.step.Step.{Step}
use Rattle.steer_base.specs.declared.step.Step.TheVariants as act
use Rattle.step_laws.specs.Origins.TableWrites.{after_events}
use Rattle.steer_model.specs.State.Machine.{Machine}
use Rattle.steer_model.specs.State.Setup.{flow_number_of}
use Rattle.steer_model.specs.Steps.CompoundSteps.{after, drain_one, most_rounds, one_round}
use Rattle.steer_model.specs.Steps.CompoundSteps.{replying, ship_one, step, unretired}

-- ---- the turns of one actor

-- all events of a poller
abbrev pub poll_events : ℕ → List Step
poll_events q =
    act.Enter q ∷ act.Take q ∷ act.Look q ∷ act.Weigh q ∷ act.Put q ∷ act.Ask q ∷ act.Leave q ∷ []

-- all events of an application
abbrev pub reply_events : ℕ → List Step
reply_events a = act.TEnter a ∷ act.Send a ∷ act.TWeigh a ∷ act.TPut a ∷ act.TLeave a ∷ []

-- the same events n times
abbrev pub repeated : ℕ → List Step → List Step
repeated zero events = []
repeated (suc n) events = events ++ repeated n events

-- the events of a processor, once for each packet that is not retired
abbrev pub drain_events : Machine → ℕ → List Step
drain_events m c = repeated (unretired m.rx.bare c) (drain_one c)

-- the events of a transmit queue, once for each reply that is not retired
abbrev pub ship_events : Machine → ℕ → List Step
ship_events m t = repeated (unretired m.tx.bare t) (ship_one t)

-- the recording of the flow of a packet, if there is one
abbrev pub record_events : Machine → Option ℕ → List Step
record_events m None = []
record_events m (Some x) = act.Record (flow_number_of m.setup x) ∷ []

-- the recording of the packet that an application replies to, and then all its events
abbrev pub serve_events : Machine → ℕ → List Step
serve_events m a = record_events m (replying m a) ++ reply_events a

-- ---- a sweep

-- some events, and those that others then try
abbrev pub and_then : List Step → (Machine → List Step) → Machine → List Step
and_then events others m = events ++ others (after_events events m)

-- the events of each actor below n, ascending
abbrev pub each_events : ℕ → (Machine → ℕ → List Step) → Machine → List Step
each_events zero turn m = []
each_events (suc n) turn m = and_then (each_events n turn m) (λ u. turn u n) m

-- the events of a round: an arrival, and a turn of each poller, processor, application and transmit
-- queue
abbrev pub round_events : Machine → List Step
round_events m =
    and_then
    (and_then
    (and_then
    (and_then (act.Arrive ∷ []) (each_events (length m.setup.homes) (λ u q. poll_events q)) m)
    (each_events m.setup.cpus drain_events) m)
    (each_events m.setup.apps serve_events) m)
    (each_events m.setup.txs ship_events) m

-- the events of rounds until one in which no work is done, at most n
abbrev pub rounds_events : ℕ → Machine → List Step
rounds_events zero m = []
rounds_events (suc n) m =
    and_then (round_events m) (λ u. if (one_round (m, false)).1 then rounds_events n u else []) m

-- ---- a step, and steps in a row

-- the events of a step
abbrev pub events_of : Machine → Step → List Step
events_of m (act.Poll q) = poll_events q
events_of m (act.Drain c) = drain_events m c
events_of m (act.Reply a) = reply_events a
events_of m (act.Serve a) = serve_events m a
events_of m (act.Ship t) = ship_events m t
events_of m act.Sweep = rounds_events (most_rounds (length m.setup.packets)) m
events_of m s = s ∷ []

-- the events of some steps
abbrev pub all_events : Machine → List Step → List Step
all_events m [] = []
all_events m (s ∷ ss) = events_of m s ++ all_events (step m s).0 ss

-- The events of a step lead to the state that the step leaves, and so do those of some steps.
pub record EventsAreTheSteps : Type 0 where
  pub one : (m : Machine) (s : Step) → after_events (events_of m s) m ≡ (step m s).0
  pub all : (ss : List Step) (m : Machine) → after_events (all_events m ss) m ≡ after ss m

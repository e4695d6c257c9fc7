-- Steps of many events: which events they try, in which order, and how often.
use Rattle.std.specs.Prelude.{ℕ, ◌+◌, ◌-◌, ◌*◌, Bool, true, false, not, ◌&&◌, ◌||◌, nat_lt, List}
use Rattle.std.specs.Prelude.{[]}
use Rattle.std.specs.Prelude.{◌∷◌, Option, Some, None, length, slice_index_or, if◌then◌else◌, suc}
use Rattle.std.specs.Prelude.{zero}
use Rattle.steer_base.specs.declared.command.Answer.TheVariants as says
use Rattle.steer_base.specs.declared.idle.Idle.TheVariants as idle
use Rattle.steer_base.specs.declared.step.Step.{Step}
use Rattle.steer_base.specs.declared.step.Step.TheVariants as act
use Rattle.hop_model.specs.Hop.{Bare, accepted_at, retired_at, taken_of, placed_of}
use Rattle.steer_model.specs.Steps.Applications.{next_in, nothing_sent, sent_of}
use Rattle.steer_model.specs.State.Machine.{Machine}
use Rattle.steer_model.specs.Steps.Outcomes.{StepOutcome}
use Rattle.steer_model.specs.State.Setup.{flow_number_of}
use Rattle.steer_model.specs.Steps.SingleSteps.{is_idle, is_work, simple}

-- a machine, and whether work was done on the way to it
abbrev pub Progress : Type 0
Progress = Machine × Bool

-- the progress after a step was tried; a step that is not enabled changes nothing
abbrev pub tried : Progress → Step → Progress
tried t s = ((simple t.0 s).0, t.1 || (is_work s && not (is_idle (simple t.0 s).1)))

-- the progress after some steps were tried in order
abbrev pub tries : Progress → List Step → Progress
tries t [] = t
tries t (s ∷ ss) = tries (tried t s) ss

-- the progress after the same steps were tried n times in a row
unfoldable pub again : ℕ → List Step → Progress → Progress
again zero ss t = t
again (suc n) ss t = again n ss (tries t ss)

-- the progress after something was done for each number below n, ascending
unfoldable pub for_each : ℕ → (ℕ → Progress → Progress) → Progress → Progress
for_each zero f t = t
for_each (suc n) f t = f n (for_each n f t)

-- all events of a poller in order
abbrev pub poll : ℕ → Progress → Progress
poll q t =
    tries t
    (act.Enter q ∷ act.Take q ∷ act.Look q ∷ act.Weigh q ∷ act.Put q ∷ act.Ask q ∷ act.Leave q ∷ [])

-- how many packets of a lane are not retired: those that wait and the one in hand
abbrev pub unretired : Bare → ℕ → ℕ
unretired b c = length (accepted_at b c) - retired_at b c

-- the events that get one packet through a processor
abbrev pub drain_one : ℕ → List Step
drain_one c = act.Pull c ∷ act.Deliver c ∷ act.Retire c ∷ []

-- the events that get one reply through a transmit queue
abbrev pub ship_one : ℕ → List Step
ship_one x = act.TPull x ∷ act.TDeliver x ∷ act.TRetire x ∷ []

-- The events of a processor until its hand is empty and nothing waits: each time one packet is
-- retired.
abbrev pub drain : ℕ → Progress → Progress
drain c t = again (unretired t.0.rx.bare c) (drain_one c) t

-- The events of a transmit queue until its hand is empty and nothing waits: each time one reply is
-- retired.
abbrev pub ship : ℕ → Progress → Progress
ship x t = again (unretired t.0.tx.bare x) (ship_one x) t

-- all events of an application in order
abbrev pub reply : ℕ → Progress → Progress
reply a t = tries t (act.TEnter a ∷ act.Send a ∷ act.TWeigh a ∷ act.TPut a ∷ act.TLeave a ∷ [])

-- the packet that an application has in hand, otherwise the next one of its inbox
abbrev pub replying : Machine → ℕ → Option ℕ
replying m a =
    if nat_lt (placed_of m.tx a) (taken_of m.tx a)
    then Some (slice_index_or (sent_of m a) (placed_of m.tx a) nothing_sent).id
    else next_in m a

-- the recording of the flow of a packet, if there is one
abbrev pub with_record : Option ℕ → Progress → Progress
with_record None t = t
with_record (Some x) t = tried t (act.Record (flow_number_of t.0.setup x))

-- The flow of the packet that an application replies to is recorded, and then all its events are
-- tried.
abbrev pub serve : ℕ → Progress → Progress
serve a t = reply a (with_record (replying t.0 a) t)

-- one arrival, and one turn of every poller, processor, application and transmit queue
abbrev pub one_round : Progress → Progress
one_round t =
    for_each t.0.setup.txs ship
    (for_each t.0.setup.apps serve
    (for_each t.0.setup.cpus drain
    (for_each (length t.0.setup.homes) poll (tried t act.Arrive))))

-- rounds until one in which no work was done, at most n
unfoldable pub rounds : ℕ → Progress → Progress
rounds zero t = t
rounds (suc n) t =
    if (one_round (t.0, false)).1
    then rounds n ((one_round (t.0, false)).0, true)
    else ((one_round (t.0, false)).0, t.1)

-- the most rounds of a sweep for this many packets, which is more than the work there is
abbrev pub most_rounds : ℕ → ℕ
most_rounds packets = 16 * packets + 32

-- a sweep: rounds of all actors until a round in which no work was done
abbrev pub sweep : Progress → Progress
sweep t = rounds (most_rounds (length t.0.setup.packets)) t

-- the outcome of a step of many events: done if work was done
abbrev pub ended : Progress → StepOutcome
ended t = (t.0, if t.1 then says.Done else says.Idle idle.Nothing)

-- ---- a step, and steps in a row

-- the machine and the answer after a step: one of many events, of one event, or a command
abbrev pub step : Machine → Step → StepOutcome
step m (act.Poll q) = ended (poll q (m, false))
step m (act.Drain c) = ended (drain c (m, false))
step m (act.Reply a) = ended (reply a (m, false))
step m (act.Serve a) = ended (serve a (m, false))
step m (act.Ship t) = ended (ship t (m, false))
step m act.Sweep = ended (sweep (m, false))
step m s = simple m s

-- the machine after a list of steps
abbrev pub after : List Step → Machine → Machine
after [] m = m
after (s ∷ ss) m = after ss (step m s).0

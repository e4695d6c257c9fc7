-- The steps of one event each, one line a step; and which of them count as work.
use Rattle.std.specs.Prelude.{Bool, true, false}
use Rattle.steer_base.specs.declared.command.Answer.{Answer}
use Rattle.steer_base.specs.declared.command.Answer.TheVariants as says
use Rattle.steer_base.specs.declared.idle.Idle.TheVariants as idle
use Rattle.steer_base.specs.declared.step.Step.{Step}
use Rattle.steer_base.specs.declared.step.Step.TheVariants as act
use Rattle.hop_model.specs.declared.event.HopEvent.TheVariants as event
use Rattle.steer_model.specs.Steps.Applications.{cpu_delivers, record_flow, send, tput, tweigh}
use Rattle.steer_model.specs.Steps.Commands.{given}
use Rattle.steer_model.specs.State.Machine.{Machine}
use Rattle.steer_model.specs.Steps.Outcomes.{StepOutcome, by_rx, by_tx, idle_step}
use Rattle.steer_model.specs.Steps.Pollers.{arrive, ask, poller_leaves, look, poller_puts}
use Rattle.steer_model.specs.Steps.Pollers.{poller_takes, poller_weighs}

-- The machine and the answer after a step of one event or a command; a step of many events changes
-- nothing here.
abbrev pub simple : Machine → Step → StepOutcome
simple m act.Arrive = arrive m
simple m (act.Take q) = poller_takes m q
simple m (act.Enter q) = by_rx m (event.Enter q)
simple m (act.Look q) = look m q
simple m (act.Weigh q) = poller_weighs m q
simple m (act.Put q) = poller_puts m q
simple m (act.Ask q) = ask m q
simple m (act.Leave q) = poller_leaves m q
simple m (act.Pull c) = by_rx m (event.Pull c)
simple m (act.Deliver c) = cpu_delivers m c
simple m (act.Retire c) = by_rx m (event.Retire c)
simple m (act.Record flow) = record_flow m flow
simple m (act.Send a) = send m a
simple m (act.TEnter a) = by_tx m (event.Enter a)
simple m (act.TLeave a) = by_tx m (event.Leave a)
simple m (act.TWeigh a) = tweigh m a
simple m (act.TPut a) = tput m a
simple m (act.TPull t) = by_tx m (event.Pull t)
simple m (act.TDeliver t) = by_tx m (event.Deliver t 0)
simple m (act.TRetire t) = by_tx m (event.Retire t)
simple m (act.Give c) = given m c
simple m (act.Poll q) = idle_step m idle.Nothing
simple m (act.Drain c) = idle_step m idle.Nothing
simple m (act.Reply a) = idle_step m idle.Nothing
simple m (act.Serve a) = idle_step m idle.Nothing
simple m (act.Ship t) = idle_step m idle.Nothing
simple m act.Sweep = idle_step m idle.Nothing

-- whether a step is a command
abbrev pub is_command : Step → Bool
is_command (act.Give c) = true
is_command _ = false

-- whether a step is work: entering, leaving and recording are not
abbrev pub is_work : Step → Bool
is_work (act.Enter q) = false
is_work (act.Leave q) = false
is_work (act.TEnter a) = false
is_work (act.TLeave a) = false
is_work (act.Record flow) = false
is_work _ = true

-- whether an answer is that the step was idle
abbrev pub is_idle : Answer → Bool
is_idle (says.Idle why) = true
is_idle says.Done = false
is_idle (says.Busy why) = false
is_idle (says.CpuInUse user) = false
is_idle says.CpuOffline = false
is_idle (says.Expired n) = false

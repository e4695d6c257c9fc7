-- The words of steps, by what they are about.
use Rattle.std.specs.Prelude.{ℕ, List, Option, Some, None, Result, Ok, Err, if◌then◌else◌, bytes_eq}
use Rattle.std.specs.Prelude.{codes}
use Rattle.steer_base.specs.declared.command.Command.TheVariants.{Offline, Online, Expire}
use Rattle.steer_base.specs.declared.step.Step.{Step}
use Rattle.steer_base.specs.declared.step.Step.TheVariants.{Arrive, Take, Enter, Look, Weigh, Put}
use Rattle.steer_base.specs.declared.step.Step.TheVariants.{Ask, Leave, Pull, Deliver, Retire, Send}
use Rattle.steer_base.specs.declared.step.Step.TheVariants.{TEnter, TLeave, TWeigh, TPut, TPull}
use Rattle.steer_base.specs.declared.step.Step.TheVariants.{TDeliver, TRetire, Poll, Drain, Reply}
use Rattle.steer_base.specs.declared.step.Step.TheVariants.{Serve, Ship, Sweep, Give}
use Rattle.plan_reader.specs.declared.faults.cause.Cause.{Cause}
use Rattle.plan_reader.specs.declared.faults.cause.Cause.TheVariants.{WrongKind}

-- words without arguments
unfoldable pub bare_step : List ℕ → Result Step Cause
bare_step word =
    if bytes_eq word (codes "arrive") then Ok Arrive
    else (if bytes_eq word (codes "sweep") then Ok Sweep
    else (if bytes_eq word (codes "expire") then Ok (Give Expire)
    else Err WrongKind))

-- words about a receive queue
unfoldable pub queue_step : List ℕ → ℕ → Option Step
queue_step word queue =
    if bytes_eq word (codes "poll") then Some (Poll queue)
    else (if bytes_eq word (codes "take") then Some (Take queue)
    else (if bytes_eq word (codes "enter") then Some (Enter queue)
    else (if bytes_eq word (codes "look") then Some (Look queue)
    else (if bytes_eq word (codes "weigh") then Some (Weigh queue)
    else (if bytes_eq word (codes "put") then Some (Put queue)
    else (if bytes_eq word (codes "ask") then Some (Ask queue)
    else (if bytes_eq word (codes "leave") then Some (Leave queue)
    else None)))))))

-- words about a processor
unfoldable pub cpu_step : List ℕ → ℕ → Option Step
cpu_step word cpu =
    if bytes_eq word (codes "drain") then Some (Drain cpu)
    else (if bytes_eq word (codes "pull") then Some (Pull cpu)
    else (if bytes_eq word (codes "deliver") then Some (Deliver cpu)
    else (if bytes_eq word (codes "retire") then Some (Retire cpu)
    else (if bytes_eq word (codes "offline") then Some (Give (Offline cpu))
    else (if bytes_eq word (codes "online") then Some (Give (Online cpu))
    else None)))))

-- words about an application
unfoldable pub app_step : List ℕ → ℕ → Option Step
app_step word app =
    if bytes_eq word (codes "serve") then Some (Serve app)
    else (if bytes_eq word (codes "reply") then Some (Reply app)
    else (if bytes_eq word (codes "send") then Some (Send app)
    else (if bytes_eq word (codes "tenter") then Some (TEnter app)
    else (if bytes_eq word (codes "tleave") then Some (TLeave app)
    else (if bytes_eq word (codes "tweigh") then Some (TWeigh app)
    else (if bytes_eq word (codes "tput") then Some (TPut app)
    else None))))))

-- words about a transmit queue
unfoldable pub tx_step : List ℕ → ℕ → Option Step
tx_step word tx =
    if bytes_eq word (codes "ship") then Some (Ship tx)
    else (if bytes_eq word (codes "tpull") then Some (TPull tx)
    else (if bytes_eq word (codes "tdeliver") then Some (TDeliver tx)
    else (if bytes_eq word (codes "tretire") then Some (TRetire tx)
    else None)))

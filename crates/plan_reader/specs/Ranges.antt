-- The ranges of a plan's fields.
use Rattle.std.specs.Prelude.{ℕ, ◌+◌, ◌^◌, ◌<◌, ◌≤◌, ◌&&◌, Bool, true, List, [], length, Option}
use Rattle.std.specs.Prelude.{Some}
use Rattle.std.specs.Prelude.{None, nat_lt}
use Rattle.std.specs.List.{AllPass, filter_map}
use Rattle.steer_base.specs.declared.command.Command.{Command}
use Rattle.steer_base.specs.declared.command.Command.TheVariants.{Mask, Flows, Sock, Offline}
use Rattle.steer_base.specs.declared.command.Command.TheVariants.{Online, XCpus, XQueues, Reta}
use Rattle.steer_base.specs.declared.command.Command.TheVariants.{Stand, Expire}
use Rattle.steer_base.specs.declared.limits.TheConstants.{MAX_FLOW_COUNT, MAX_PACKETS}
use Rattle.steer_base.specs.declared.limits.TheConstants.{MAX_SOCKET_SIZE}
use Rattle.steer_base.specs.declared.step.Detach.{Detach}
use Rattle.steer_base.specs.declared.step.Step.{Step}
use Rattle.steer_base.specs.declared.step.Step.TheVariants as step
use Rattle.plan_reader.specs.declared.settings.sizes.Sizes.{Sizes}
use Rattle.plan_reader.specs.declared.plan.QueuePlan.{QueuePlan}
use Rattle.plan_reader.specs.declared.plan.TxPlan.{TxPlan}
use Rattle.plan_reader.specs.declared.plan.Steps.{Steps}
use Rattle.plan_reader.specs.declared.plan.Steps.TheVariants as steps

-- the length of a list is from `low` to `high`
pub record HasLength {X : Type 0} (low high : ℕ) (list : List X) : Type 0 where
  pub at_least : low ≤ length list
  pub at_most : length list ≤ high

-- the settings of a receive queue are within their ranges
pub record QueueIsWithin (cpus : ℕ) (queue : QueuePlan) : Type 0 where
  pub home : queue.home < cpus
  pub mask : queue.mask.0 < 2 ^ cpus
  pub flows : queue.flows ≤ MAX_FLOW_COUNT

-- the settings of a transmit queue are within their ranges
pub record TxIsWithin (cpus queues : ℕ) (tx : TxPlan) : Type 0 where
  pub cpus_below : tx.cpus.0 < 2 ^ cpus
  pub queues_below : tx.queues < 2 ^ queues

-- a detachment is within its ranges
pub record DetachIsWithin (detach : Detach) : Type 0 where
  pub tap : detach.tap ≤ 31
  pub after : detach.after ≤ MAX_PACKETS

-- whether a command names only processors, queues and applications of the plan, and its sizes are
-- within their ranges
abbrev pub command_is_within : Sizes → Command → Bool
command_is_within sizes (Mask queue mask) =
    nat_lt queue sizes.queues && nat_lt mask.0 (2 ^ sizes.cpus)
command_is_within sizes (Flows queue count) = nat_lt queue sizes.queues && nat_lt count
    (MAX_FLOW_COUNT + 1)
command_is_within sizes (Sock size) = nat_lt size (MAX_SOCKET_SIZE + 1)
command_is_within sizes (Offline cpu) = nat_lt cpu sizes.cpus
command_is_within sizes (Online cpu) = nat_lt cpu sizes.cpus
command_is_within sizes (XCpus tx mask) = nat_lt tx sizes.tx && nat_lt mask.0 (2 ^ sizes.cpus)
command_is_within sizes (XQueues tx queues) = nat_lt tx sizes.tx && nat_lt queues (2 ^ sizes.queues)
command_is_within sizes (Reta place queue) = nat_lt place 128 && nat_lt queue sizes.queues
command_is_within sizes (Stand app cpu) = nat_lt app sizes.apps && nat_lt cpu sizes.cpus
command_is_within sizes Expire = true

-- whether a step names only processors, queues, applications and packets that a plan can have
abbrev pub step_is_within : Sizes → Step → Bool
step_is_within sizes step.Arrive = true
step_is_within sizes (step.Take queue) = nat_lt queue sizes.queues
step_is_within sizes (step.Enter queue) = nat_lt queue sizes.queues
step_is_within sizes (step.Look queue) = nat_lt queue sizes.queues
step_is_within sizes (step.Weigh queue) = nat_lt queue sizes.queues
step_is_within sizes (step.Put queue) = nat_lt queue sizes.queues
step_is_within sizes (step.Ask queue) = nat_lt queue sizes.queues
step_is_within sizes (step.Leave queue) = nat_lt queue sizes.queues
step_is_within sizes (step.Pull cpu) = nat_lt cpu sizes.cpus
step_is_within sizes (step.Deliver cpu) = nat_lt cpu sizes.cpus
step_is_within sizes (step.Retire cpu) = nat_lt cpu sizes.cpus
step_is_within sizes (step.Record flow) = nat_lt flow MAX_PACKETS
step_is_within sizes (step.Send app) = nat_lt app sizes.apps
step_is_within sizes (step.TEnter app) = nat_lt app sizes.apps
step_is_within sizes (step.TLeave app) = nat_lt app sizes.apps
step_is_within sizes (step.TWeigh app) = nat_lt app sizes.apps
step_is_within sizes (step.TPut app) = nat_lt app sizes.apps
step_is_within sizes (step.TPull tx) = nat_lt tx sizes.tx
step_is_within sizes (step.TDeliver tx) = nat_lt tx sizes.tx
step_is_within sizes (step.TRetire tx) = nat_lt tx sizes.tx
step_is_within sizes (step.Poll queue) = nat_lt queue sizes.queues
step_is_within sizes (step.Drain cpu) = nat_lt cpu sizes.cpus
step_is_within sizes (step.Reply app) = nat_lt app sizes.apps
step_is_within sizes (step.Serve app) = nat_lt app sizes.apps
step_is_within sizes (step.Ship tx) = nat_lt tx sizes.tx
step_is_within sizes step.Sweep = true
step_is_within sizes (step.Give command) = command_is_within sizes command

-- the steps of a list, none of a seed
abbrev pub steps_in_list : Steps → List Step
steps_in_list (steps.List list) = list
steps_in_list (steps.Seed seed count) = []

-- the command that a step gives
abbrev pub command_in : Step → Option Command
command_in (step.Give command) = Some command
command_in _ = None

-- the commands of a list, in their order, and none of a seed
abbrev pub commands_of : Steps → List Command
commands_of steps = filter_map command_in (steps_in_list steps)

-- the count of a seed, 0 of a list
abbrev pub seeded_count : Steps → ℕ
seeded_count (steps.List list) = 0
seeded_count (steps.Seed seed count) = count

-- the steps are within their ranges for a plan of these sizes
pub record StepsAreWithin (sizes : Sizes) (steps : Steps) : Type 0 where
  pub list_length : length (steps_in_list steps) ≤ 1000000
  pub list_within : AllPass (step_is_within sizes) (steps_in_list steps)
  pub count : seeded_count steps ≤ 999999

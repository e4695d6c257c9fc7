-- What holds of the machine after any steps, as far as a step can be asked by it.
use Rattle.std.specs.Prelude.{◌≡◌, true, List, length}
use Rattle.std.specs.List.{AllPass}
use Rattle.steer_base.specs.declared.command.Command.{Command}
use Rattle.steer_base.specs.declared.step.Step.{Step}
use Rattle.hop_model.specs.Hop.{arrivals_of, out_at}
use Rattle.history.specs.Lists.{list_at}
use Rattle.plan_reader.specs.Ranges.{command_is_within, step_is_within}
use Rattle.plan_reader.specs.declared.settings.sizes.Sizes.{Sizes}
use Rattle.steer_model.specs.State.Ranges.{IsGiven}
use Rattle.steer_model.specs.State.Machine.{Machine}
use Rattle.steer_model.specs.State.Setup.{Setup}
use Rattle.steer_invariant.specs.HopInvariants.{AllTaken, AreNoted, BySettings, RxInvariant}
use Rattle.steer_invariant.specs.HopInvariants.{TxInvariant}
use Rattle.steer_invariant.specs.ListInvariants.{Came, ListSizes, Replied, Routes, SettingSizes}

-- The part of the invariant that each step needs to be made and to be followed by the next.
pub record StepInvariant (m : Machine) : Type 0 where
  -- the plan and the capture are within their ranges
  pub given : IsGiven m.setup
  -- the receive hop is sound, loses nothing, and its gate is open
  pub rx : RxInvariant m.setup m.rx
  -- the transmit hop is sound, loses and drops nothing, and its gate is open
  pub tx : TxInvariant m.setup m.tx
  -- each application took all replies that it began
  pub taken : AllTaken m.tx
  -- the choices of the receive hop agree with the settings in force
  pub by : BySettings m.setup m.settings m.rx
  -- each poller's note fits its hand
  pub noted : AreNoted m.notes m.rx
  -- there is a list for each poller and each application
  pub lists : ListSizes m.setup m.notes m.sent m.writes
  -- there is a setting for each queue and each application, and the socket table has its size
  pub sizes : SettingSizes m.setup m.settings m.socket
  -- each route leads to a queue that exists
  pub routes : Routes m.setup.homes m.settings.reta m.filters m.notes
  -- the arrivals are the first packets of the capture, in order
  pub came : Came m.setup.packets m.arrivals (arrivals_of m.rx)
  -- the replies are to the first packets of each inbox, in order
  pub replied : Replied (list_at m.sent) (out_at m.rx.bare) (arrivals_of m.tx)

-- the numbers of processors, queues, applications and transmit queues of a machine, as a plan
-- counts them
abbrev pub sizes_in : Setup → Sizes
sizes_in p = record { cpus = p.cpus; queues = length p.homes; apps = p.apps; tx = p.txs }

-- A step names what the machine has.
abbrev pub IsNamed : Setup → Step → Type 0
IsNamed p s = step_is_within (sizes_in p) s ≡ true

-- Each of some steps names what the machine has.
abbrev pub AreNamed : Setup → List Step → Type 0
AreNamed p ss = AllPass (step_is_within (sizes_in p)) ss

-- A command names what the machine has.
abbrev pub IsCommandNamed : Setup → Command → Type 0
IsCommandNamed p c = command_is_within (sizes_in p) c ≡ true
